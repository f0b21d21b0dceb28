-- `begin::scaler` meets its contract. Assumes nothing.
use native.Mathlib.Omega.{arith}
use mathlib.Core.Path.{sym, ◌∙◌}
use Rattle.frs_reader.proofs.Beginning.{scaler_footer_lem, scaler_read}
use Rattle.frs_reader.proofs.PatternUnit.{part_refused}
use borrow.Author.Rules.{rules}
use Rattle.frs_reader.proofs.begin.scaler.Goals as goal

pub returns-then-word-ne-SCALER_END : goal.returns-then-word-ne-SCALER_END
returns-then-word-ne-SCALER_END c =
    part_refused c.refuse-then-word-ne-SCALER_END.ensures
    (scaler_footer_lem c.args.words.now (search rules) (omega arith) (omega arith) (omega (arith, c.word-header.ensures)) (λ i. omega (arith, c.type_inv.words i)) c.if-words-end.false
    (λ e. c.if-word-ne-SCALER_END.true (c.word.ensures ∙ e)))

pub returns : goal.returns
returns c = scaler_read c.args.words.now (search rules) (omega arith) (omega arith) (omega (arith, c.word-header.ensures)) (λ i. omega (arith, c.type_inv.words i)) c.if-words-end.false
    (sym c.word.ensures ∙ c.if-word-ne-SCALER_END.false) (c.store_scalers.ensures ∙ rw c.store_row.ensures)
