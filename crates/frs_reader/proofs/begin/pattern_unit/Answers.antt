-- `begin::pattern_unit` meets its contract. Assumes nothing.
use native.Mathlib.Omega.{arith}
use mathlib.Core.Path.{sym, ◌∙◌}
use Rattle.frs_reader.proofs.PatternUnit.{pattern_register, pattern_multiplicity, pattern_footer, pattern_read, part_refused}
use Rattle.std.proofs.lemmas.Result.{err_from_is_err_and}
use Rattle.frs_reader.proofs.begin.pattern_unit.Goals as goal

pub returns-in_err-register : goal.returns-in_err-register
returns-in_err-register c =
    let p = err_from_is_err_and c.from_residual.result c.from_residual.ensures.1 in
    rw (p.1, p.2) (pattern_register c.args.words.now c.args.scaled.next c.if-words-at.false (sym c.word-2.ensures ∙ c.if-word-ne-PATTERN_HEADER.false) (omega (arith, c.if-words-at-lt4.false)) c.in_err-register.ensures)

pub returns-in_err-multiplicity : goal.returns-in_err-multiplicity
returns-in_err-multiplicity c =
    let p = err_from_is_err_and c.from_residual-in_err-multiplicity.result c.from_residual-in_err-multiplicity.ensures.1 in
    rw (p.1, p.2) (pattern_multiplicity c.args.words.now c.args.scaled.next c.if-words-at.false (sym c.word-2.ensures ∙ c.if-word-ne-PATTERN_HEADER.false) (omega (arith, c.if-words-at-lt4.false))
    c.in_ok-register.ensures c.in_err-multiplicity.ensures)

pub returns-then-word-ne-PATTERN_END : goal.returns-then-word-ne-PATTERN_END
returns-then-word-ne-PATTERN_END c = part_refused c.refuse-then-word-ne-PATTERN_END.ensures
    (pattern_footer c.args.words.now c.args.scaled.next c.if-words-at.false (sym c.word-2.ensures ∙ c.if-word-ne-PATTERN_HEADER.false) (omega (arith, c.if-words-at-lt4.false))
    c.in_ok-register.ensures c.in_ok-multiplicity.ensures (λ e. c.if-word-ne-PATTERN_END.true (c.word-3.ensures ∙ e)))

pub returns : goal.returns
returns c = pattern_read c.args.words.now c.args.scaled.next c.if-words-at.false (sym c.word-2.ensures ∙ c.if-word-ne-PATTERN_HEADER.false) (omega (arith, c.if-words-at-lt4.false))
    c.in_ok-register.ensures c.in_ok-multiplicity.ensures (sym c.word-3.ensures ∙ c.if-word-ne-PATTERN_END.false) c.requires.1 c.store_row.ensures
