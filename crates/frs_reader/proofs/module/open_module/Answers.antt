-- `module::open_module` meets its contract. Assumes nothing.
use mathlib.Core.Path.{sym, ◌∙◌}
use Rattle.frs_reader.proofs.Modules.{header_refused, header_empty, header_long, header_block}
use Rattle.std.proofs.lemmas.Result.{err_from_is_err_and}
use Rattle.frs_reader.proofs.module.open_module.Goals as goal

pub returns-in_err-check_header : goal.returns-in_err-check_header
returns-in_err-check_header c =
    let p = err_from_is_err_and c.from_residual.result c.from_residual.ensures.1 in
    rw (p.1, p.2) (header_refused c.args.words.now c.args.at c.args.seen c.word-w.ensures c.in_err-check_header.ensures)

pub returns-then-flag_of-eq6 : goal.returns-then-flag_of-eq6
returns-then-flag_of-eq6 c =
    rw c.geo_of-geo.ensures (header_empty c.args.words.now c.args.at c.args.seen c.word-w.ensures c.in_ok-check_header.ensures (sym c.flag_of.ensures ∙ c.if-flag_of-eq6.true))

pub returns-then-words-end : goal.returns-then-words-end
returns-then-words-end c = c.refuse.ensures ∙ header_long c.args.words.now c.args.at c.args.seen c.word-w.ensures c.in_ok-check_header.ensures
    (λ f. c.if-flag_of-eq6.false (c.flag_of.ensures ∙ f)) c.if-words-end.true

pub returns : goal.returns
returns c =
    rw (c.geo_of-geo.ensures, c.word.ensures) (header_block c.args.words.now c.args.at c.args.seen c.word-w.ensures c.in_ok-check_header.ensures
    (λ f. c.if-flag_of-eq6.false (c.flag_of.ensures ∙ f)) c.if-words-end.false)
