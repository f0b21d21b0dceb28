-- `words_of` words of 16 bits meets its contract. Assumes nothing.
use Rattle.std.proofs.lemmas.Result.{err_from_is_err_and}
use Rattle.compare_events.proofs.LineLaws.{narrow, line_refused}
use Rattle.compare_events.proofs.line_word.U16LineWord.words_of.Goals as goal

pub returns-in_err-count : goal.returns-in_err-count
returns-in_err-count c =
    let p = err_from_is_err_and c.from_residual.result c.from_residual.ensures.1 in
    let w = narrow c.args.dialect c.requires.0 in
    rw (p.1, p.2) (line_refused c.args.dialect c.args.line.now c.args.words.now c.requires.1 (rw w at c.in_err-count.ensures.answer))
