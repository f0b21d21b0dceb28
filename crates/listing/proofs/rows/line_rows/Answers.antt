-- `rows::line_rows` meets its contract. Assumes nothing.
use mathlib.Core.Path.{sym, ◌∙◌}
use Rattle.listing.proofs.LineRows.{words_read}
use Rattle.listing.proofs.rows.line_rows.Goals as goal

pub returns : goal.returns
returns c =
    let w = c.words.ensures in
    let t = words_read c.dialect_of_line-dialect.result c.args.order c.args.line.now c.args.words.now c.args.longwords.now c.args.rows.now (sym c.in_ok-count.was ∙ w.answer) w.words w.longwords
    c.min-short.ensures c.min-long.ensures (c.read.ensures.answer, c.read.ensures.rows) in
    rw (← c.dialect_of_line-dialect.ensures) (record { answer = t.answered; rows = t.written; words = w.words; longwords = w.longwords })
