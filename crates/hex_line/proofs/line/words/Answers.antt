-- `line::words` meets its contract. Assumes nothing.
use mathlib.Core.Path.{sym, ◌∙◌}
use Rattle.hex_line.proofs.LineLaws.{words_short, words_long}
use Rattle.hex_line.proofs.line.words.Goals as goal

pub returns-then-width-eq16-clause-words : goal.returns-then-width-eq16-clause-words
returns-then-width-eq16-clause-words c = words_short _ _ _ _ (sym c.width.ensures ∙ c.if-width-eq16.true) (rw c.letter.ensures at c.fill.ensures.buffer)

pub returns-clause-longwords : goal.returns-clause-longwords
returns-clause-longwords c = words_long _ _ _ _ (λ e. c.if-width-eq16.false (c.width.ensures ∙ e)) (rw c.letter-2.ensures at c.fill-2.ensures.buffer)
