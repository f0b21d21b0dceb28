-- `line::count_words` meets its contract. Assumes nothing.
use mathlib.Core.Path.{sym, ◌∙◌}
use borrow.Author.Tests.{lt-leb, le-leb}
use Rattle.hex_line.proofs.LineLaws.{formed_long, firsts_length}
use Rattle.hex_line.proofs.line.count_words.Goals as goal

pub overflow_sub-count : goal.overflow_sub-count
overflow_sub-count c = formed_long _ _ _ (sym c.well_formed-2.ensures ∙ c.if-not-well_formed.false)

pub returns-then-room-count : goal.returns-then-room-count
returns-then-room-count c = c.refuse-then-room-count.ensures ∙ rw (sym c.well_formed-2.ensures ∙ c.if-not-well_formed.false, firsts_length, lt-leb _ _ c.if-room-count.true)

pub returns : goal.returns
returns c = rw (sym c.well_formed-2.ensures ∙ c.if-not-well_formed.false, firsts_length, le-leb _ _ c.if-room-count.false, firsts_length)
