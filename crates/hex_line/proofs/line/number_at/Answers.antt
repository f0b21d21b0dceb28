-- `line::number_at` meets its contract. Assumes nothing.
use mathlib.Core.Path.{sym, ◌∙◌}
use Rattle.hex_line.specs.Line.{number_at}
use Rattle.hex_line.proofs.line.number_at.Goals as goal

pub returns-then-not-has_room : goal.returns-then-not-has_room
unfolding number_at
returns-then-not-has_room c = rw (sym c.has_room.ensures ∙ c.if-not-has_room.true)

pub returns : goal.returns
unfolding number_at
returns c = c.value.ensures ∙ rw (sym c.has_room.ensures ∙ c.if-not-has_room.false)
