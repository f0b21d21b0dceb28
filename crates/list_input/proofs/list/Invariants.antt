-- `list` meets its contract. The invariant: turns from the start led here, and the text of the last stands in the buffer. Assumes nothing.
use Prim.Native.Nat.{◌-◌}
use mathlib.Core.Path.{◌≡◌}
use mathlib.Core.Bool.{false}
use lib.ListN.{length, take}
use Rattle.list_input.specs.Run.{Inside, point_of}
use Rattle.list_input.specs.Turns.{most_turns}
use Rattle.list_input.proofs.Turns.{Told}
use Rattle.list_input.proofs.list.Given as goal

abbrev pub invariant-loop-turn : goal.invariant-loop-turn
invariant-loop-turn l =
    (l.state.over ≡ false)
    × Inside (length l.buffers.input) (length l.buffers.text) l.state.run
    × Told l.order (point_of false l.state l.buffers.input) (take l.state.run.at l.buffers.text) (most_turns - l._turn)
