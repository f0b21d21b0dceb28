-- `lines::list_lines` meets its contract. The invariant: all that was to be written is still to be written. Assumes nothing.
use Prim.Native.Nat.{◌-◌}
use lib.ListN.{length}
use Rattle.list_input.specs.Run.{Inside, Kept}
use Rattle.list_input.proofs.lines.list_lines.Given as goal

abbrev pub invariant-loop-count : goal.invariant-loop-count
invariant-loop-count l = Inside (length l.input) (length l.initial.text) l.listed × Kept l.order l.ended l.input l.initial.listed l.initial.text l.listed l.text

abbrev pub decreases-loop-count : goal.decreases-loop-count
decreases-loop-count l = l.listed.end - l.listed.from
