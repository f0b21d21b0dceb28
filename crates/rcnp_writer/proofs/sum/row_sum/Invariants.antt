-- `sum::row_sum` meets its contract. Assumes nothing.
use Rattle.std.proofs.Common.{◌≡◌, ◌-◌, ◌%◌, ◌≤◌, length}
use Rattle.event.specs.Writing.{rows_in}
use Rattle.rcnp_writer.specs.Parts.{total_to}
use Rattle.rcnp_writer.proofs.sum.row_sum.Given as goal

abbrev pub invariant-loop-i : goal.invariant-loop-i
invariant-loop-i l = (l.i ≤ length (rows_in l.rows)) × (l.sum % 65536 ≡ total_to (rows_in l.rows) l.i % 65536)

abbrev pub decreases-loop-i : goal.decreases-loop-i
decreases-loop-i l = length (rows_in l.rows) - l.i
