-- `vectors::repeat_row` meets its contract. The invariant: with the rows that are left stored too, the buffer is as it is to be. Assumes nothing.
use Prim.Native.Nat.{◌+◌, ◌-◌}
use mathlib.Core.Path.{◌≡◌}
use lib.ListN.{length, replicate}
use Rattle.event.specs.Scanning.{store_rows}
use Rattle.run_vectors.proofs.vectors.repeat_row.Given as goal

abbrev pub invariant-loop-next : goal.invariant-loop-next
invariant-loop-next l = (length l.elements ≡ length l.initial.elements)
    × (store_rows l.initial.elements l.at (replicate l.times l.row) ≡ store_rows l.elements l.next (replicate (l.at + l.times - l.next) l.row))
