-- `module::store_values` meets its contract. Assumes nothing.
use Prim.Native.Nat.{◌+◌}
use mathlib.Core.Path.{◌≡◌}
use mathlib.Core.List.{map}
use lib.ListN.{length}
use lib.Seq.{slice}
use Rattle.event.specs.Scanning.{store_rows}
use Rattle.frs_reader.specs.Modules.{row_of}
use Rattle.frs_reader.proofs.module.store_values.Given as goal

abbrev pub invariant-loop-i : goal.invariant-loop-i
invariant-loop-i l = (length l.rows ≡ length l.initial.rows) × (l.rows ≡ store_rows l.initial.rows l.at (map (row_of l.geo) (slice 0 (0 + l.i) l.longwords)))
