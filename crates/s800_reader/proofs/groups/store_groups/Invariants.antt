-- `groups::store_groups` meets its contract. Assumes nothing.
use Prim.Native.Nat.{◌<◌}
use mathlib.Core.Path.{◌≡◌}
use lib.ListN.{length}
use Rattle.s800_reader.proofs.GroupRows.{Laid}
use Rattle.s800_reader.proofs.groups.store_groups.Given as goal

abbrev pub invariant-loop-i : goal.invariant-loop-i
invariant-loop-i l = (l.head < 65536) × (length l.rows ≡ length l.initial.rows) × Laid l.words l.from l.end l.first l.initial.rows l.head l.i l.rows
