-- `content::store_words` meets its contract. Assumes nothing.
use Prim.Native.Nat.{◌+◌}
use mathlib.Core.Path.{◌≡◌}
use mathlib.Core.List.{map}
use lib.ListN.{length}
use lib.Seq.{slice}
use Rattle.event.specs.Scanning.{store_rows}
use Rattle.rcnp_reader.proofs.content.store_words.Given as goal

abbrev pub invariant-loop-i : goal.invariant-loop-i
invariant-loop-i g l = (length l.rows ≡ length l.initial.rows) × (l.rows ≡ store_rows l.initial.rows l.at (map g.W.WordRow.row_of (slice l.first (l.first + l.i) l.words)))
