-- `counts::total` meets its contract. Each count has 32 bits. Assumes nothing.
use Prim.Native.Nat.{◌*◌, ◌≤◌}
use mathlib.Core.Path.{◌≡◌}
use lib.ListN.{take}
use Rattle.std.specs.Prelude.{sum}
use Rattle.page_text.proofs.counts.total.Given as goal

abbrev pub invariant-loop-count : goal.invariant-loop-count
invariant-loop-count l = (l.hits ≡ sum (take l.count-index l.counts)) × (l.hits ≤ 4294967295 * l.count-index)
