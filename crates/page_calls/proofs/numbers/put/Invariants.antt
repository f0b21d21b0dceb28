-- `put` meets its contract. Assumes nothing.
use mathlib.Core.Path.{◌≡◌}
use lib.ListN.{length}
use lib.Seq.{paste}
use Rattle.page_calls.proofs.numbers.put.Given as goal

abbrev pub invariant-loop-i : goal.invariant-loop-i
invariant-loop-i g l = (length l.buffer ≡ length l.initial.buffer) × (l.buffer ≡ paste l.initial.buffer 0 l.items l.i)
