-- `output::run_length` meets its contract. Assumes nothing.
use Prim.Native.Nat.{ℕ, ◌+◌, ◌<◌}
use mathlib.Core.Path.{◌≡◌}
use lib.ListN.{get_or}
use Rattle.run_vectors.proofs.output.run_length.Given as goal

abbrev pub invariant-loop-times : goal.invariant-loop-times
invariant-loop-times l = (k : ℕ) → k < l.times → get_or l.lent (l.from + k) 0 ≡ l.element
