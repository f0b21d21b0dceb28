-- `main` meets its contract. Assumes nothing.
use Prim.Native.Nat.{ℕ}
use mathlib.Core.Path.{sym}
use lib.ListN.{length-replicate}
use Rattle.run_vectors.proofs.main.Goals as goal

pub slice_bounds-show_input-end : goal.slice_bounds-show_input-end
slice_bounds-show_input-end c = sym (length-replicate {0} {A = ℕ} 2097152 0)
