-- `main` meets its contract. Assumes nothing.
use Prim.Native.Nat.{ℕ}
use native.Mathlib.Nat.{le_of_eq}
use mathlib.Core.Path.{sym}
use lib.ListN.{length-replicate}
use Rattle.compare_events.specs.Lengths.{most_input, most_text}
use Rattle.compare_events.proofs.main.Goals as goal

pub slice_bounds-compare_input-end-2 : goal.slice_bounds-compare_input-end-2
slice_bounds-compare_input-end-2 c = sym (length-replicate {0} {A = ℕ} most_text 0)

pub compare_input-requires-clause-input_len : goal.compare_input-requires-clause-input_len
compare_input-requires-clause-input_len c =
    (length-replicate {0} {A = ℕ} most_input 0, le_of_eq (sym (length-replicate {0} {A = ℕ} most_text 0)))
