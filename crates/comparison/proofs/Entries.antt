-- The numbers of a list by its entries: how many.
-- Assumes nothing.
use Prim.Native.Nat.{ℕ, ◌+◌, ◌*◌}
use native.Mathlib.Nat.{zero-mul, suc-mul, add_comm}
use mathlib.Core.Path.{◌≡◌, sym, ◌∙◌}
use mathlib.Core.List.{List, [], ◌∷◌}
use lib.ListN.{length, length-append}
use Rattle.comparison.specs.Differences.{Difference, entry, entries}

module _ {A : Type 0} (numbers : A → List ℕ) (w : ℕ) (l : (d : Difference A) → length (entry numbers d) ≡ w) where
  pub entries_length : (ds : List (Difference A)) → length (entries numbers ds) ≡ length ds * w
  entries_length [] = sym (zero-mul w)
  entries_length (d ∷ ds) =
      let ih = entries_length ds in
      length-append (entry numbers d) (entries numbers ds) ∙ rw (l d, ih) (add_comm w (length ds * w) ∙ sym (suc-mul (length ds) w))
