-- Two lists side by side, over any elements: where they differ, and what the longer one has beyond the other (document 02, #104).
-- Assumes nothing.
use Rattle.std.specs.Prelude.{ℕ, ◌+◌, Bool, cond, List, [], ◌∷◌, ◌++◌, ltb, length, drop}
use Rattle.event.specs.Parser.{each}

-- an index, and what stands there in the first and in the second
pub record Difference (A : Type 0) : Type 0 where
  pub index : ℕ
  pub first : A
  pub second : A

abbrev pub difference : {A : Type 0} → ℕ → A → A → Difference A
difference i x y = record { index = i; first = x; second = y }

-- each index below the shorter length where they differ, in rising order; the lists start at index i
unfoldable pub differences_from : {A : Type 0} → (A → A → Bool) → ℕ → List A → List A → List (Difference A)
differences_from same i [] ys = []
differences_from same i (x ∷ xs) [] = []
differences_from same i (x ∷ xs) (y ∷ ys) = cond (same x y) (differences_from same (i + 1) xs ys) (difference i x y ∷ differences_from same (i + 1) xs ys)

abbrev pub differences : {A : Type 0} → (A → A → Bool) → List A → List A → List (Difference A)
differences same = differences_from same 0

-- an entry of a lent list: the index, then what stands in the first, then what stands in the second
abbrev pub entry : {A : Type 0} → (A → List ℕ) → Difference A → List ℕ
entry numbers d = d.index ∷ (numbers d.first ++ numbers d.second)

abbrev pub entries : {A : Type 0} → (A → List ℕ) → List (Difference A) → List ℕ
entries numbers = each (entry numbers)

-- what the longer one has beyond the shared length; nothing if they are equally long
abbrev pub tail_of : {A : Type 0} → List A → List A → List A
tail_of a b = cond (ltb (length a) (length b)) (drop (length a) b) (drop (length b) a)
