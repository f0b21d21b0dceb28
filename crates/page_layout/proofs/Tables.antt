-- Laws of tables, and of a test over a list.
-- Assumes nothing.
use Prim.Native.Nat.{ℕ, zero, suc, ◌+◌, ◌≤◌, ◌<◌}
use native.Mathlib.Numerals.{add-one}
use native.Mathlib.Omega.{arith}
use mathlib.Core.Path.{◌≡◌, refl, ap}
use mathlib.Core.Bool.{Bool, true, false, ◌&&◌}
use mathlib.Core.Logic.{◌⊎◌, inl, inr}
use mathlib.Core.List.{List, [], ◌∷◌, ◌++◌}
use lib.Dec.{leb, ltb}
use lib.ListN.{length, get_or, drop}
use lib.Seq.{drop-cons}
use borrow.Author.Tests.{ltb-true, ltb-false, leb-true, le-leb, lt-leb}
use Rattle.page_layout.specs.Plane.{table}
use Rattle.page_layout.specs.Page.{all_up_to}

pub lt_or_ge : (m n : ℕ) → (m < n) ⊎ (n ≤ m)
lt_or_ge m n = side (ltb m n) refl
  where
    side : (b : Bool) → ltb m n ≡ b → (m < n) ⊎ (n ≤ m)
    side true e = inl (ltb-true m n e)
    side false e = inr (ltb-false m n e)

module _ {A : Type 0} where
  pub table_length : (n : ℕ) (f : ℕ → A) → length (table n f) ≡ n
  unfolding table
  table_length zero f = refl
  table_length (suc n) f = ap suc (table_length n (λ k. f (suc k)))

  pub table_at : (n : ℕ) (f : ℕ → A) (k : ℕ) (d : A) → k < n → get_or (table n f) k d ≡ f k
  unfolding table
  table_at zero f k d h = absurd (omega arith)
  table_at (suc n) f zero d h = refl
  table_at (suc n) f (suc k) d h = table_at n (λ k. f (suc k)) k d (omega arith)

  pub table_ext : (n : ℕ) (f g : ℕ → A) → ((k : ℕ) → k < n → f k ≡ g k) → table n f ≡ table n g
  unfolding table
  table_ext zero f g h = refl
  table_ext (suc n) f g h = rw (h 0 (omega arith), table_ext n (λ k. f (suc k)) (λ k. g (suc k)) (λ k l. h (suc k) (omega arith)))

  pub table_snoc : (n : ℕ) (f : ℕ → A) → table (suc n) f ≡ table n f ++ f n ∷ []
  unfolding table
  table_snoc zero f = refl
  table_snoc (suc n) f = ap (λ (l : List A). f 0 ∷ l) (table_snoc n (λ k. f (suc k)))

pub and_true : (a b : Bool) → a && b ≡ true → (a ≡ true) × (b ≡ true)
and_true true b h = (refl, h)
and_true false b h = let z : ◌≡◌ {A = ℕ} 0 1 = cc in absurd (omega arith)

pub up_to_at : (most : ℕ) (l : List ℕ) (k : ℕ) → all_up_to most l ≡ true → get_or l k 0 ≤ most
unfolding all_up_to
up_to_at most [] k h = omega arith
up_to_at most (n ∷ ns) zero h = leb-true n most (and_true (leb n most) (all_up_to most ns) h).0
up_to_at most (n ∷ ns) (suc k) h = up_to_at most ns k (and_true (leb n most) (all_up_to most ns) h).1

pub table_up_to : (most n : ℕ) (f : ℕ → ℕ) → ((k : ℕ) → k < n → f k ≤ most) → all_up_to most (table n f) ≡ true
unfolding all_up_to table
table_up_to most zero f h = refl
table_up_to most (suc n) f h = rw (le-leb (f 0) most (h 0 (omega arith))) (table_up_to most n (λ k. f (suc k)) (λ k l. h (suc k) (omega arith)))

-- a loop over the list: what is left tells what the whole does
module _ (most : ℕ) (l : List ℕ) (k : ℕ) (h : k < length l) where
  pub up_to_keep : get_or l k 0 ≤ most → all_up_to most (drop (k + 1) l) ≡ all_up_to most (drop k l)
  unfolding all_up_to
  up_to_keep le = rw (add-one, drop-cons l k 0, le-leb (get_or l k 0) most)

  pub up_to_fails : most < get_or l k 0 → all_up_to most (drop k l) ≡ false
  unfolding all_up_to
  up_to_fails lt = rw (drop-cons l k 0, lt-leb (get_or l k 0) most)
