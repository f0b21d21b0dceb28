-- The loops over two lists, once for every element: words of any width, and rows.
-- Assumes nothing.
use Prim.Native.Nat.{ℕ, zero, suc, ◌+◌, ◌*◌, ◌≤◌, ◌<◌, min}
use native.Mathlib.Nat.{zero-add, mul_comm}
use native.Mathlib.Numerals.{add-one}
use native.Mathlib.Omega.{arith}
use mathlib.Core.Path.{◌≡◌, refl, sym, ap, ◌∙◌}
use mathlib.Core.Logic.{◌⊎◌, ⊎_elim}
use mathlib.Core.Bool.{Bool, true, false, not, cond}
use mathlib.Core.List.{List, [], ◌∷◌, map}
use lib.ListN.{length, get_or, drop, length-drop}
use lib.Seq.{sets, sets-eq, length-sets, drop-cons}
use Rattle.std.proofs.lemmas.Bool.{not-true, not-false}
use Rattle.std.specs.List.{zip, filter, range_with_len}
use Rattle.event.specs.Outcome.{overlaid}
use Rattle.event.proofs.WordStores.{sets_append}
use Rattle.comparison.specs.Differences.{Difference, difference, differences_from, entry, entries}
use Rattle.comparison.proofs.Entries.{entries_length}

-- of two slices whose elements n takes to those of the lists: how many differ,
module _ {A B : Type 0} (same : A → A → Bool) (n : B → A) where
  abbrev pub apart : B × B → Bool
  apart p = not (same (n p.0) (n p.1))

  pub counted : (a b : List B) (i : ℕ) → length (differences_from same i (map n a) (map n b)) ≡ length (filter apart (zip a b))
  unfolding differences_from
  counted [] b i = refl
  counted (x ∷ xs) [] i = refl
  counted (x ∷ xs) (y ∷ ys) i = go (same (n x) (n y)) _ _ (counted xs ys (i + 1))
    where
      go : (t : Bool) (ds : List (Difference A)) (ps : List (B × B)) → length ds ≡ length ps
          → length (cond t ds (difference i (n x) (n y) ∷ ds)) ≡ length (cond (not t) ((x, y) ∷ ps) ps)
      go true ds ps e = e
      go false ds ps e = ap suc e

  -- and the pairs of elements that are left from index k on, of which x and y come next, or none do
  module _ {i k k' : ℕ} {a b a' b' : List B} {x y : B} (p : a ≡ x ∷ a') (q : b ≡ y ∷ b') (e : i ≡ k) (f : k' ≡ k + 1) where
    pub next_apart : apart (x, y) ≡ true → differences_from same k (map n a) (map n b) ≡ difference i (n x) (n y) ∷ differences_from same k' (map n a') (map n b')
    unfolding differences_from
    next_apart h = rw (p, q, e, f, not-true (same (n x) (n y)) h)

    pub next_same : apart (x, y) ≡ false → differences_from same k (map n a) (map n b) ≡ differences_from same k' (map n a') (map n b')
    unfolding differences_from
    next_same h = rw (p, q, f, not-false (same (n x) (n y)) h)

  pub no_pair : (k : ℕ) (a b : List B) → (a ≡ []) ⊎ (b ≡ []) → differences_from same k (map n a) (map n b) ≡ []
  unfolding differences_from
  no_pair k a [] h = no_second (map n a)
    where
      no_second : (x : List A) → differences_from same k x [] ≡ []
      no_second [] = refl
      no_second (x ∷ xs) = refl
  no_pair k a (y ∷ b) h = ⊎_elim (λ e. rw e) (λ e. absurd (omega (arith, ap length e))) h

module _ {A : Type 0} (same : A → A → Bool) (a b : List A) where
  -- the differences from index i on
  abbrev pub from : ℕ → List (Difference A)
  from i = differences_from same i (drop i a) (drop i b)

  pub from_end : (i : ℕ) → min (length a) (length b) ≤ i → from i ≡ []
  unfolding differences_from
  from_end i h = none (drop i a) (drop i b) (simp length-drop (omega arith))
    where
      none : (x y : List A) → min (length x) (length y) ≡ 0 → differences_from same i x y ≡ []
      none [] y h = refl
      none (x ∷ xs) [] h = refl
      none (x ∷ xs) (y ∷ ys) h = absurd (omega arith)

  from_here : (i : ℕ) (z : A) → i < min (length a) (length b) → from i ≡ cond (same (get_or a i z) (get_or b i z)) (from (i + 1)) (difference i (get_or a i z) (get_or b i z) ∷ from (i + 1))
  unfolding differences_from
  from_here i z h =
      let ha : i < length a = omega arith in
      let hb : i < length b = omega arith in
      rw (drop-cons a i z ha, drop-cons b i z hb, add-one)

  -- or by their index
  abbrev pub apart_at : A → ℕ → Bool
  apart_at z i = not (same (get_or a i z) (get_or b i z))

  module _ (z : A) {i : ℕ} (h : i < min (length a) (length b)) where
    pub from_apart : apart_at z i ≡ true → from i ≡ difference i (get_or a i z) (get_or b i z) ∷ from (i + 1)
    from_apart t = from_here i z h ∙ rw (not-true (same (get_or a i z) (get_or b i z)) t)

    pub from_same : apart_at z i ≡ false → from i ≡ from (i + 1)
    from_same t = from_here i z h ∙ rw (not-false (same (get_or a i z) (get_or b i z)) t)

  pub counted_at : (z : A) (m i : ℕ) → i + m ≡ min (length a) (length b) → length (from i) ≡ length (filter (apart_at z) (range_with_len i m))
  counted_at z zero i h = ap length (from_end i (omega arith))
  counted_at z (suc m) i h = ap length (from_here i z (omega arith)) ∙ go (same (get_or a i z) (get_or b i z)) _ _ (counted_at z m (i + 1) (omega arith))
    where
      go : (t : Bool) (ds : List (Difference A)) (is : List ℕ) → length ds ≡ length is
          → length (cond t ds (difference i (get_or a i z) (get_or b i z) ∷ ds)) ≡ length (cond (not t) (i ∷ is) is)
      go true ds is e = e
      go false ds is e = ap suc e

-- filling: entries of w numbers each over the list `before`; `found` of all are put, those left are to come
pub record Filling {A : Type 0} (numbers : A → List ℕ) (w : ℕ) (all : List (Difference A)) (before : List ℕ) (left : List (Difference A)) (found : ℕ) (list : List ℕ) : Type 0 where
  pub size : length list ≡ length before
  pub room : found + length left ≡ length all
  pub rest : sets list (w * found) (entries numbers left) ≡ sets before 0 (entries numbers all)

module _ {A : Type 0} {numbers : A → List ℕ} {w : ℕ} {all : List (Difference A)} {before : List ℕ} {d : Difference A} {left : List (Difference A)} {found : ℕ} {list : List ℕ}
    (f : Filling numbers w all before (d ∷ left) found list) where
  pub fill_room : found + 1 ≤ length all
  fill_room = omega (arith, f.room)

  pub fill_more : {list' : List ℕ} → length (entry numbers d) ≡ w → w * found + w ≡ w * (found + 1) → list' ≡ sets list (w * found) (entry numbers d)
      → Filling numbers w all before left (found + 1) list'
  fill_more {list'} l k q =
      let at : w * (found + 1) ≡ w * found + length (entry numbers d) = sym k ∙ ap (w * found +◌) (sym l) in
      record {
        size = rw q (length-sets list (w * found) (entry numbers d) ∙ f.size);
        room = omega (arith, f.room);
        rest = rw (q, at) (sets_append list (entry numbers d) (entries numbers left) (w * found) ∙ f.rest);
      }

pub fill_done : {A : Type 0} {numbers : A → List ℕ} {w : ℕ} {all : List (Difference A)} {before list : List ℕ} {found : ℕ} → Filling numbers w all before [] found list
    → ((d : Difference A) → length (entry numbers d) ≡ w) → w * length all ≤ length before → list ≡ overlaid (entries numbers all) before
fill_done {numbers = numbers} {w = w} {all = all} {before = before} f l room =
    let size : length (entries numbers all) ≡ w * length all = entries_length numbers w l all ∙ mul_comm (length all) w in
    f.rest ∙ sets-eq (entries numbers all) before 0 (rw (zero-add, size) room) ∙ rw zero-add
