-- Laws of planes: what stands at each pad, one hit more, and the sum.
-- Assumes nothing.
use Prim.Native.Nat.{ℕ, zero, suc, ◌+◌, ◌*◌, ◌/◌, ◌%◌, ◌<◌}
use native.Mathlib.Omega.{arith}
use mathlib.Core.Path.{◌≡◌, refl, sym, ap, ◌∙◌}
use mathlib.Core.Bool.{Bool, true, false}
use mathlib.Core.List.{List, [], ◌∷◌}
use lib.Dec.{eqb}
use lib.ListN.{length, get_or, set, length-set}
use lib.Seq.{ext_get_or, get_or-set_same, get_or-set_other}
use borrow.Author.Tests.{eqb-true, eqb-false}
use Rattle.page_layout.specs.Plane.{Plane, plane_of, at, Shape}
use Rattle.page_layout.proofs.Tables.{table_length, table_at}

pub plane_of_shape : (f : ℕ → ℕ) → Shape (plane_of f)
unfolding plane_of
plane_of_shape f = record { four = table_length 4 _; lines = λ c h. ap length (table_at 4 _ c [] h) ∙ table_length 64 _ }

pub plane_of_at : (f : ℕ → ℕ) (p : ℕ) → p < 256 → at (plane_of f) p ≡ f p
unfolding plane_of
plane_of_at f p h =
    let e : p % 64 + 64 * (p / 64) ≡ p = omega arith in
    ap (λ (l : List ℕ). get_or l (p % 64) 0) (table_at 4 _ (p / 64) [] (omega arith)) ∙ table_at 64 _ (p % 64) 0 (omega arith) ∙ ap f e

pub plane_ext : (p q : Plane) → Shape p → Shape q → ((k : ℕ) → k < 256 → at p k ≡ at q k) → p ≡ q
plane_ext p q s t h = ext_get_or [] p q (s.four ∙ sym t.four) (λ c l. line c (rw s.four at l))
  where
    line : (c : ℕ) → c < 4 → get_or p c [] ≡ get_or q c []
    line c l = ext_get_or 0 (get_or p c []) (get_or q c []) (s.lines c l ∙ sym (t.lines c l)) (λ k m. cell k (rw (s.lines c l) at m))
      where
        cell : (k : ℕ) → k < 64 → get_or (get_or p c []) k 0 ≡ get_or (get_or q c []) k 0
        cell k m =
            let d : (k + 64 * c) / 64 ≡ c = omega arith in
            let r : (k + 64 * c) % 64 ≡ k = omega arith in
            rw (d, r) at (h (k + 64 * c) (omega arith))

pub plane_is : (p : Plane) (f : ℕ → ℕ) → Shape p → ((k : ℕ) → k < 256 → at p k ≡ f k) → p ≡ plane_of f
plane_is p f s h = plane_ext p (plane_of f) s (plane_of_shape f) (λ k l. h k l ∙ sym (plane_of_at f k l))

pub planes_same : (f g : ℕ → ℕ) → ((k : ℕ) → k < 256 → f k ≡ g k) → plane_of f ≡ plane_of g
planes_same f g h = plane_is (plane_of f) g (plane_of_shape f) (λ k l. plane_of_at f k l ∙ h k l)

-- what holds of the element and of the new value holds of the element after a store
get_d_set_keeps : {A : Type 0} (P : A → Type 0) (l : List A) (i j : ℕ) (v d : A) → P (get_or l j d) → P v → P (get_or (set l i v) j d)
get_d_set_keeps P [] i j v d h k = h
get_d_set_keeps P (x ∷ xs) zero zero v d h k = k
get_d_set_keeps P (x ∷ xs) zero (suc j) v d h k = h
get_d_set_keeps P (x ∷ xs) (suc i) zero v d h k = h
get_d_set_keeps P (x ∷ xs) (suc i) (suc j) v d h k = get_d_set_keeps P xs i j v d h k

-- a plane with v at a connector and a channel
abbrev pub put : Plane → (connector channel v : ℕ) → Plane
put p c k v = set p c (set (get_or p c []) k v)

module _ (p : Plane) (s : Shape p) (pad v : ℕ) (h : pad < 256) where
  pub put_shape : Shape (put p (pad / 64) (pad % 64) v)
  put_shape = record {
    four = rw length-set s.four;
    lines = λ j l. get_d_set_keeps (λ (l : List ℕ). length l ≡ 64) p (pad / 64) j _ [] (s.lines j l) (rw length-set (s.lines (pad / 64) (omega arith)));
  }

  pub put_same : at (put p (pad / 64) (pad % 64) v) pad ≡ v
  put_same =
      ap (λ (l : List ℕ). get_or l (pad % 64) 0) (get_or-set_same p (pad / 64) _ [] (rw s.four (omega arith)))
      ∙ get_or-set_same (get_or p (pad / 64) []) (pad % 64) v 0 (rw (s.lines (pad / 64) (omega arith)) (omega arith))

  pub put_other : (k : ℕ) → (k ≡ pad → ⊥) → at (put p (pad / 64) (pad % 64) v) k ≡ at p k
  put_other k ne = go (eqb (k / 64) (pad / 64)) refl
    where
      go : (b : Bool) → eqb (k / 64) (pad / 64) ≡ b → at (put p (pad / 64) (pad % 64) v) k ≡ at p k
      go false e = ap (λ (l : List ℕ). get_or l (k % 64) 0) (get_or-set_other p (pad / 64) (k / 64) _ [] (eqb-false (k / 64) (pad / 64) e))
      go true e =
          let q : k / 64 ≡ pad / 64 = eqb-true (k / 64) (pad / 64) e in
          let other : k % 64 ≡ pad % 64 → ⊥ = λ r. ne (omega arith) in
          rw q (ap (λ (l : List ℕ). get_or l (k % 64) 0) (get_or-set_same p (pad / 64) _ [] (rw s.four (omega arith)))
          ∙ get_or-set_other (get_or p (pad / 64) []) (pad % 64) (k % 64) v 0 other)
