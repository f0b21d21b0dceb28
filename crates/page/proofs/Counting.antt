-- A loop that counts rows into a plane.
-- Assumes nothing.
use Prim.Native.Nat.{ℕ, zero, suc, ◌+◌, ◌/◌, ◌%◌, ◌≤◌, ◌<◌}
use native.Mathlib.Nat.{add-zero}
use native.Mathlib.Numerals.{add-one}
use native.Mathlib.Omega.{arith}
use mathlib.Core.Path.{◌≡◌, refl, sym, ◌∙◌, subst}
use mathlib.Core.Bool.{Bool, true, false, cond, ◌&&◌}
use mathlib.Core.List.{List, [], ◌∷◌, ◌++◌}
use lib.Dec.{T, eqb}
use lib.ListN.{length, get_or, drop, drop_of_length-le}
use lib.Seq.{drop-cons}
use borrow.Author.Tests.{eq-eqb, ne_eqb, eqb-true, eqb-false}
use Rattle.event.specs.declared.Row.{Row}
use Rattle.event.specs.Parser.{All}
use Rattle.event.specs.Writing.{rows_in, row_at, no_row}
use Rattle.event.proofs.RowsIn.{rows_count}
use Rattle.page_layout.specs.Plane.{hit_kind, is_hit, hits_at, Plane, at, Shape, OnPlane}
use Rattle.page_layout.proofs.PlaneLaws.{plane_is, put, put_shape, put_same, put_other}
use Rattle.page.specs.Counting.{with_hits}

pub hits_few : (p : ℕ) (rs : List Row) → hits_at p rs ≤ length rs
unfolding hits_at
hits_few p [] = omega arith
hits_few p (r ∷ rs) = go (is_hit r && eqb r.channel p) (hits_few p rs)
  where
    go : (b : Bool) → hits_at p rs ≤ length rs → cond b 1 0 + hits_at p rs ≤ suc (length rs)
    go true h = omega arith
    go false h = omega arith

pub hits_joined : (p : ℕ) (rs ss : List Row) → hits_at p (rs ++ ss) ≡ hits_at p rs + hits_at p ss
unfolding hits_at
hits_joined p [] ss = omega arith
hits_joined p (r ∷ rs) ss = omega (arith, hits_joined p rs ss)

all_at : {A : Type 0} (P : A → Type 0) (d : A) (l : List A) (k : ℕ) → All P l → k < length l → P (get_or l k d)
all_at P d [] zero h l = absurd (omega arith)
all_at P d [] (suc k) h l = absurd (omega arith)
all_at P d (x ∷ xs) zero h l = h.0
all_at P d (x ∷ xs) (suc k) h l = all_at P d xs k h.1 (omega arith)

module _ (plane : Plane) (rs : List Row) where
  -- i rows are counted in `sum`
  pub record Counting (i : ℕ) (sum : Plane) : Type 0 where
    pub shape : Shape sum
    pub counts : (p : ℕ) → p < 256 → at sum p + hits_at p (drop i rs) ≡ at plane p + hits_at p rs

  pub counting_ends : (i : ℕ) (sum : Plane) → length rs ≤ i → Counting i sum → sum ≡ with_hits rs plane
  unfolding hits_at
  counting_ends i sum h c =
      let e : drop i rs ≡ [] = drop_of_length-le rs {i = i} h in
      plane_is sum _ c.shape (λ p l. sym (add-zero (at sum p)) ∙ (rw e at (c.counts p l)))

  module _ (i : ℕ) (h : i < length rs) (sum : Plane) (c : Counting i sum) where
    abbrev r : Row
    r = get_or rs i no_row

    next : drop i rs ≡ r ∷ drop (i + 1) rs
    next = rw add-one (drop-cons rs i no_row h)

    pub counting_miss : (r.kind ≡ hit_kind → ⊥) → Counting (i + 1) sum
    unfolding hits_at
    counting_miss ne = record { shape = c.shape; counts = λ p l. omega (arith, rw (next, ne_eqb r.kind hit_kind ne) at (c.counts p l)) }

    module _ (e : r.kind ≡ hit_kind) (pad : r.channel < 256) where
      here : hits_at r.channel (drop i rs) ≡ 1 + hits_at r.channel (drop (i + 1) rs)
      unfolding hits_at
      here = rw (next, eq-eqb r.kind hit_kind e, eq-eqb r.channel r.channel refl)

      elsewhere : (p : ℕ) → (p ≡ r.channel → ⊥) → hits_at p (drop i rs) ≡ hits_at p (drop (i + 1) rs)
      unfolding hits_at
      elsewhere p ne = rw (next, eq-eqb r.kind hit_kind e, ne_eqb r.channel p (λ q. ne (sym q))) (omega arith)

      -- no count wraps
      pub counting_under : at sum r.channel + 1 ≤ at plane r.channel + length rs
      counting_under = omega (arith, here, c.counts r.channel pad, hits_few r.channel rs)

      pub counting_hit : Counting (i + 1) (put sum (r.channel / 64) (r.channel % 64) (at sum r.channel + 1))
      counting_hit = record { shape = put_shape sum c.shape r.channel _ pad; counts = λ p l. go p l (eqb p r.channel) refl }
        where
          go : (p : ℕ) → p < 256 → (b : Bool) → eqb p r.channel ≡ b
              → at (put sum (r.channel / 64) (r.channel % 64) (at sum r.channel + 1)) p + hits_at p (drop (i + 1) rs) ≡ at plane p + hits_at p rs
          go p l true q =
              let t : p ≡ r.channel = eqb-true p r.channel q in
              rw t (omega (arith, put_same sum c.shape r.channel (at sum r.channel + 1) pad, here, c.counts r.channel pad))
          go p l false q =
              omega (arith, put_other sum c.shape r.channel (at sum r.channel + 1) pad p (eqb-false p r.channel q), elsewhere p (eqb-false p r.channel q), c.counts p l)

-- a hit in a buffer of rows is of a pad on the plane
module _ (xs : List ℕ) (i : ℕ) (h : i < length xs / 4) where
  pub row_inside : i < length (rows_in xs)
  row_inside = rw (rows_count xs) h

  pub on_plane : OnPlane (rows_in xs) → (row_at xs i).kind ≡ hit_kind → (row_at xs i).channel < 256
  on_plane o e =
      let t : eqb (row_at xs i).kind hit_kind ≡ true = eq-eqb _ hit_kind e in
      all_at (λ (r : Row). T (is_hit r) → r.channel < 256) no_row (rows_in xs) i o row_inside (subst T (sym t) tt)
