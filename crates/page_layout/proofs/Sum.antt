-- The sum over a plane of hits is the number of hits, since every hit is of a pad on the plane. What counts nothing. The stamp order.
-- Assumes nothing.
use Prim.Native.Nat.{ℕ, zero, suc, ◌+◌, ◌*◌, ◌/◌, ◌%◌, ◌<◌}
use native.Mathlib.Nat.{zero-add}
use native.Mathlib.Omega.{arith}
use mathlib.Core.Path.{◌≡◌, refl, sym, ap, ◌∙◌, subst}
use mathlib.Core.Bool.{Bool, true, false, cond, ◌&&◌}
use mathlib.Core.List.{List, [], ◌∷◌, ◌++◌}
use lib.Dec.{T, eqb}
use lib.ListN.{length, get_or, set}
use borrow.Author.Tests.{eqb-true, eqb-false}
use Rattle.event.specs.declared.Row.{Row}
use Rattle.event.specs.declared.StampOrder.{StampOrder}
use Rattle.event.specs.Parser.{Result, ok, refuse, each}
use Rattle.event.proofs.Elements.{each_append}
use Rattle.event.specs.Outcome.{done, outcome, given, default_order}
use Rattle.s800_layout.specs.Event.{Event}
use Rattle.s800_layout.specs.Layout.{rows, pad}
use Rattle.s800_layout.specs.Reading.{event_parser}
use Rattle.page_layout.specs.Plane.{is_hit, rows_of, hits, hits_at, table, Plane, plane_of, at, hit_plane, counted, sum, sum_over, Shape, OnPlane}
use Rattle.page_layout.specs.Page.{held, seeing, plane_in}
use Rattle.page_layout.specs.Claims.{CountsHits, SumIsHits, NothingCounted, AnyOrder}
use Rattle.page_layout.proofs.PlaneLaws.{plane_of_at, plane_of_shape, plane_is, planes_same, put, put_shape, put_same, put_other}
use Rattle.page_layout.proofs.Hits.{on_rows, rows_on_plane}

sum_set : (l : List ℕ) (i v : ℕ) → i < length l → sum (set l i v) + get_or l i 0 ≡ sum l + v
unfolding sum
sum_set [] i v h = absurd (omega arith)
sum_set (x ∷ xs) zero v h = omega arith
sum_set (x ∷ xs) (suc i) v h = omega (arith, sum_set xs i v (omega arith))

over_set : (p : Plane) (i : ℕ) (l : List ℕ) → i < length p → sum_over (set p i l) + sum (get_or p i []) ≡ sum_over p + sum l
unfolding sum_over
over_set [] i l h = absurd (omega arith)
over_set (x ∷ xs) zero l h = omega arith
over_set (x ∷ xs) (suc i) l h = omega (arith, over_set xs i l (omega arith))

put_sum : (p : Plane) → Shape p → (pad v : ℕ) → pad < 256 → sum_over (put p (pad / 64) (pad % 64) v) + at p pad ≡ sum_over p + v
put_sum p s pad v h =
    let l = get_or p (pad / 64) [] in
    omega (arith, over_set p (pad / 64) (set l (pad % 64) v) (rw s.four (omega arith)), sum_set l (pad % 64) v (rw (s.lines (pad / 64) (omega arith)) (omega arith)))

-- one row more
module _ (r : Row) (rs : List Row) where
  missed : is_hit r ≡ false → hit_plane (r ∷ rs) ≡ hit_plane rs
  unfolding hits_at
  missed e = planes_same _ _ (λ p l. rw e (zero-add (hits_at p rs)))

  module _ (e : is_hit r ≡ true) (h : r.channel < 256) where
    abbrev more : Plane
    more = put (hit_plane rs) (r.channel / 64) (r.channel % 64) (hits_at r.channel rs + 1)

    more_at : (p : ℕ) → p < 256 → at more p ≡ hits_at p (r ∷ rs)
    unfolding hits_at
    more_at p l = go (eqb r.channel p) refl
      where
        go : (b : Bool) → eqb r.channel p ≡ b → at more p ≡ cond (is_hit r && eqb r.channel p) 1 0 + hits_at p rs
        go true q =
            let t : r.channel ≡ p = eqb-true r.channel p q in
            rw (e, q) (ap (at more) (sym t) ∙ put_same (hit_plane rs) (plane_of_shape _) r.channel (hits_at r.channel rs + 1) h ∙ rw t (omega arith))
        go false q =
            rw (e, q) (put_other (hit_plane rs) (plane_of_shape _) r.channel (hits_at r.channel rs + 1) h p (λ t. eqb-false r.channel p q (sym t))
            ∙ plane_of_at (λ p. hits_at p rs) p l ∙ omega arith)

    one_more : sum_over (hit_plane (r ∷ rs)) ≡ sum_over (hit_plane rs) + 1
    one_more =
        let w : more ≡ hit_plane (r ∷ rs) = plane_is more _ (put_shape (hit_plane rs) (plane_of_shape _) r.channel (hits_at r.channel rs + 1) h) more_at in
        let s = put_sum (hit_plane rs) (plane_of_shape _) r.channel (hits_at r.channel rs + 1) h in
        let a = plane_of_at (λ p. hits_at p rs) r.channel h in
        omega (arith, ap sum_over w)

no_hits_lem : sum_over (hit_plane []) ≡ 0
unfolding hits_at sum_over sum plane_of table
no_hits_lem = refl

sum_hits : (rs : List Row) → OnPlane rs → sum_over (hit_plane rs) ≡ hits rs
unfolding hits
sum_hits [] o = no_hits_lem
sum_hits (r ∷ rs) o = go (is_hit r) refl (sum_hits rs o.1)
  where
    go : (b : Bool) → is_hit r ≡ b → sum_over (hit_plane rs) ≡ hits rs → sum_over (hit_plane (r ∷ rs)) ≡ cond (is_hit r) 1 0 + hits rs
    go true e ih = omega (arith, ap {B = ℕ} (λ (b : Bool). cond b 1 0) e, one_more r rs e (o.0 (subst T (sym e) tt)))
    go false e ih = omega (arith, ap {B = ℕ} (λ (b : Bool). cond b 1 0) e, ap sum_over (missed r rs e))

events_on_plane : (events : List (List ℕ)) → OnPlane (each rows_of events)
events_on_plane [] = tt
events_on_plane (e ∷ es) = on_rows (rows_of e) (each rows_of es) (rows_on_plane e) (events_on_plane es)

pub sum_is_hits : SumIsHits
unfolding plane_in seeing
sum_is_hits p room s = rw s (sum_hits (each rows_of (held p room)) (events_on_plane (held p room)))

pub counts_hits : CountsHits
counts_hits events = (plane_of_shape _, cell)
  where
    cell : (connector channel : ℕ) → connector < 4 → channel < 64
        → get_or (get_or (counted events) connector []) channel 0 ≡ hits_at (pad channel connector) (each rows_of events)
    cell connector channel l m =
        let d : (channel + 64 * connector) / 64 ≡ connector = omega arith in
        let r : (channel + 64 * connector) % 64 ≡ channel = omega arith in
        rw (d, r) at (plane_of_at (λ p. hits_at p (each rows_of events)) (channel + 64 * connector) (omega arith))

pub nothing_counted : NothingCounted
unfolding rows_of
nothing_counted events more words n k e =
    ap hit_plane
    (each_append rows_of events (words ∷ more)
    ∙ ap (λ (rs : List Row). each rows_of events ++ (rs ++ each rows_of more)) (ap given e)
    ∙ sym (each_append rows_of events more))

pub any_order : AnyOrder
unfolding rows_of hits_at
any_order o words p = go o (event_parser (length words) 0 words)
  where
    go : (o : StampOrder) (x : Result ℕ Event) → hits_at p (given (outcome (λ e. done (rows o e)) x)) ≡ hits_at p (given (outcome (λ e. done (rows default_order e)) x))
    go o (ok e j r) = refl
    go o (refuse n k) = refl
