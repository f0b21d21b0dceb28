-- An event's hits counted into a plane, and event after event.
-- Assumes nothing.
use Prim.Native.Nat.{ℕ, ◌+◌, ◌*◌, ◌^◌, ◌≤◌, ◌<◌}
use native.Mathlib.Nat.{add-zero}
use native.Mathlib.Omega.{arith}
use mathlib.Core.Path.{◌≡◌, refl, sym, ap, ◌∙◌, subst}
use mathlib.Core.List.{List, [], ◌∷◌, ◌++◌}
use lib.ListN.{length, take, drop, length-append}
use lib.Seq.{take_at}
use borrow.Author.Tests.{le-leb}
use Rattle.std.specs.Prelude.{Ok, Err}
use Rattle.event.specs.declared.refusal.Refusal.{Refusal}
use Rattle.event.specs.declared.Row.{Row}
use Rattle.event.specs.declared.StampOrder.{StampOrder}
use Rattle.event.specs.Refusal.{Answer}
use Rattle.event.specs.Parser.{All, each}
use Rattle.event.specs.Outcome.{Outcome, done, refused, in_room, answer_of, given, overlaid, default_order}
use Rattle.event.specs.Rows.{flat, room}
use Rattle.event.specs.Writing.{rows_in}
use Rattle.event.proofs.Answers.{Given, refused_by, given_by}
use Rattle.event.proofs.Elements.{each_append}
use Rattle.event.proofs.RowCodes.{flat_in}
use Rattle.event.proofs.Stores.{length_flat}
use Rattle.dialects.specs.declared.Dialect.TheVariants.{S}
use Rattle.dialects.proofs.Demands.{rows_within_words}
use Rattle.s800_layout.specs.Reading.{reading}
use Rattle.page_layout.specs.Plane.{rows_of, hits_at, Plane, no_hits, at, counted, Shape, OnPlane}
use Rattle.page_layout.proofs.PlaneLaws.{plane_of_at, plane_is, planes_same}
use Rattle.page_layout.proofs.Hits.{rows_on_plane}
use Rattle.page.specs.Counting.{with_hits}
use Rattle.page.proofs.Counting.{hits_few, hits_joined}

pub rows_few : (ws : List ℕ) → length (rows_of ws) ≤ length ws
unfolding rows_of
rows_few ws = go (reading default_order ws) refl
  where
    go : (x : Outcome Row) → reading default_order ws ≡ x → length (given x) ≤ length ws
    go (done rs) e = rows_within_words S default_order ws rs e
    go (refused n k) e = omega arith

-- with room for as many rows as there are words, a reading is never refused by 12
reads_all : (n : ℕ) (ws : List ℕ) → length ws ≤ n → in_room n (reading default_order ws) ≡ reading default_order ws
reads_all n ws h = go (reading default_order ws) refl
  where
    go : (x : Outcome Row) → reading default_order ws ≡ x → in_room n x ≡ x
    go (done rs) e = rw (le-leb (length rs) n (omega (arith, rows_within_words S default_order ws rs e)))
    go (refused m k) e = refl

none_more : (plane : Plane) → Shape plane → plane ≡ with_hits [] plane
unfolding hits_at
none_more plane s = plane_is plane _ s (λ k l. sym (add-zero (at plane k)))

-- a reading of an event into rows, and its answer
pub record Read (o : StampOrder) (ws rows : List ℕ) (r : Answer) : Type 0 where
  pub order : o ≡ default_order
  pub roomy : 4 * length ws ≤ length rows
  pub answer : r ≡ answer_of (in_room (room (length rows)) (reading o ws))

module _ {o : StampOrder} {ws rows : List ℕ} {r : Answer} (read : Read o ws rows r) where
  into : in_room (room (length rows)) (reading o ws) ≡ reading default_order ws
  into = rw read.order (reads_all (room (length rows)) ws (omega (arith, read.roomy)))

  answered : r ≡ answer_of (reading default_order ws)
  answered = read.answer ∙ ap answer_of into

  pub no_rows : {q : Refusal} → r ≡ Err q → (plane : Plane) → Shape plane → plane ≡ with_hits (rows_of ws) plane
  unfolding rows_of
  no_rows q plane s = rw (refused_by (reading default_order ws) (sym q ∙ answered)).outcome (none_more plane s)

  module _ {count : ℕ} (q : r ≡ Ok count) where
    abbrev g : Given (reading default_order ws) count
    g = given_by (reading default_order ws) (sym q ∙ answered)

    their_rows : rows_of ws ≡ g.items
    unfolding rows_of
    their_rows = ap given g.outcome

    pub rows_inside : count * 4 ≤ length rows
    rows_inside = omega (arith, g.counted, rows_few ws, ap length their_rows, read.roomy)

    pub rows_there : {rows' : List ℕ} → rows' ≡ overlaid (flat (given (in_room (room (length rows)) (reading o ws)))) rows → rows_in (take (count * 4) rows') ≡ rows_of ws
    rows_there {rows'} w =
        let all = flat g.items in
        let n : length all ≡ count * 4 = omega (arith, g.counted, length_flat g.items) in
        let f : rows' ≡ all ++ drop (length all) rows = w ∙ ap (λ (x : Outcome Row). overlaid (flat (given x)) rows) (into ∙ g.outcome) in
        ap rows_in (ap (take (count * 4)) f ∙ take_at all (drop (length all) rows) (count * 4) n) ∙ flat_in g.items ∙ sym their_rows

  -- what the counting of these rows asks
  pub countable : (rs : List Row) → rs ≡ rows_of ws → (plane : Plane) → Shape plane → ((p : ℕ) → p < 256 → at plane p + length ws < 2 ^ 32)
      → Shape plane × OnPlane rs × ((p : ℕ) → p < 256 → at plane p + length rs < 2 ^ 32)
  countable rs t plane s b = (s, subst OnPlane (sym t) (rows_on_plane ws), λ p l. omega (arith, ap length t, rows_few ws, b p l))

-- event after event

hits_of_next : (p : ℕ) (es : List (List ℕ)) (e : List ℕ) → hits_at p (each rows_of (es ++ e ∷ [])) ≡ hits_at p (each rows_of es) + hits_at p (rows_of e)
unfolding hits_at
hits_of_next p es e =
    ap (hits_at p) (each_append rows_of es (e ∷ [])) ∙ hits_joined p (each rows_of es) (each rows_of (e ∷ []))
    ∙ ap (hits_at p (each rows_of es) +◌) (hits_joined p (rows_of e) [] ∙ add-zero (hits_at p (rows_of e)))

pub counted_next : (es : List (List ℕ)) (e : List ℕ) → with_hits (rows_of e) (counted es) ≡ counted (es ++ e ∷ [])
counted_next es e = planes_same _ _ (λ p l. ap (◌+ hits_at p (rows_of e)) (plane_of_at _ p l) ∙ sym (hits_of_next p es e))

pub counted_none : no_hits ≡ counted []
unfolding no_hits hits_at
counted_none = refl

rows_of_all : (es : List (List ℕ)) → All (λ e. length e ≤ 1024) es → length (each rows_of es) ≤ 1024 * length es
rows_of_all [] h = omega arith
rows_of_all (e ∷ es) h = rw (length-append (rows_of e) (each rows_of es)) (omega (arith, rows_few e, rows_of_all es h.1))

pub counted_under : (es : List (List ℕ)) → All (λ e. length e ≤ 1024) es → (p : ℕ) → p < 256 → at (counted es) p ≤ 1024 * length es
counted_under es h p l = rw (plane_of_at (λ p. hits_at p (each rows_of es)) p l) (omega (arith, hits_few p (each rows_of es), rows_of_all es h))
