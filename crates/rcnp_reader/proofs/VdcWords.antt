-- A word of a VDC region, as the layout reads it and as the code tests it; then the loop over them. Over plain values.
-- Assumes nothing.
use Prim.Native.Nat.{ℕ, suc, ◌+◌, ◌*◌, ◌-◌, ◌/◌, ◌%◌, ◌^◌, ◌≤◌, ◌<◌}
use native.Mathlib.Nat.{le_refl}
use native.Mathlib.Omega.{arith}
use mathlib.Core.Path.{◌≡◌, refl, ◌∙◌}
use mathlib.Core.Bool.{Bool, true, false, cond, ◌&&◌}
use mathlib.Core.List.{List, [], ◌∷◌, ◌++◌, map, map-append}
use lib.Dec.{eqb, ltb}
use lib.ListN.{length, get_or}
use lib.Seq.{slice, slice_empty}
use borrow.Author.Tests.{eq-eqb, ne_eqb, lt-ltb, ltb-true, ltb-false, le-leb, lt-leb}
use Rattle.event.specs.Parser.{Result, ok, refuse, ended}
use Rattle.event.proofs.ItemsTaken.{TakenTo, none_taken, all_taken, item_refuses, one_taken}
use Rattle.event.proofs.RowStores.{slice_more}
use Rattle.event.proofs.Turns.{at_word}
use Rattle.rcnp_layout.specs.Event.{VdcWord, head, datum, vdc}
use Rattle.rcnp_layout.specs.Layout.{vdc_word, vdc_fits, begins}
use Rattle.rcnp_layout.specs.Reading.{vdc_of, vdc_value, content}
use Rattle.rcnp_layout.proofs.Words.{codes_vdc}
use Rattle.rcnp_reader.specs.Regions.{vdc_good}

pub vdc_judged : (begun : Bool) (i w : ℕ) (r : List ℕ) → vdc_value begun i (w ∷ r) ≡ cond (vdc_good begun w) (ok (vdc_of w) (suc i) r) (refuse 10 i)
unfolding vdc_good
vdc_judged begun i w r = go (eqb w (vdc_word (vdc_of w))) (vdc_fits begun (vdc_of w))
  where
    go : (a b : Bool) → cond a (cond b (ok (vdc_of w) (suc i) r) (refuse 10 i)) (refuse 10 i) ≡ cond (a && b) (ok (vdc_of w) (suc i) r) (refuse 10 i)
    go true true = refl
    go true false = refl
    go false b = refl

-- bit 15 clear: a datum
module _ (w : ℕ) (low : w < 2 ^ 15) where
  datum_of_lem : vdc_of w ≡ datum (w / 2 ^ 10) (w % 2 ^ 10)
  datum_of_lem = rw (lt-leb (2 ^ 15) w low)

  pub vdc_datum : (begun : Bool) → vdc_good begun w ≡ begun
  unfolding vdc_good
  vdc_datum begun =
      rw (datum_of_lem, eq-eqb w (w / 2 ^ 10 * 2 ^ 10 + w % 2 ^ 10) (omega arith), lt-ltb (w / 2 ^ 10) (2 ^ 5) (omega arith), lt-ltb (w % 2 ^ 10) (2 ^ 10) (omega arith)) (go begun)
    where
      go : (b : Bool) → true && (b && (true && true)) ≡ b
      go true = refl
      go false = refl

-- bit 15 set: a module's header, with bit 14 clear
module _ (w : ℕ) (high : 2 ^ 15 ≤ w) where
  head_of : vdc_of w ≡ head (w % 2 ^ 8) (w / 2 ^ 11 % 2 ^ 3) (w / 2 ^ 8 % 2 ^ 3)
  head_of = rw (le-leb (2 ^ 15) w high)

  abbrev printed : ℕ
  printed = 2 ^ 15 + w / 2 ^ 11 % 2 ^ 3 * 2 ^ 11 + w / 2 ^ 8 % 2 ^ 3 * 2 ^ 8 + w % 2 ^ 8

  fits : (begun : Bool) → vdc_fits begun (vdc_of w) ≡ true
  fits begun = rw (head_of, lt-ltb (w % 2 ^ 8) (2 ^ 8) (omega arith), lt-ltb (w / 2 ^ 11 % 2 ^ 3) (2 ^ 3) (omega arith), lt-ltb (w / 2 ^ 8 % 2 ^ 3) (2 ^ 3) (omega arith))

  pub vdc_head : (begun : Bool) → w < 2 ^ 16 → vdc_good begun w ≡ ltb w (3 * 2 ^ 14)
  unfolding vdc_good
  vdc_head begun l = rw (fits begun, head_of) (go (ltb w (3 * 2 ^ 14)) refl)
    where
      go : (b : Bool) → ltb w (3 * 2 ^ 14) ≡ b → eqb w printed && true ≡ b
      go true e =
          let m = ltb-true w (3 * 2 ^ 14) e in
          let n : w / 2 ^ 11 % 2 ^ 3 ≡ w / 2 ^ 11 - 16 = omega arith in
          let same : w ≡ printed = omega arith in
          rw (eq-eqb w printed same)
      go false e =
          let m = ltb-false w (3 * 2 ^ 14) e in
          rw (ne_eqb w printed (λ d. omega arith))

-- the words of a VDC region from `first` up to i are good, with a word before i where it has begun
pub record ChamberTo (ws : List ℕ) (end first : ℕ) (begun : Bool) (i : ℕ) : Type 0 where
  pub from : first ≤ i
  pub inside : i ≤ end
  pub taken : TakenTo vdc_value begins ended false first (slice first end ws) (map vdc_of (slice first i ws)) begun i (slice i end ws)

pub vdc_begin : (ws : List ℕ) (end first : ℕ) → first ≤ end → ChamberTo ws end first false first
vdc_begin ws end first l = record { from = le_refl first; inside = l; taken = rw (slice_empty first ws) (none_taken vdc_value begins ended false first (slice first end ws)) }

module _ {ws : List ℕ} {end first : ℕ} {begun : Bool} {i : ℕ} (h : ChamberTo ws end first begun i) where
  abbrev whole : Result ℕ (List VdcWord)
  whole = content vdc first (slice first end ws)

  pub vdc_read : end ≤ i → whole ≡ ok (map vdc_of (slice first end ws)) end []
  vdc_read l =
      let e : i ≡ end = omega (arith, h.inside) in
      rw (e, slice_empty end ws) at (all_taken h.taken (rw (e, slice_empty end ws)))

  module _ (below : i < end) (long : end ≤ length ws) {w : ℕ} (e : w ≡ get_or ws i 0) where
    here : slice i end ws ≡ w ∷ slice (suc i) end ws
    here = at_word ws i end below long ∙ rw e

    pub vdc_refused : vdc_good begun w ≡ false → whole ≡ refuse 10 i
    vdc_refused g = item_refuses h.taken codes_vdc (λ st x v r. refl) refl (rw here) (rw here (vdc_judged begun i w (slice (suc i) end ws) ∙ rw g))

    pub vdc_next : vdc_good begun w ≡ true → ChamberTo ws end first true (i + 1)
    vdc_next g =
        let one : suc i ≡ i + 1 = omega arith in
        let read : vdc_value begun i (slice i end ws) ≡ ok (vdc_of w) (i + 1) (slice (i + 1) end ws) = rw here (vdc_judged begun i w (slice (suc i) end ws) ∙ rw (g, one)) in
        let more : map vdc_of (slice first (i + 1) ws) ≡ map vdc_of (slice first i ws) ++ (vdc_of w ∷ [])
        = rw (slice_more ws first i h.from (omega arith), map-append vdc_of (slice first i ws) (get_or ws i 0 ∷ []), e) in
        record { from = omega (arith, h.from); inside = omega arith; taken = rw more (one_taken h.taken codes_vdc (λ st x v r. refl) refl (rw here) read) }
