-- One module: what its header leads to, its values, its footer. Over plain values.
-- Assumes nothing.
use Prim.Native.Nat.{ℕ, suc, ◌+◌, ◌-◌, ◌/◌, ◌%◌, ◌^◌, ◌≤◌, ◌<◌}
use native.Mathlib.Nat.{le_refl}
use native.Mathlib.Omega.{arith}
use mathlib.Core.Path.{◌≡◌, refl, ap, sym, ◌∙◌}
use mathlib.Core.Bool.{Bool, true, false, cond}
use mathlib.Core.List.{List, [], map}
use mathlib.Core.Logic.{◌⊎◌, inl, inr, ⊎_elim}
use lib.Dec.{eqb, leb}
use lib.ListN.{length, get_or, take, drop, length-map}
use lib.Seq.{slice, length-slice}
use Rattle.std.proofs.lemmas.Simd.{map-map}
use borrow.Author.Tests.{ne_eqb, eqb-true, le-leb, lt-leb, leb-true, leb-false}
use Rattle.std.specs.Prelude as std
use Rattle.std.specs.Prelude.{Ok, Err, Option, Some, None}
use Rattle.event.specs.declared.refusal.Refusal.{Refusal}
use Rattle.event.specs.declared.Row.{Row}
use Rattle.event.specs.Parser.{Result, ok, refuse, then, filled}
use Rattle.event.specs.Channels.{Blocked}
use Rattle.event.specs.Refusal.{refusal, part, verdict}
use Rattle.event.specs.Rows.{row, store_row}
use Rattle.event.specs.Scanning.{RefusedAs, PartOf, store_rows}
use Rattle.event.proofs.Answers.{passed_test, failed_test}
use Rattle.event.proofs.Impossible.{impossible}
use Rattle.event.proofs.Loops.{to_the_end}
use Rattle.event.proofs.Turns.{at_word}
use Rattle.frs_layout.specs.Event.{Module, empty, with_data}
use Rattle.frs_layout.specs.Layout.{empty_row, module_row, value_row, module_rows}
use Rattle.frs_layout.specs.Reading.{block_of, header_of, value_of, values, footer, body, one_module}
use Rattle.frs_reader.specs.declared.module.Opened.{Opened}
use Rattle.frs_reader.specs.Longword.{header_fault, footer_fault}
use Rattle.frs_reader.specs.Modules.{opened, opened_of, row_of, ValuesJudged}
use Rattle.frs_reader.proofs.Blocks.{lent, block_short, values_refused, values_read}
use Rattle.frs_reader.proofs.Judged.{header_judged, footer_judged}

-- the header's longword w, as the code tests it
module _ (ws : List ℕ) (i seen : ℕ) {w : ℕ} (d : w ≡ get_or ws i 0) where
  pub header_refused : {r : Refusal} → Err r ≡ verdict (header_fault seen w) i → Err r ≡ opened_of ws i seen
  unfolding opened_of
  header_refused q =
      let t = failed_test (header_fault seen w) i q in
      rw (← d, ne_eqb (header_fault seen w) 0 t.some) (ap Err t.named)

  module _ {u : Unit {0}} (q : Ok u ≡ verdict (header_fault seen w) i) where
    good : 0 ≡ header_fault seen w
    good = passed_test (header_fault seen w) i q

    pub header_empty : w / 2 ^ 24 % 2 ^ 3 ≡ 6 → Ok (opened (row 20 (w / 2 ^ 27) 0 0) None) ≡ opened_of ws i seen
    unfolding opened_of
    header_empty f = rw (← d, ← good, f)

    pub header_long : (w / 2 ^ 24 % 2 ^ 3 ≡ 6 → ⊥) → length ws ≤ i + 1 + w % 2 ^ 6 → Err (refusal 5 i) ≡ opened_of ws i seen
    unfolding opened_of
    header_long f l = rw (← d, ← good, ne_eqb (w / 2 ^ 24 % 2 ^ 3) 6 f, le-leb (length ws) (i + 1 + w % 2 ^ 6) l)

    pub header_block : (w / 2 ^ 24 % 2 ^ 3 ≡ 6 → ⊥) → i + 1 + w % 2 ^ 6 < length ws
        → Ok (opened (row 21 (w / 2 ^ 27) (w % 2 ^ 6) (get_or ws (i + 1 + w % 2 ^ 6) 0 % 2 ^ 16)) (Some (i + 1 + w % 2 ^ 6))) ≡ opened_of ws i seen
    unfolding opened_of
    header_block f l = rw (← d, ← good, ne_eqb (w / 2 ^ 24 % 2 ^ 3) 6 f, lt-leb (length ws) (i + 1 + w % 2 ^ 6) l)

module _ (ws : List ℕ) (i set : ℕ) where
  abbrev w : ℕ
  w = get_or ws i 0

  abbrev count : ℕ
  count = w % 2 ^ 6

  abbrev geo : ℕ
  geo = w / 2 ^ 27

  abbrev flag : Bool
  flag = eqb (w / 2 ^ 24 % 2 ^ 3) 6

  abbrev end_of : ℕ
  end_of = i + 1 + count

  abbrev block_row : Row
  block_row = module_row geo count (get_or ws end_of 0 % 2 ^ 16)

  -- the header is refused; it is one of a module without data; or of a block, which fits
  pub record Barred (r : Refusal) : Type 0 where
    pub number : ℕ
    pub named : r ≡ refusal number i
    pub why : ((eqb (header_fault set w) 0 ≡ false) × (number ≡ header_fault set w)) ⊎ ((0 ≡ header_fault set w) × (flag ≡ false) × (length ws ≤ end_of) × (number ≡ 5))

  pub record Alone (o : Opened) : Type 0 where
    pub good : 0 ≡ header_fault set w
    pub flagged : flag ≡ true
    pub own : o.row ≡ empty_row geo

  pub record Heads (o : Opened) (end : ℕ) : Type 0 where
    pub good : 0 ≡ header_fault set w
    pub flagged : flag ≡ false
    pub own : o.row ≡ block_row
    pub place : end ≡ end_of
    pub inside : end < length ws

  abbrev Cases : (a b c : Bool) → std.Result Opened Refusal
  Cases a b c = cond a (cond b (Ok (opened (empty_row geo) None)) (cond c (Err (refusal 5 i)) (Ok (opened block_row (Some end_of))))) (Err (refusal (header_fault set w) i))

  pub barred : {r : Refusal} → Err r ≡ opened_of ws i set → Barred r
  unfolding opened_of
  barred {r} e = go (eqb (header_fault set w) 0) refl flag refl (leb (length ws) end_of) refl e
    where
      go : (a : Bool) → eqb (header_fault set w) 0 ≡ a → (b : Bool) → flag ≡ b → (c : Bool) → leb (length ws) end_of ≡ c → Err r ≡ Cases a b c → Barred r
      go true p true q c l e = impossible cc
      go true p false q true l e = record { number = 5; named = cc; why = inr (sym (eqb-true (header_fault set w) 0 p), q, leb-true (length ws) end_of l, refl) }
      go true p false q false l e = impossible cc
      go false p b q c l e = record { number = header_fault set w; named = cc; why = inl (p, refl) }

  pub alone : {o : Opened} → Ok o ≡ opened_of ws i set → o.end ≡ None → Alone o
  unfolding opened_of
  alone {o} e n = go (eqb (header_fault set w) 0) refl flag refl (leb (length ws) end_of) e
    where
      go : (a : Bool) → eqb (header_fault set w) 0 ≡ a → (b : Bool) → flag ≡ b → (c : Bool) → Ok o ≡ Cases a b c → Alone o
      go true p true q c e = record { good = sym (eqb-true (header_fault set w) 0 p); flagged = q; own = let z : o ≡ opened (empty_row geo) None = cc in ap (λ (o : Opened). o.row) z }
      go true p false q true e = impossible cc
      go true p false q false e = let z : o ≡ opened block_row (Some end_of) = cc in let y = ap (λ (o : Opened). o.end) z in impossible cc
      go false p b q c e = impossible cc

  pub heads : {o : Opened} {end : ℕ} → Ok o ≡ opened_of ws i set → o.end ≡ Some end → Heads o end
  unfolding opened_of
  heads {o} {end} e n = go (eqb (header_fault set w) 0) refl flag refl (leb (length ws) end_of) refl e
    where
      go : (a : Bool) → eqb (header_fault set w) 0 ≡ a → (b : Bool) → flag ≡ b → (c : Bool) → leb (length ws) end_of ≡ c → Ok o ≡ Cases a b c → Heads o end
      go true p true q c l e = let z : o ≡ opened (empty_row geo) None = cc in let y = ap (λ (o : Opened). o.end) z in impossible cc
      go true p false q true l e = impossible cc
      go true p false q false l e =
          let z : o ≡ opened block_row (Some end_of) = cc in
          let y : o.end ≡ Some end_of = ap (λ (o : Opened). o.end) z in
          let same : end ≡ end_of = cc in
          record { good = sym (eqb-true (header_fault set w) 0 p); flagged = q; own = ap (λ (o : Opened). o.row) z; place = same; inside = let m = leb-false (length ws) end_of l in omega arith }
      go false p b q c l e = impossible cc

-- the GEO of a block
pub geo_small : {ws : List ℕ} {i set : ℕ} {o : Opened} {end : ℕ} → Heads ws i set o end → get_or ws i 0 < 2 ^ 32 → o.row.unit < 2 ^ 5
geo_small {ws} {i} {o = o} h f = let e : o.row.unit ≡ get_or ws i 0 / 2 ^ 27 = ap (λ (r : Row). r.unit) h.own in omega arith

-- the module at i, after the GEOs seen
module _ (ws : List ℕ) (i k set : ℕ) (seen : List ℕ) (s : Blocked 0 set seen) (below : i < length ws) (fits : get_or ws i 0 < 2 ^ 32) where
  abbrev here : Result ℕ Module
  here = one_module seen i (drop i ws)

  next : suc i ≡ i + 1
  next = omega arith

  judged : here ≡ then (body i) (cond (eqb (header_fault set (w ws i set)) 0) (ok (header_of (w ws i set)) (i + 1) (slice (i + 1) (length ws) ws)) (refuse (header_fault set (w ws i set)) i))
  judged = rw (to_the_end i ws, at_word ws i (length ws) below (le_refl (length ws)))
      (ap (then (body i)) (header_judged s i (slice (suc i) (length ws) ws) (w ws i set) fits) ∙ rw next)

  pub opening_refused : {r : Refusal} → Err r ≡ opened_of ws i set → RefusedAs here r
  opening_refused {r} e = go (barred ws i set e)
    where
      go : Barred ws i set r → RefusedAs here r
      go t = record {
        number = t.number;
        place = i;
        refused = ⊎_elim (λ p. judged ∙ rw (p.0, p.1))
            (λ p. judged ∙ rw (← p.0, p.1, p.3) (block_short i (count ws i set) (i + 1) (values (geo ws i set)) (footer (geo ws i set)) ws (omega arith) (omega (arith, p.2)))) t.why;
        named = t.named;
      }

  pub empty_read : {o : Opened} {before after : List ℕ} → k ≤ i → Ok o ≡ opened_of ws i set → o.end ≡ None → after ≡ store_row before k o.row
      → PartOf module_rows here ws k before after (Ok (part (i + 1) (k + 1)))
  empty_read {o} {before} {after} few e n q = go (alone ws i set e n)
    where
      go : Alone ws i set o → PartOf module_rows here ws k before after (Ok (part (i + 1) (k + 1)))
      go t = record {
        part = record {
          value = empty (geo ws i set);
          parsed = judged ∙ rw (← t.good, t.flagged, to_the_end (i + 1) ws);
          inside = omega arith;
          few = omega arith;
          counted = refl;
          stored = q ∙ rw t.own;
        };
      }

  module _ {o : Opened} {end : ℕ} (t : Heads ws i set o end) where
    block : here ≡ block_of i (count ws i set) (values (geo ws i set)) (footer (geo ws i set)) (i + 1) (slice (i + 1) (length ws) ws)
    block = judged ∙ rw (← t.good, t.flagged)

    module _ {g : ℕ} (own : g ≡ o.row.unit) where
      same : g ≡ geo ws i set
      same = own ∙ ap (λ (r : Row). r.unit) t.own

      pub module_values_refused : {r : Refusal} → ValuesJudged g ws (i + 1) end (Err r) → RefusedAs here r
      module_values_refused v =
          let x = (rw (same, t.place) at v).judged in
          record {
            number = x.number;
            place = x.place;
            refused = block ∙ values_refused i (count ws i set) (i + 1) (values (geo ws i set)) (footer (geo ws i set)) ws (omega (arith, t.place, t.inside)) x.refused;
            named = x.named;
          }

      module _ {u : Unit {0}} (v : ValuesJudged g ws (i + 1) end (Ok u)) {f : ℕ} (e : f ≡ get_or ws end 0) where
        abbrev list : List ℕ
        list = slice (i + 1) end ws

        read : here ≡ filled (slice (end + 1) (length ws) ws) (cond (eqb (footer_fault g f) 0) (ok (with_data g (map value_of list) (f % 2 ^ 16)) (end + 1) []) (refuse (footer_fault g f) end))
        read =
            let one : suc end ≡ end + 1 = omega arith in
            block ∙ values_read i (count ws i set) (i + 1) (values (geo ws i set)) (footer (geo ws i set)) ws (omega (arith, t.place, t.inside)) (rw (same, t.place) at v.judged)
            ∙ rw (← t.place, ← same, ← e, footer_judged g (map value_of list) end f [], one)

        pub footer_refused : {r : Refusal} → Err r ≡ verdict (footer_fault g f) end → RefusedAs here r
        footer_refused q =
            let z = failed_test (footer_fault g f) end q in
            record { number = footer_fault g f; place = end; refused = read ∙ rw (ne_eqb (footer_fault g f) 0 z.some); named = z.named }

        pub block_read : {u' : Unit {0}} {before b after : List ℕ} → k ≤ i → Ok u' ≡ verdict (footer_fault g f) end → b ≡ store_row before k o.row
            → after ≡ store_rows b (k + 1) (map (row_of g) (take (end - (i + 1)) (drop (i + 1) ws))) → PartOf module_rows here ws k before after (Ok (part (end + 1) (k + 1 + (end - (i + 1)))))
        block_read {before = before} few q own_row rest =
            let good = passed_test (footer_fault g f) end q in
            let many : length (map value_of list) ≡ count ws i set = length-map list value_of ∙ length-slice (i + 1) end ws (omega (arith, t.inside)) ∙ omega (arith, t.place) in
            let rows : o.row ≡ module_row g (length (map value_of list)) (f % 2 ^ 16) = t.own ∙ rw (many, e, t.place, same) in
            let each_row : map (row_of g) list ≡ map (value_row g) (map value_of list) = sym (map-map (value_row g) value_of list) in
            record {
              part = record {
                value = with_data g (map value_of list) (f % 2 ^ 16);
                parsed = read ∙ rw (← good, to_the_end (end + 1) ws);
                inside = omega (arith, t.inside);
                few = omega (arith, t.place);
                counted = omega (arith, many, t.place, length-map (map value_of list) (value_row g));
                stored = rest ∙ rw (lent (i + 1) end ws (omega (arith, t.place)), own_row, rows, each_row);
              };
            }
