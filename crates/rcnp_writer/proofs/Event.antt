-- The whole event: its regions and the check sum region, judged, its sum, and its words. Over plain values.
-- Assumes nothing.
use Rattle.std.proofs.Common.{◌≡◌, ℕ, ◌+◌, ◌-◌, ◌*◌, ◌%◌, ◌≤◌, false, eqb, List, [], ◌∷◌, ◌++◌, length, drop, sym, refl, ap, ◌∙◌, subst, append-nil, arith, length-append, eq-eqb, ne_eqb}
use Rattle.std.specs.Prelude.{Ok, Err}
use Rattle.event.specs.declared.Part.{Part}
use Rattle.event.specs.declared.refusal.Refusal.{Refusal}
use Rattle.event.specs.Refusal.{Answer, refusal}
use Rattle.event.specs.declared.Row.{Row}
use Rattle.event.specs.Parser.{Result, ok, refuse, Parser, then, ◌>>=◌, ◌>>◌, give, finish, lastly, several, each}
use Rattle.event.specs.Outcome.{in_word_room}
use Rattle.event.specs.Writing.{rows_in}
use Rattle.event.specs.Demands.{InWidth}
use Rattle.event.specs.Scanning.{store_words, ScannedBy, RefusedAs, writing_all}
use Rattle.event.proofs.Codes.{nil, codes_finish}
use Rattle.event.proofs.Elements.{codes_several}
use Rattle.event.proofs.Ends.{placed}
use Rattle.event.proofs.Impossible.{impossible}
use Rattle.event.proofs.Leads.{Taken, scanned_refuse, refused_scan, accepted_scan}
use Rattle.event.proofs.Stores.{Gives, write_refused}
use Rattle.event.proofs.Turns.{lastly_holds, lastly_fails, lastly_taken}
use Rattle.event.proofs.WritingTurns.{Wrote, wrote, unwritten}
use Rattle.rcnp_layout.specs.Event.{Region, Event}
use Rattle.rcnp_layout.specs.Layout.{region_words, sum_words, words, total, summed, region_rows, sum_rows, rows, largest_event}
use Rattle.rcnp_layout.specs.Writing.{region, sum_region, at_sum, parts_with, writing}
use Rattle.rcnp_layout.proofs.Event.{ends_parts}
use Rattle.rcnp_layout.proofs.Rows.{codes_region, codes_sum, codes_parts, codes_one}
use Rattle.rcnp_layout.proofs.Sizes.{not_sum}
use Rattle.rcnp_layout.proofs.Width.{words_fit}
use Rattle.rcnp_writer.specs.Parts.{Counts, last_region, Runs}
use Rattle.rcnp_writer.specs.RowWords.{row_words}
use Rattle.rcnp_writer.proofs.Contents.{none}
use Rattle.rcnp_writer.proofs.RowTotals.{words_of_rows}
use Rattle.rcnp_writer.proofs.RunsOfRows.{rows_runs}

abbrev parts : Parser Row Event
parts = parts_with (finish 21)

abbrev event_of : List Region → ℕ → Event
event_of gs w = record { regions = gs; sum = w }

-- the check sum region after the regions
last_then : (gs : List Region) (i : ℕ) (l : List Row)
    → (sum_region >>= λ w. finish 21 >> give (event_of gs w)) i l ≡ then (λ w. give (event_of gs w)) (last_region i l)
last_then gs i l = go (sum_region i l)
  where
    go : (x : Result Row ℕ) → then (λ w. finish 21 >> give (event_of gs w)) x ≡ then (λ w. give (event_of gs w)) (then (λ w. finish 21 >> give w) x)
    go (refuse n p) = refl
    go (ok w j []) = refl
    go (ok w j (r ∷ l)) = refl

sum_of_last : (i : ℕ) (l : List Row) {w j : ℕ} {r : List Row} → last_region i l ≡ ok w j r → sum_region i l ≡ ok w j r
sum_of_last i l {w} {j} {r} e = go (sum_region i l) e
  where
    go : (x : Result Row ℕ) → then (λ w. finish 21 >> give w) x ≡ ok w j r → x ≡ ok w j r
    go (refuse n p) e = impossible cc
    go (ok v k []) e = e
    go (ok v k (y ∷ t)) e = impossible cc

abbrev Judged : List Row → Answer → Type 0
Judged rs r = ScannedBy (writing_all 16) words (parts 0 rs) 0 [] r []

-- what a part refused is refused of the event
refused_event : {A : Type 0} (rs : List Row) (x : Result Row A) {r : Refusal} → ((n p : ℕ) → x ≡ refuse n p → parts 0 rs ≡ refuse n p) → RefusedAs x r → Judged rs (Err r)
refused_event rs x to t = rw t.named (scanned_refuse words {n = t.number} {p = t.place} 0 [] [] (to t.number t.place t.refused))

module _ {rs : List Row} where
  pub regions_refused : {r : Refusal} → Counts (each region_words) (several region at_sum 0 rs) rs 0 (Err r) → Judged rs (Err r)
  regions_refused w = refused_event rs (several region at_sum 0 rs) (λ n p e. rw e) (unwritten 16 (each region_words) (several region at_sum 0 rs) w.scanned)

  module _ {first : Part} (w : Counts (each region_words) (several region at_sum 0 rs) rs 0 (Ok first)) where
    abbrev at : ℕ
    at = first.next

    abbrev k : ℕ
    k = first.count

    pub sum_there : (at ≤ length rs) × (k ≤ 4 * at)
    sum_there = w.within

    these : Wrote 16 (each region_words) (several region at_sum 0 rs) 0 [] at k []
    these = wrote 16 (each region_words) (several region at_sum 0 rs) w.scanned

    -- the event from there on
    parsed : parts 0 rs ≡ then (λ w. give (event_of these.value w)) (last_region at (drop at rs))
    parsed =
        let t = these in
        let l = placed (codes_several at_sum codes_region (λ g v r. not_sum g.form) refl) rs 0 (omega arith) t.parsed in
        rw (t.parsed, l.0) (last_then t.value at (drop at rs))

    pub last_refused : {r : Refusal} → Counts sum_words (last_region at (drop at rs)) rs 0 (Err r) → Judged rs (Err r)
    last_refused v = refused_event rs (last_region at (drop at rs)) (λ n p e. parsed ∙ rw e) (unwritten 16 sum_words (last_region at (drop at rs)) v.scanned)

    module _ {x : Part} (v : Counts sum_words (last_region at (drop at rs)) rs 0 (Ok x)) where
      abbrev n : ℕ
      n = x.count

      last : Wrote 16 sum_words (last_region at (drop at rs)) 0 [] x.next n []
      last = wrote 16 sum_words (last_region at (drop at rs)) v.scanned

      pub event_few : k + n ≤ 4 * length rs
      event_few =
          let u = placed codes_sum rs at sum_there.0 (sum_of_last at (drop at rs) last.parsed) in
          omega (arith, sum_there.1, last.counted, u.1, u.2)

      pub event_judged : Judged rs (Ok (k + n))
      event_judged =
          let ws = each region_words these.value in
          let ss = sum_words last.value in
          let c : k + n ≡ 0 + length (ws ++ ss) = omega (arith, these.counted, last.counted, length-append ws ss) in
          rw (parsed, last.parsed) (record { answered = ap Ok c; stored = none 0 (ws ++ ss) })

-- the words of what was taken are those that the rows say, and so is their sum; the place of a wrong one is the last row
module _ (rs : List Row) where
  taken_rows : {e : Event} {j : ℕ} {r : List Row} → parts 0 rs ≡ ok e j r → (rs ≡ rows e) × (j ≡ length rs)
  taken_rows {e} {j} {r} h =
      let s = (codes_parts (codes_finish 21)).sound 0 rs e j r h in
      let l : rs ≡ rows e = s.1 ∙ ap (rows e ++◌) (nil r (ends_parts 21 (several region at_sum) sum_region 0 rs e j r h)) ∙ append-nil (rows e) in
      (l, omega (arith, s.2, ap length l))

  runs_of : {e : Event} {j : ℕ} {r : List Row} → parts 0 rs ≡ ok e j r → Runs rs
  runs_of {e} h = subst Runs (sym (taken_rows h).0) (rows_runs e)

  pub taken_runs : {k : ℕ} → Taken words (parts 0 rs) k → Runs rs
  taken_runs t = runs_of t.parsed

  taken_words : {e : Event} {j : ℕ} {r : List Row} → parts 0 rs ≡ ok e j r → each row_words rs ≡ words e
  taken_words {e} h = ap (each row_words) (taken_rows h).0 ∙ words_of_rows e

  taken_sum : {e : Event} {j : ℕ} {r : List Row} → parts 0 rs ≡ ok e j r → summed e ≡ eqb (total (each row_words rs) % 65536) 0
  taken_sum h = ap (λ (x : List ℕ). eqb (total x % 65536) 0) (sym (taken_words h))

  abbrev Counted : Answer → Type 0
  Counted r = ScannedBy (writing_all 16) words (lastly summed 22 parts 0 rs) 0 [] r []

  pub count_refused : {r : Refusal} → ScannedBy (writing_all 16) words (parts 0 rs) 0 [] (Err r) [] → Counted (Err r)
  count_refused {r} s = go (refused_scan words (parts 0 rs) s)
    where
      go : RefusedAs (parts 0 rs) r → Counted (Err r)
      go t = rw t.named (scanned_refuse words {n = t.number} {p = t.place} 0 [] [] (rw t.refused))

  pub count_taken : {k : ℕ} → ScannedBy (writing_all 16) words (parts 0 rs) 0 [] (Ok k) [] → Taken words (parts 0 rs) k
  count_taken s = accepted_scan words (parts 0 rs) s

  module _ {k : ℕ} (t : Taken words (parts 0 rs) k) {sum : ℕ} (m : sum ≡ total (each row_words rs) % 65536) where
    pub last_row : 1 ≤ length rs
    last_row =
        let e = t.value in
        omega (arith, ap length (taken_rows t.parsed).0, length-append (each region_rows e.regions) (sum_rows e.sum))

    pub sum_wrong : (sum ≡ 0 → ⊥) → Counted (Err (refusal 22 (length rs - 1)))
    sum_wrong z =
        let f : summed t.value ≡ false = taken_sum t.parsed ∙ ne_eqb (total (each row_words rs) % 65536) 0 (λ e. z (m ∙ e)) in
        rw (taken_rows t.parsed).1 at (lastly_fails {scan = writing_all 16} {items_of = words} summed 22 parts 0 rs {k = 0} {before = []} {after = []} t.value t.place t.input t.parsed f)

    pub sum_right : sum ≡ 0 → Counted (Ok k)
    sum_right z =
        let ws = words t.value in
        let c : k ≡ 0 + length ws = omega (arith, t.counted) in
        lastly_holds summed 22 parts 0 rs (rw t.parsed (record { answered = ap Ok c; stored = none 0 ws }))
        (λ e j r p. taken_sum p ∙ eq-eqb (total (each row_words rs) % 65536) 0 (sym m ∙ z))

  -- what was counted
  pub counted_taken : {k : ℕ} → Counted (Ok k) → Taken words (lastly summed 22 parts 0 rs) k
  counted_taken s = accepted_scan words (lastly summed 22 parts 0 rs) s

  pub counted_runs : {k : ℕ} → Taken words (lastly summed 22 parts 0 rs) k → Runs rs
  counted_runs t = runs_of (lastly_taken summed 22 parts 0 rs t.parsed).0

  -- its words
  pub event_filled : {k : ℕ} → Taken words (lastly summed 22 parts 0 rs) k → {b after : List ℕ} → after ≡ store_words 16 b 0 (each row_words rs)
      → ScannedBy (writing_all 16) words (lastly summed 22 parts 0 rs) 0 b (Ok k) after
  event_filled {k} t {b} s =
      let c : k ≡ 0 + length (words t.value) = omega (arith, t.counted) in
      rw t.parsed (record { answered = ap Ok c; stored = s ∙ ap (store_words 16 b 0) (taken_words (lastly_taken summed 22 parts 0 rs t.parsed).0) })

  pub event_fits : (e : Event) (j : ℕ) (r : List Row) → lastly summed 22 parts 0 rs ≡ ok e j r → length (words e) ≤ largest_event → InWidth 16 (words e)
  event_fits e j r p l = words_fit e (record { formed = (codes_one.sound 0 rs e j r p).0; size = l })

-- what was refused
pub counted_refused : (xs buffer : List ℕ) → length xs % 4 ≡ 0 → {r : Refusal} → Counted (rows_in xs) (Err r)
    → Gives (λ ws. ws) buffer (in_word_room (length buffer) (writing xs)) (Err r) buffer
counted_refused xs buffer four s = write_refused 16 largest_event words (lastly summed 22 parts) xs buffer four s
