-- The scaler: the loop over its values, and its longwords around them. Over plain values.
-- Assumes nothing.
use Prim.Native.Nat.{ℕ, ◌+◌, ◌≤◌, ◌<◌}
use native.Mathlib.Omega.{arith}
use mathlib.Core.Path.{◌≡◌, refl, sym, ap, ◌∙◌}
use mathlib.Core.List.{List, [], ◌∷◌}
use lib.ListN.{length, get_or, drop, length-append}
use Rattle.std.specs.Prelude.{Ok, Err}
use Rattle.event.specs.declared.Part.{Part}
use Rattle.event.specs.declared.refusal.Refusal.{Refusal}
use Rattle.event.specs.declared.Row.{Row}
use Rattle.event.specs.Parser.{Result, ok, times, each}
use Rattle.event.specs.Refusal.{PartAnswer, part, verdict}
use Rattle.event.specs.Words.{word_alone, store_word}
use Rattle.event.specs.Writing.{row_with, of_kind, no_row}
use Rattle.event.specs.Scanning.{store_words, Writes, RefusedAs}
use Rattle.event.proofs.Answers.{passed_test, failed_test}
use Rattle.event.proofs.CountedRows.{CountedTo, counted_done, counted_refused, counted_next}
use Rattle.event.proofs.Elements.{each_alone}
use Rattle.event.proofs.RowJudged.{rows_from_lem, row_taken, row_refused}
use Rattle.event.proofs.Ends.{placed}
use Rattle.event.proofs.WritingTurns.{Wrote, wrote, unwritten, writes_refused, writes_done}
use Rattle.frs_layout.specs.Event.{scaler_geo, scaler_end}
use Rattle.frs_layout.specs.Layout.{header_word, scaler_words, scaler_row, scaler_block_row, count_checks, scaler_checks}
use Rattle.frs_layout.specs.Writing.{scaler_at, next_index, scaler}
use Rattle.frs_layout.proofs.RowCount.{scaler_count}
use Rattle.frs_layout.proofs.Rows.{codes_scaler}
use Rattle.frs_writer.specs.Faults.{block_fault, scaler_fault}
use Rattle.frs_writer.proofs.Parts.{block_stored}

-- `index` of n scalers are stored
abbrev pub Scalers : List Row → (n : ℕ) → List ℕ → (index : ℕ) → List ℕ → Type 0
Scalers rs n b₀ index b = CountedTo 32 scaler_at next_index word_alone (λ s. s ≡ index) rs n 0 2 1 b₀ index (1 + index) b

module _ {rs : List Row} {n index : ℕ} {b₀ b : List ℕ} (h : Scalers rs n b₀ index b) where
  abbrev Written : PartAnswer → List ℕ → Type 0
  Written = Writes 32 (each word_alone) (times scaler_at next_index n 0 2 (drop 2 rs)) rs 1 b₀

  pub scalers_done : index ≡ n → Written (Ok (part (2 + n) (1 + n))) b
  scalers_done e = rw e at (counted_done 32 (λ s. of_kind 18) (λ r. r.datum) scaler_row (λ s. scaler_checks 22) (λ s. refl) (λ s v. (tt, tt)) h (omega arith))

  module _ (less : index < n) {r : Row} (e : r ≡ get_or rs (2 + index) no_row) where
    pub scaler_refused : {refused : Refusal} (after : List ℕ) → Err refused ≡ verdict (scaler_fault index r) (2 + index) → Written (Err refused) after
    unfolding scaler_fault
    scaler_refused after q = counted_refused 32 (λ s. of_kind 18) (λ r. r.datum) scaler_row (λ s. scaler_checks 22) (λ s. refl) (λ s v. (tt, tt)) h less e after
        (rw h.reached.holds.1 refl) (failed_test (scaler_fault index r) (2 + index) q)

    pub scaler_taken : {u : Unit {0}} {b' : List ℕ} → Ok u ≡ verdict (scaler_fault index r) (2 + index) → b' ≡ store_word 32 b (1 + index) r.datum → length b' ≡ length b
        → Scalers rs n b₀ (index + 1) b'
    unfolding scaler_fault
    scaler_taken q s z = counted_next 32 (λ s. of_kind 18) (λ r. r.datum) scaler_row (λ s. scaler_checks 22) (λ s. refl) (λ s v. (tt, tt)) h less e
        (rw h.reached.holds.1 (passed_test (scaler_fault index r) (2 + index) q)) (let t = h.reached.holds.1 in omega arith) (omega arith) (omega arith) s z

-- the block around them
module _ (rs : List Row) (b : List ℕ) {r : Row} (e : r ≡ get_or rs 1 no_row) where
  abbrev BlockWritten : PartAnswer → List ℕ → Type 0
  BlockWritten = Writes 32 scaler_words (scaler 1 (drop 1 rs)) rs 0 b

  pub block_refused : {refused : Refusal} (after : List ℕ) → Err refused ≡ verdict (block_fault r) 1 → BlockWritten (Err refused) after
  unfolding block_fault
  block_refused after q =
      let t = failed_test (block_fault r) 1 q in
      let u = row_refused (of_kind 17) (λ r. r.channel) scaler_block_row (count_checks 22) refl (λ n. (tt, (tt, tt))) rs 1 e {n = block_fault r} refl t.some in
      writes_refused 32 scaler_words (record { number = block_fault r; place = 1; refused = rw u; named = t.named }) refl

  module _ {u : Unit {0}} (q : Ok u ≡ verdict (block_fault r) 1) where
    block_taken : (1 < length rs) × (row_with (of_kind 17) (λ r. r.channel) scaler_block_row (count_checks 22) 1 (drop 1 rs) ≡ ok r.channel 2 (drop 2 rs))
    unfolding block_fault
    block_taken = row_taken (of_kind 17) (λ r. r.channel) scaler_block_row (count_checks 22) refl (λ n. (tt, (tt, tt))) rs 1 e (passed_test (block_fault r) 1 q)

    pub scalers_there : 2 ≤ length rs
    scalers_there = block_taken.0

    abbrev values : Result Row (List ℕ)
    values = times scaler_at next_index r.channel 0 2 (drop 2 rs)

    block_is : scaler 1 (drop 1 rs) ≡ values
    block_is = rw block_taken.1

    pub scalers_refused : {b₁ : List ℕ} {refused : Refusal} (after : List ℕ) → Writes 32 (each word_alone) values rs 1 b (Err refused) b₁ → BlockWritten (Err refused) after
    scalers_refused {refused = refused} after s = go (unwritten 32 (each word_alone) values s.scanned)
      where
        go : RefusedAs values refused → BlockWritten (Err refused) after
        go t = writes_refused 32 scaler_words (record { number = t.number; place = t.place; refused = block_is ∙ t.refused; named = t.named }) refl

    module _ {b₁ : List ℕ} {p : Part} (s : Writes 32 (each word_alone) values rs 1 b (Ok p) b₁) where
      these : Wrote 32 (each word_alone) values 1 b p.next p.count b₁
      these = wrote 32 (each word_alone) values s.scanned

      -- as many as the block's row says
      size : (length these.value ≡ r.channel) × (p.next ≡ 2 + length these.value) × (p.next ≤ length rs) × (p.count ≡ 1 + length these.value)
      size =
          let t = these in
          let q = block_is ∙ t.parsed in
          let u = placed codes_scaler rs 1 (omega (arith, block_taken.0)) q in
          let w = (codes_scaler.sound 1 (drop 1 rs) t.value p.next t.input q).1 in
          let v : scaler_block_row (length t.value) ≡ r = cc (w, rows_from_lem rs 1 block_taken.0, e) in
          (ap (λ (x : Row). x.channel) v, omega (arith, u.1, scaler_count 0 t.value), u.2, t.counted ∙ rw (each_alone t.value))

      pub block_done : {b₂ b₃ : List ℕ} → b₂ ≡ store_word 32 b₁ 0 (header_word scaler_geo r.channel) → b₃ ≡ store_word 32 b₂ p.count scaler_end
          → BlockWritten (Ok (part p.next (p.count + 1))) b₃
      block_done first last =
          let t = these in
          let vs = t.value in
          let same = each_alone vs in
          writes_done 32 scaler_words (block_is ∙ t.parsed) refl (omega (arith, size.3, length-append vs (scaler_end ∷ [])))
          (block_stored b (header_word scaler_geo (length vs)) vs scaler_end (t.stored ∙ ap (store_words 32 b 1) same)
          (first ∙ ap (λ (n : ℕ). store_word 32 b₁ 0 (header_word scaler_geo n)) (sym size.0)) size.3 last) size.2 (omega (arith, size.1, size.3))
