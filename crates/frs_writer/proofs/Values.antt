-- The loop over the values of a module. Over plain values.
-- Assumes nothing.
use Prim.Native.Nat.{ℕ, ◌+◌, ◌*◌, ◌%◌, ◌^◌, ◌<◌}
use native.Mathlib.Omega.{arith}
use mathlib.Core.Path.{◌≡◌, refl, ap, ◌∙◌}
use mathlib.Core.List.{List, []}
use lib.ListN.{length, get_or, drop}
use Rattle.std.specs.Prelude.{Ok, Err}
use Rattle.event.specs.declared.refusal.Refusal.{Refusal}
use Rattle.event.specs.declared.Row.{Row}
use Rattle.event.specs.Parser.{times, each}
use Rattle.event.specs.Channels.{insert, Blocked}
use Rattle.event.specs.Refusal.{PartAnswer, part, verdict}
use Rattle.event.specs.Words.{store_word}
use Rattle.event.specs.Writing.{of_kind, no_row}
use Rattle.event.specs.Scanning.{Writes}
use Rattle.event.proofs.Answers.{passed_test, failed_test}
use Rattle.event.proofs.ChannelLaws.{blocked_more}
use Rattle.event.proofs.CountedRows.{CountedTo, counted_done, counted_refused, counted_next}
use Rattle.frs_layout.specs.Layout.{longword, value_row, value_checks, channels}
use Rattle.frs_layout.specs.Writing.{value_of, value}
use Rattle.frs_writer.specs.Faults.{value_fault}
use Rattle.frs_writer.specs.Parts.{value_words}
use Rattle.frs_writer.proofs.RowFaults.{value_seen, value_fields}

-- k of the n values are written; the set holds their channels
abbrev pub Values : (g : ℕ) → List Row → (n set first : ℕ) → List ℕ → (k : ℕ) → List ℕ → Type 0
Values g rs n set first b₀ k b = CountedTo 32 (value g) channels (value_words g) (Blocked 0 set) rs n [] first 1 b₀ k (1 + k) b

module _ (g : ℕ) {rs : List Row} {n set first k : ℕ} {b₀ b : List ℕ} (h : Values g rs n set first b₀ k b) where
  abbrev Written : PartAnswer → List ℕ → Type 0
  Written = Writes 32 (each (value_words g)) (times (value g) channels n [] first (drop first rs)) rs 1 b₀

  pub values_done : k ≡ n → Written (Ok (part (first + n) (1 + n))) b
  values_done e = rw e at (counted_done 32 (λ s. of_kind 22) value_of (λ s. value_row g) (value_checks 22 22) (λ s. refl) (λ s v. (tt, (tt, (tt, tt)))) h (omega arith))

  module _ (more : k < n) {r : Row} (e : r ≡ get_or rs (first + k) no_row) where
    pub value_refused : {refused : Refusal} (after : List ℕ) → Err refused ≡ verdict (value_fault g set r) (first + k) → Written (Err refused) after
    value_refused after q = counted_refused 32 (λ s. of_kind 22) value_of (λ s. value_row g) (value_checks 22 22) (λ s. refl) (λ s v. (tt, (tt, (tt, tt)))) h more e after
        (value_seen g r h.reached.holds.1) (failed_test (value_fault g set r) (first + k) q)

    pub value_taken : {u : Unit {0}} {w set' : ℕ} {b' : List ℕ} → Ok u ≡ verdict (value_fault g set r) (first + k) → w ≡ longword g 0 (r.channel * 2 ^ 16 + r.datum)
        → b' ≡ store_word 32 b (1 + k) w → set' ≡ insert set (r.channel % 32) → length b' ≡ length b → Values g rs n set' first b₀ (k + 1) b'
    value_taken q w s t z =
        let f = passed_test (value_fault g set r) (first + k) q in
        let low : r.channel % 32 ≡ r.channel = omega (arith, value_fields g set r f) in
        counted_next 32 (λ s. of_kind 22) value_of (λ s. value_row g) (value_checks 22 22) (λ s. refl) (λ s v. (tt, (tt, (tt, tt)))) h more e (f ∙ value_seen g r h.reached.holds.1)
        (rw (t, low) (blocked_more r.channel h.reached.holds.1)) (omega arith) (omega arith) (s ∙ ap (store_word 32 b (1 + k)) w) z
