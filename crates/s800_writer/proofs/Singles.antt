-- Rows of which each field has a largest number: one of them, and loops over them, one turn each. Over plain values.
-- Assumes nothing.
use Prim.Native.Nat.{ℕ, ◌+◌, ◌^◌, ◌≤◌, ◌<◌}
use native.Mathlib.Omega.{arith}
use mathlib.Core.Path.{◌≡◌, refl, sym, ◌∙◌}
use mathlib.Core.Bool.{Bool, true, false, not}
use mathlib.Core.List.{List, ◌∷◌, []}
use lib.Dec.{eqb}
use lib.ListN.{length, get_or, drop}
use Rattle.event.specs.declared.Row.{Row}
use Rattle.event.specs.Parser.{ok, Test, fault_in, several, each, alone}
use Rattle.event.specs.Rows.{row}
use Rattle.event.specs.Words.{word_alone, store_word, below_checks}
use Rattle.event.specs.Scanning.{store_words, RefusedAs, Writes}
use Rattle.event.specs.Writing.{row_tests, row_with, of_kind, at_kind, no_row}
use Rattle.event.proofs.Codes.{Codes, any}
use Rattle.event.proofs.RowFaults.{Numbered}
use Rattle.event.proofs.RowJudged.{rows_from_lem, row_taken}
use Rattle.event.proofs.Turns.{up_to_stop}
use Rattle.event.proofs.WritingTurns.{WritesOn, run_refused, run_taken}
use Rattle.s800_layout.specs.Writing.{at_packet, datum_below}
use Rattle.s800_layout.proofs.Rows.{codes_below}
use Rattle.s800_writer.specs.Rows.{limits_fault}
use Rattle.s800_writer.proofs.Limits.{bounded, plain_fault}
use Rattle.std.specs.Prelude.{Err}
use Rattle.event.specs.declared.refusal.Refusal.{Refusal}
use Rattle.event.proofs.Answers.{Failed}
use Rattle.s800_writer.proofs.Failures.{row_failed}

module _ {A : Type 0} (k u c d : ℕ) (fields : Row → A) (print : A → Row) (checks : A → List Test) (law : (r : Row) → fault_in (row_tests (of_kind k) fields print checks r) ≡ limits_fault k u c d r)
    (some : eqb k 0 ≡ false) (numbered : (a : A) → Numbered (checks a)) (rs : List Row) (i : ℕ) {r : Row} (e : r ≡ get_or rs i no_row) where
  pub one_taken : 0 ≡ limits_fault k u c d r → (i < length rs) × (row_with (of_kind k) fields print checks i (drop i rs) ≡ ok (fields r) (i + 1) (drop (i + 1) rs))
  one_taken f = row_taken (of_kind k) fields print checks some numbered rs i e (f ∙ sym (law r))

  -- such a row is of another kind than the one that ends a run
  pub one_going : (m : ℕ) → eqb m k ≡ false → 0 ≡ limits_fault k u c d r → true ≡ not (at_kind m (drop i rs))
  one_going m other f = rw (rows_from_lem rs i (one_taken f).0, ← e, (bounded k u c d r f).kind, other)

  pub one_refused : {refused : Refusal} → Failed (limits_fault k u c d r) i refused → RefusedAs (row_with (of_kind k) fields print checks i (drop i rs)) refused
  one_refused = row_failed (of_kind k) fields print checks some numbered rs i e (law r)

-- such rows up to a stop
module _ {A : Type 0} (k u c d : ℕ) (fields : Row → A) (print : A → Row) (checks : A → List Test) (law : (r : Row) → fault_in (row_tests (of_kind k) fields print checks r) ≡ limits_fault k u c d r)
    (some : eqb k 0 ≡ false) (numbered : (a : A) → Numbered (checks a)) {Good : A → Type 0} (codes : Codes any (row_with (of_kind k) fields print checks) (λ a. print a ∷ []) Good)
    (stop : List Row → Bool) (on : (a : A) (l : List Row) → stop (print a ∷ l) ≡ false) (halt : stop [] ≡ true) (words : A → List ℕ)
    {rs : List Row} {i₀ k₀ i n : ℕ} {b₀ b : List ℕ} (h : WritesOn 16 (up_to_stop stop (λ t. row_with (of_kind k) fields print checks) alone) words (λ t. Unit {0}) rs tt i₀ k₀ b₀ i n b)
    (going : true ≡ not (stop (drop i rs))) {r : Row} (e : r ≡ get_or rs i no_row) where
  several_refused : {refused : Refusal} (after : List ℕ) → Failed (limits_fault k u c d r) i refused
      → Writes 16 (each words) (several (row_with (of_kind k) fields print checks) stop i₀ (drop i₀ rs)) rs k₀ b₀ (Err refused) after
  several_refused after t = run_refused 16 stop h (λ t. codes) (λ t a g l. on a l) halt going after (one_refused k u c d fields print checks law some numbered rs i e t)

  several_taken : {j m : ℕ} {b' : List ℕ} → 0 ≡ limits_fault k u c d r → j ≡ i + 1 → m ≡ n + length (words (fields r)) → length (words (fields r)) ≤ 4 → b' ≡ store_words 16 b n (words (fields r)) → length b' ≡ length b
      → WritesOn 16 (up_to_stop stop (λ t. row_with (of_kind k) fields print checks) alone) words (λ t. Unit {0}) rs tt i₀ k₀ b₀ j m b'
  several_taken f p q small s z =
      let few = h.few in
      let t = one_taken k u c d fields print checks law some numbered rs i e f in
      let l = t.0 in
      run_taken 16 stop h (λ t. codes) (λ t a g l. on a l) halt going (rw p t.1) tt (omega arith) (omega arith) q s z

-- opaque words
abbrev pub Opaques : List Row → ℕ → ℕ → List ℕ → ℕ → ℕ → List ℕ → Type 0
Opaques rs = WritesOn 16 (up_to_stop at_packet (λ t. datum_below 11 0 (2 ^ 16)) alone) word_alone (λ t. Unit {0}) rs tt

module _ {rs : List Row} {i₀ k₀ i n : ℕ} {b₀ b : List ℕ} (h : Opaques rs i₀ k₀ b₀ i n b) (going : true ≡ not (at_packet (drop i rs))) {r : Row} (e : r ≡ get_or rs i no_row) where
  pub opaques_stop : {refused : Refusal} (after : List ℕ) → Failed (limits_fault 11 0 0 65535 r) i refused → Writes 16 (each word_alone) (several (datum_below 11 0 (2 ^ 16)) at_packet i₀ (drop i₀ rs)) rs k₀ b₀ (Err refused) after
  opaques_stop = several_refused 11 0 0 65535 (λ r. r.datum) (row 11 0 0) (below_checks 22 (2 ^ 16)) (plain_fault 11 65535) refl (λ a. (tt, tt)) (codes_below 11 0 (2 ^ 16)) at_packet (λ a l. refl) refl word_alone h going e

  pub opaques_step : {b' : List ℕ} → 0 ≡ limits_fault 11 0 0 65535 r → b' ≡ store_word 16 b n r.datum → length b' ≡ length b → Opaques rs i₀ k₀ b₀ (i + 1) (n + 1) b'
  opaques_step f = several_taken 11 0 0 65535 (λ r. r.datum) (row 11 0 0) (below_checks 22 (2 ^ 16)) (plain_fault 11 65535) refl (λ a. (tt, tt)) (codes_below 11 0 (2 ^ 16)) at_packet (λ a l. refl) refl word_alone h going e f refl refl (omega arith)

  pub opaques_inside : 0 ≡ limits_fault 11 0 0 65535 r → i < length rs
  opaques_inside f = (one_taken 11 0 0 65535 (λ r. r.datum) (row 11 0 0) (below_checks 22 (2 ^ 16)) (plain_fault 11 65535) refl (λ a. (tt, tt)) rs i e f).0
