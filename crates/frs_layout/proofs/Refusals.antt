-- Every refusal of a reading of dialect F has a number that document 01 gives to F, and the place of a longword of the event (0 where there is none).
-- Assumes nothing.
use Prim.Native.Nat.{ℕ, suc, ◌+◌, ◌%◌, ◌^◌, ◌≤◌, ◌<◌}
use native.Mathlib.Omega.{arith}
use mathlib.Core.Path.{◌≡◌}
use mathlib.Core.Logic.{◌⊎◌}
use mathlib.Core.Bool.{Bool}
use mathlib.Core.List.{List, [], ◌∷◌}
use lib.Dec.{T, eqb}
use lib.ListN.{length}
use Rattle.event.specs.Parser.{Parser, Test, test, ◌>>=◌, within, alone, All, member}
use Rattle.event.specs.Words.{layout, exactly, halves, between, below_checks}
use Rattle.event.specs.Outcome.{refused}
use Rattle.event.proofs.Elements.{bounds}
use Rattle.event.proofs.Refusals.{Keeps, keeps_give, keeps_left, keeps_bind, keeps_map, keeps_require, keeps_element, keeps_here, keeps_within, keeps_optionally, keeps_many}
use Rattle.event.proofs.ReadingRefusals.{fills_words, reading_refused}
use Rattle.frs_layout.specs.Event.{scaler_geo, stamp_identifier, word1_identifier, word2_identifier, word3_identifier, scaler_end, pattern_header, register_identifier, multiplicity_identifier, pattern_end}
use Rattle.frs_layout.specs.Layout.{header_word, footer_word, value_word, count_checks, scaler_checks, value_checks, counter_checks, rows, smallest_event, largest_event, channels, geos}
use Rattle.frs_layout.specs.Reading.{data_under, stamp, block_of, scaler_value, scaler_values, scaler_footer, scaler, pattern_body, pattern_unit, at_pattern, Header, empty_header, data_header, first_word, header_of, header_checks, value_of, value, values, footer, body, one_module, event_parser, reading}

abbrev of_reading : ℕ → Bool
of_reading n = member n (1 ∷ 5 ∷ 6 ∷ 9 ∷ 10 ∷ 11 ∷ [])

-- a header's checks hang on its case; those of the other longwords have their numbers as they stand
header_numbers : (seen : List ℕ) (h : Header) → All (λ t. T (of_reading t.number)) (header_checks seen h)
header_numbers seen (empty_header g) = omega arith
header_numbers seen (data_header g n) = omega arith

there : (s : List ℕ) → T (at_pattern s) → 1 ≤ length s
there [] t = absurd t
there (w ∷ s) t = omega arith

-- Every place is before `bound`. A block that fits finds all its longwords, and they fill it: so there is no refusal past the longwords, and none by 0.
module _ (bound : ℕ) where
  abbrev Reads : {A : Type 0} → List ℕ → Parser ℕ A → (List ℕ → Type 0) → Type 0
  Reads s p Left = Keeps of_reading bound (λ n. 0) s p Left

  -- and no longword is left
  abbrev Fills : {A : Type 0} → List ℕ → Parser ℕ A → Type 0
  Fills s p = Reads s p (λ r. length r ≡ 0)

  -- the tests of one longword with fields (`layout`); then such a longword, and the kinds of it that stand more than once
  abbrev tests_of : {A : Type 0} → ℕ → (ℕ → A) → (A → ℕ) → (A → List Test) → ℕ → List Test
  tests_of n fields print checks w = test n (eqb w (print (fields w))) ∷ checks (fields w)

  reads_layout : {A : Type 0} (n : ℕ) (fields : ℕ → A) (print : A → ℕ) (checks : A → List Test) {s : List ℕ} → T (of_reading n) → ((a : A) → All (λ t. T (of_reading t.number)) (checks a))
      → 1 ≤ length s → Reads s (layout n fields print checks) (λ r. suc (length r) ≡ length s)
  reads_layout n fields print checks t c l = keeps_element fields (tests_of n fields print checks) (t, (λ w. (t, c (fields w))), omega arith)

  reads_exactly : (n v : ℕ) {s : List ℕ} → T (of_reading n) → 1 ≤ length s → Reads s (exactly n v) (λ r. suc (length r) ≡ length s)
  reads_exactly n v t l = reads_layout n (λ w. tt) (λ u. v) (λ u. []) t (λ u. tt) l

  reads_data : (upper : ℕ) {s : List ℕ} → 1 ≤ length s → Reads s (data_under upper) (λ r. suc (length r) ≡ length s)
  reads_data upper l = reads_layout 10 (◌% 2 ^ 16) (halves upper) (below_checks 10 (2 ^ 16)) tt (λ d. (tt, tt)) l

  reads_stamp : (s : List ℕ) → 4 ≤ length s → Reads s stamp (λ r. length r + 4 ≡ length s)
  reads_stamp s l = keeps_bind (reads_exactly 10 stamp_identifier tt (omega arith)) λ u r e.
      keeps_bind (reads_data word1_identifier (omega arith)) λ a r₁ e₁. keeps_bind (reads_data word2_identifier (omega arith)) λ b r₂ e₂.
      keeps_bind (reads_data word3_identifier (omega arith)) λ c r₃ e₃. keeps_give (omega arith)

  -- a block with a count of n: its values fill the count, and the footer is one longword
  reads_block_of : {A B : Type 0} {s : List ℕ} (p n : ℕ) (values : Parser ℕ A) (footer : A → Parser ℕ B) → p < bound → ((s : List ℕ) → Fills s values)
      → ((a : A) (s : List ℕ) → length s ≡ 1 → Fills s (footer a)) → Reads s (block_of p n values footer) (λ r. length r ≤ length s)
  reads_block_of p n values footer b c d = keeps_left
      (keeps_within 5 p (n + 1) (within 5 p n values >>= footer) (Unit {0}) tt b λ s l.
      keeps_bind (keeps_within 5 p n values (Unit {0}) tt b λ s l. keeps_left (c s) (λ r z. (z, tt))) λ a r e. keeps_left (d a r (omega arith)) (λ r₁ z. (z, tt)))
      (λ r z. omega arith)

  fills_scalers : (s : List ℕ) → Fills s scaler_values
  fills_scalers = fills_words (λ u. scaler_value) alone (λ u s l. reads_layout 10 (λ w. w) (λ w. w) (scaler_checks 10) tt (λ w. (tt, tt)) l) tt

  reads_scaler : (s : List ℕ) → 1 ≤ length s → Reads s scaler (λ r. length r < length s)
  reads_scaler s l = keeps_here (◌% 2 ^ 6) (tests_of 6 (◌% 2 ^ 6) (header_word scaler_geo) (count_checks 6)) (omega arith) λ p b n r e. keeps_left
      (reads_block_of p n scaler_values scaler_footer b fills_scalers (λ vs s l. keeps_bind (reads_exactly 9 scaler_end tt (omega arith)) λ u r e. keeps_give (omega arith)))
      (λ r₁ l₁. omega arith)

  reads_pattern : (s : List ℕ) → 1 ≤ length s → Reads s pattern_unit (λ r. length r ≤ length s)
  reads_pattern s l = keeps_here (λ w. tt {0}) (tests_of 6 (λ w. tt {0}) (λ u. pattern_header) (λ u. [])) (omega arith) λ p b u r e. keeps_left
      (keeps_within 5 p 3 pattern_body (Unit {0}) tt b λ s l. keeps_bind (reads_data register_identifier (omega arith)) λ a r e.
      keeps_bind (reads_data multiplicity_identifier (omega arith)) λ m r₁ e₁. keeps_bind (reads_exactly 9 pattern_end tt (omega arith)) λ u r₂ e₂. keeps_give (omega arith, tt))
      (λ r₁ z. omega arith)

  reads_body : (p : ℕ) (h : Header) (s : List ℕ) → p < bound → Reads s (body p h) (λ r. length r ≤ length s)
  reads_body p (empty_header g) s b = keeps_give (omega arith)
  reads_body p (data_header g n) s b = reads_block_of p n (values g) (footer g) b
      (fills_words (value g) channels (λ seen s l. reads_layout 10 value_of (value_word g) (value_checks 10 11 seen) tt (λ v. omega arith) l) [])
      (λ vs s l. keeps_bind (reads_layout 9 (◌% 2 ^ 16) (footer_word g) (counter_checks 9) tt (λ c. (tt, tt)) (omega arith)) λ c r e. keeps_give (omega arith))

  reads_module : (seen s : List ℕ) → 1 ≤ length s → Reads s (one_module seen) (λ r. length r < length s)
  reads_module seen s l = keeps_here header_of (tests_of 6 header_of first_word (header_checks seen)) (tt, (λ w. (tt, header_numbers seen (header_of w))), omega arith) λ p b h r e.
      keeps_left (reads_body p h r b) (λ r₁ z. omega arith)

  fills_event : (s : List ℕ) → 0 < bound → Fills s (event_parser (length s))
  fills_event s b = keeps_bind (keeps_require (between smallest_event largest_event (length s)) 1 0 tt b) λ u r e.
      let g = bounds smallest_event largest_event (length s) e.0 in
      keeps_bind (reads_stamp r (omega arith)) λ st r₁ e₁. keeps_bind (reads_scaler r₁ (omega arith)) λ vs r₂ e₂.
      keeps_bind (keeps_optionally at_pattern pattern_unit (λ t. reads_pattern r₂ (there r₂ t)) (λ t. omega arith)) λ p r₃ e₃.
      keeps_map _ (keeps_many one_module geos (λ r. Unit {0}) (λ seen s u l. keeps_left (reads_module seen s l) (λ r z. (z, tt))) [] r₃ tt)

pub refusals : (ws : List ℕ) (n k : ℕ) → reading ws ≡ refused n k → T (member n (1 ∷ 5 ∷ 6 ∷ 9 ∷ 10 ∷ 11 ∷ [])) × ((k < length ws) ⊎ (k ≡ 0))
refusals = reading_refused event_parser rows fills_event
