-- Every refusal of a reading of dialect R has a number that document 02, #101, gives to R, and its place: a word of the event; for 6 also the word count; 0 for 1 of no words.
-- Assumes nothing.
use Prim.Native.Nat.{ℕ, suc, ◌+◌, ◌%◌, ◌^◌, ◌≤◌, ◌<◌}
use native.Mathlib.Omega.{arith}
use mathlib.Core.Path.{◌≡◌, refl}
use mathlib.Core.Logic.{◌⊎◌, inl, inr}
use mathlib.Core.Bool.{Bool, true, false, cond}
use mathlib.Core.List.{List, [], ◌∷◌}
use lib.Dec.{T, leb, eqb, eqb→eq}
use lib.ListN.{length}
use borrow.Author.Tests.{eqb-true, leb-true, leb-false}
use Rattle.event.specs.Parser.{Parser, Test, test, ◌>>◌, require, several, alone, member}
use Rattle.event.specs.Words.{between, below_checks, word_below}
use Rattle.event.specs.Outcome.{refused}
use Rattle.event.proofs.Refusals.{Keeps, keeps_give, keeps_left, keeps_bind, keeps_map, keeps_require, keeps_element, keeps_here, keeps_within, keeps_many, keeps_many_at, keeps_outcome}
use Rattle.event.proofs.ReadingRefusals.{fills_words}
use Rattle.rcnp_layout.specs.Event.{Form, input_register, scaler, vdc, opaque, id_of, sum_id}
use Rattle.rcnp_layout.specs.Layout.{header_word, vdc_word, rows, size_checks, allowed_size, vdc_checks, begins, smallest_event, largest_event}
use Rattle.rcnp_layout.specs.Reading.{header_of, filling, word, scaler_value, vdc_of, vdc_value, content, region_content, region, sum_region, at_sum, event_parser, reading}
use Rattle.rcnp_layout.proofs.Event.{keeps_event}

abbrev numbers : List ℕ
numbers = 1 ∷ 5 ∷ 6 ∷ 7 ∷ 10 ∷ 13 ∷ []

abbrev of_reading : ℕ → Bool
of_reading n = member n numbers

-- a header that is missing is refused at the word count, by 6
abbrev past : ℕ → ℕ
past n = cond (eqb n 6) 1 0

-- Every place is before `bound`, or at it for 6. A region that fits finds all its words, and they fill it: so there is no other refusal past the words, and none by 0.
module _ (bound : ℕ) where
  abbrev Reads : {A : Type 0} → List ℕ → Parser ℕ A → (List ℕ → Type 0) → Type 0
  Reads s p Left = Keeps of_reading bound past s p Left

  -- and no word is left
  abbrev Fills : {A : Type 0} → List ℕ → Parser ℕ A → Type 0
  Fills s p = Reads s p (λ r. length r ≡ 0)

  -- a content that fills its size n, where it is allowed
  reads_filling : {A : Type 0} {s : List ℕ} (p n : ℕ) (allowed : Bool) (content : Parser ℕ A) → p < bound → ((s : List ℕ) → T allowed → length s ≡ n → Fills s content)
      → Reads s (filling p n allowed content) (λ r. length r ≤ length s)
  reads_filling p n allowed content b c = keeps_left
      (keeps_within 5 p n (require allowed 7 p >> content) (Unit {0}) tt b λ s l.
      keeps_bind (keeps_require allowed 7 p tt b) λ u r e. keeps_left (c r e.0 (omega arith)) (λ r₁ z. (z, tt)))
      (λ r z. omega arith)

  -- a word below a limit, where one is there
  reads_below : (limit : ℕ) (s : List ℕ) → 1 ≤ length s → Reads s (word_below 10 limit) (λ r. suc (length r) ≡ length s)
  reads_below limit s l = keeps_element (λ w. w) (λ w. test 10 (eqb w w) ∷ below_checks 10 limit w) (omega arith)

  fills_one : (n : ℕ) (s : List ℕ) → T (eqb n 1) → length s ≡ n → Fills s word
  fills_one n s a l = let g = eqb→eq n 1 a in keeps_left (reads_below (2 ^ 16) s (omega arith)) (λ r e. omega arith)

  fills_content : (f : Form) (n : ℕ) (s : List ℕ) → T (allowed_size f n) → length s ≡ n → Fills s (content f)
  fills_content input_register n s a l = fills_one n s a l
  fills_content scaler n s a l = keeps_many (λ u. scaler_value) alone (λ r. length r % 2 ≡ 0)
      (λ u s g l. keeps_bind (reads_below (2 ^ 16) s (omega arith)) λ low r e. keeps_bind (reads_below (2 ^ 8) r (omega arith)) λ high r₁ e₁. keeps_give (omega arith))
      tt s (omega (arith, eqb→eq (n % 2) 0 a))
  fills_content vdc n s a l = fills_words vdc_value begins (λ begun s l. keeps_element vdc_of (λ w. test 10 (eqb w (vdc_word (vdc_of w))) ∷ vdc_checks 10 begun (vdc_of w)) (omega arith)) false s
  fills_content (opaque k) n s a l = fills_words (λ u. word) alone (λ u s l. reads_below (2 ^ 16) s (omega arith)) tt s

  abbrev header_tests : ℕ → List Test
  header_tests w = let h = header_of w in test 6 (eqb w (header_word (id_of h.form) h.size)) ∷ size_checks 6 h.size

  reads_region : (s : List ℕ) → Reads s region (λ r. length r < length s)
  reads_region s = keeps_here header_of header_tests (omega arith) λ p b h r e. keeps_left
      (reads_filling p h.size (allowed_size h.form h.size) (region_content h.form) b (λ s a l. keeps_map _ (fills_content h.form h.size s a l)))
      (λ r₁ l. omega arith)

  reads_regions : (s : List ℕ) → Reads s (several region at_sum) (λ r. length r ≤ length s)
  reads_regions s = keeps_left
      (keeps_many_at (λ u. region) alone at_sum tt (λ r. length r ≤ length s) (λ u t g l. keeps_left (reads_region t) (λ r z. (z, omega arith))) tt s (omega arith))
      (λ r h. h.1)

  reads_sum : (s : List ℕ) → Reads s sum_region (λ r. length r < length s)
  reads_sum s = keeps_here (◌% 2 ^ 12) (λ w. test 6 (eqb w (header_word sum_id (w % 2 ^ 12))) ∷ size_checks 6 (w % 2 ^ 12)) (omega arith) λ p b n r e. keeps_left
      (reads_filling p n (eqb n 1) word b (fills_one n))
      (λ r₁ l. omega arith)

  fills_event : (s : List ℕ) → 0 < bound → Fills s (event_parser (length s))
  fills_event s b = keeps_bind (keeps_require (between smallest_event largest_event (length s)) 1 0 tt b) λ u r e. keeps_event 13 6 tt tt (λ h. b) (reads_regions r) reads_sum

pub refusals : (ws : List ℕ) (n k : ℕ) → reading ws ≡ refused n k
    → T (member n (1 ∷ 5 ∷ 6 ∷ 7 ∷ 10 ∷ 13 ∷ [])) × ((k < length ws) ⊎ (((n ≡ 6) × (k ≡ length ws)) ⊎ ((n ≡ 1) × (k ≡ 0))))
refusals [] n k e = let u : 1 ≡ n = cc in let v : 0 ≡ k = cc in rw (← u, ← v) (tt, inr (inr (refl, refl)))
refusals (w ∷ ws) n k e =
    let h = keeps_outcome (fills_event (suc (length ws)) (w ∷ ws) (omega arith)) (omega arith) rows n k e in
    (h.0, go (eqb n 6) refl h.1)
  where
    go : (b : Bool) → eqb n 6 ≡ b → k < suc (length ws) + cond b 1 0 → (k < suc (length ws)) ⊎ (((n ≡ 6) × (k ≡ suc (length ws))) ⊎ ((n ≡ 1) × (k ≡ 0)))
    go false q l = inl (omega arith)
    go true q l = at (leb (suc k) (suc (length ws))) refl
      where
        at : (b : Bool) → leb (suc k) (suc (length ws)) ≡ b → (k < suc (length ws)) ⊎ (((n ≡ 6) × (k ≡ suc (length ws))) ⊎ ((n ≡ 1) × (k ≡ 0)))
        at true m = inl (leb-true (suc k) (suc (length ws)) m)
        at false m = inr (inl (eqb-true n 6 q, omega (arith, leb-false (suc k) (suc (length ws)) m)))
