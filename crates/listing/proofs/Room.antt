-- Room for every line that is not too long and for as many rows as words is enough: 24 and 12 do not show.
-- Assumes nothing.
use Prim.Native.Nat.{ℕ, ◌+◌, ◌-◌, ◌/◌, ◌≤◌}
use native.Mathlib.Omega.{arith}
use native.Mathlib.Nat.{le_trans, le-div_iff_mul-le, div-mul-le_self}
use mathlib.Core.Path.{◌≡◌, refl, ap, ◌∙◌}
use mathlib.Core.Bool.{Bool, true, false}
use mathlib.Core.List.{List}
use lib.ListN.{length}
use borrow.Author.Tests.{le-leb}
use Rattle.event.specs.declared.Row.{Row}
use Rattle.event.specs.declared.StampOrder.{StampOrder}
use Rattle.event.specs.Outcome.{Outcome, done, refused, limited, answer_of, given}
use Rattle.event.proofs.Impossible.{impossible}
use Rattle.dialects.specs.declared.Dialect.{Dialect}
use Rattle.dialects.specs.Dialects.{reading, reading_into}
use Rattle.dialects.proofs.Demands.{rows_within_words}
use Rattle.dialects.proofs.Widths.{by_width}
use Rattle.hex_line.specs.Line.{letter, digits, well_formed, word_count, words_of, line_words, longest_line, most_words}
use Rattle.hex_line.proofs.LineLaws.{formed_short, firsts_length}
use Rattle.listing.specs.Text.{event_text}
use Rattle.listing.proofs.TextLaws.{answer_most, event_length}
use Rattle.listing.specs.Listing.{line_dialect, and_then, line_rows, line_rows_into}
use Rattle.listing.specs.Lengths.{most_rows, most_text}

pub under : (d : Dialect) → most_words d ≤ most_rows
under = by_width (λ (w : ℕ). (longest_line - 1) / (w / 4 + 1) ≤ most_rows) (omega arith) (omega arith)

pub few_words : (d : Dialect) (line ws : List ℕ) → line_words d line ≡ done ws → length ws ≤ most_words d
few_words d line ws e = go (well_formed (letter d) (digits d) line) refl
  where
    go : (b : Bool) → well_formed (letter d) (digits d) line ≡ b → length ws ≤ most_words d
    go false f = let q = rw f at e in impossible cc
    go true f =
        let q : words_of (digits d) line (word_count (digits d) line) ≡ ws = cc (rw f at e) in
        let l = formed_short (letter d) (digits d) line f in
        rw (← q, firsts_length) ((le-div_iff_mul-le {k = digits d + 1} (omega arith)).1 (le_trans (div-mul-le_self (length line - 1) (digits d + 1)) (omega arith)))

within : {A : Type 0} (n most : ℕ) (x : Outcome A) → length (given x) ≤ most → limited n most x ≡ x
within n most (done xs) h = rw (le-leb (length xs) most h)
within n most (refused m k) h = refl

few_rows : (d : Dialect) (o : StampOrder) (ws : List ℕ) → length (given (reading d o ws)) ≤ length ws
few_rows d o ws = go (reading d o ws) refl
  where
    go : (x : Outcome Row) → reading d o ws ≡ x → length (given x) ≤ length ws
    go (done rs) e = rows_within_words d o ws rs e
    go (refused n k) e = omega arith

module _ (o : StampOrder) (line : List ℕ) where
  pub few_line_rows : length (given (line_rows o line)) ≤ most_rows
  few_line_rows = go (line_dialect line) (line_words (line_dialect line) line) refl
    where
      go : (d : Dialect) (x : Outcome ℕ) → line_words d line ≡ x → length (given (and_then (reading d o) x)) ≤ most_rows
      go d (done ws) e = le_trans (few_rows d o ws) (le_trans (few_words d line ws e) (under d))
      go d (refused n k) e = omega arith

  pub room_enough : {words rows : ℕ} → most_words (line_dialect line) ≤ words → most_rows ≤ rows → line_rows_into words rows o line ≡ line_rows o line
  room_enough {words} {rows} = go (line_dialect line) (line_words (line_dialect line) line) refl
    where
      go : (d : Dialect) (x : Outcome ℕ) → line_words d line ≡ x → most_words d ≤ words → most_rows ≤ rows
          → and_then (reading_into d rows o) (limited 24 words x) ≡ and_then (reading d o) x
      go d (done ws) e w r =
          let h = few_words d line ws e in
          ap (and_then (reading_into d rows o)) (within 24 words (done ws) (le_trans h w))
          ∙ within 12 rows (reading d o ws) (le_trans (few_rows d o ws) (le_trans h (le_trans (under d) r)))
      go d (refused n k) e w r = refl

  -- the most characters that a line's answer and rows take
  pub most_text_lem : (k : ℕ) → length (event_text k (answer_of (line_rows o line)) (given (line_rows o line))) ≤ most_text
  most_text_lem k =
      rw (event_length k (answer_of (line_rows o line)) (given (line_rows o line))) (omega (arith, few_line_rows, answer_most (answer_of (line_rows o line))))
