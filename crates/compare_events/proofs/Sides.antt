-- Two events of a line's words at most, compared into room for the largest lists: what the lists hold, and their text.
-- Assumes nothing.
use Prim.Native.Nat.{ℕ, ◌+◌, ◌*◌, ◌/◌, ◌≤◌}
use native.Mathlib.Omega.{arith}
use mathlib.Core.Path.{◌≡◌, refl, ap, ◌∙◌}
use mathlib.Core.List.{List}
use Rattle.std.specs.Prelude.{Result, Ok}
use lib.ListN.{length, take, drop}
use lib.Seq.{take_at, length-take-le}
use Rattle.event.specs.declared.Row.{Row}
use Rattle.event.specs.declared.StampOrder.{StampOrder}
use Rattle.event.specs.Outcome.{overlaid}
use Rattle.event.specs.Parser.{each}
use Rattle.event.specs.Rows.{flat_row}
use Rattle.event.specs.Words.{word_alone}
use Rattle.dialects.specs.declared.Dialect.{Dialect}
use Rattle.dialects.specs.declared.Dialect.TheVariants.{S}
use Rattle.dialects.specs.Dialects.{width, reading, largest_rows}
use Rattle.hex_line.specs.Line.{most_words}
use Rattle.hex_line.specs.Text.{Placed}
use Rattle.hex_line.proofs.TextLaws.{placed_then}
use Rattle.comparison.specs.declared.Listed.{Listed}
use Rattle.comparison.specs.Comparing.{Comparison, listed, differing_words, differing_rows, rows_apart, word_entries, row_entries, compared, written}
use Rattle.comparison.specs.Differences.{Difference, tail_of}
use Rattle.comparison.proofs.Entries.{entries_length}
use Rattle.compare_events.specs.Lengths.{word_length, tail_length, rows_length, last_length, compared_length}
use Rattle.compare_events.specs.Print.{compared_text}
use Rattle.compare_events.specs.Text.{word_text, tail_text, rows_text, end_text}
use Rattle.compare_events.proofs.Sizes.{few_rows_apart, tail_text_most, own_rows, words_and_tail, both_listed_lem}
use Rattle.compare_events.proofs.TextLaws.{word_length_lem, rows_length_lem, each_length}

same_ok : {A E : Type 0} {r : Result A E} {x y : A} → r ≡ Ok x → r ≡ Ok y → x ≡ y
same_ok e f = cc

module _ (d : Dialect) (o : StampOrder) (a b : List ℕ) where
  abbrev ds : List (Difference ℕ)
  ds = differing_words a b

  abbrev es : List (Difference Row)
  es = differing_rows (reading d o a) (reading d o b)

  -- m entries in the word list, n in the row list
  pub record Lists (m n : ℕ) (words rows : List ℕ) : Type 0 where
    pub words_listed_lem : m ≡ length ds
    pub rows_listed_lem : n ≡ length es
    pub word_room : 3 * m ≤ length words
    pub row_room : 9 * n ≤ length rows
    pub word_list : take (3 * m) words ≡ word_entries ds
    pub row_list : take (9 * n) rows ≡ row_entries es

  front : (xs buffer : List ℕ) (k : ℕ) → length xs ≡ k → take k (overlaid xs buffer) ≡ xs
  front xs buffer k e = take_at xs (drop (length xs) buffer) k e

  module _ (bits : ℕ) (own : width d ≡ bits) (la : length a ≤ most_words S) (lb : length b ≤ most_words S) (words rows : List ℕ)
      (lw : length words ≡ 3 * most_words S) (lr : length rows ≡ 9 * largest_rows) {r : Comparison} (answer : r ≡ compared bits d o a b (length words) (length rows)) where
    pub answered : r ≡ Ok (listed (length ds) (length es))
    answered = answer ∙ both_listed_lem d o a b la lb bits own lw lr

    pub lists : {l : Listed} {words' rows' : List ℕ} → r ≡ Ok l → length words' ≡ length words → length rows' ≡ length rows
        → words' ≡ written r (word_entries ds) words → rows' ≡ written r (row_entries (rows_apart bits d o a b)) rows → Lists l.words l.rows words' rows'
    lists {l} {words'} {rows'} e kw kr w v =
        let both : l ≡ listed (length ds) (length es) = same_ok e answered in
        let p : l.words ≡ length ds = ap (λ (x : Listed). x.words) both in
        let q : l.rows ≡ length es = ap (λ (x : Listed). x.rows) both in
        let wl = entries_length word_alone 3 (λ x. refl) ds in
        let rl = entries_length flat_row 9 (λ x. refl) es in
        let few = words_and_tail d o a b la lb in
        record {
          words_listed_lem = p;
          rows_listed_lem = q;
          word_room = omega (arith, p, few, kw, lw);
          row_room = omega (arith, q, few_rows_apart d o a b, kr, lr);
          word_list = ap (take (3 * l.words)) (w ∙ rw answered) ∙ front (word_entries ds) words (3 * l.words) (omega (arith, wl, p));
          row_list = ap (take (9 * l.rows)) (v ∙ rw (answered, own_rows d o a b bits own)) ∙ front (row_entries es) rows (9 * l.rows) (omega (arith, rl, q));
        }

  -- room for each part of the text, one behind another from `at` on
  module _ (la : length a ≤ most_words S) (lb : length b ≤ most_words S) {m n : ℕ} {words rows : List ℕ} (l : Lists m n words rows)
      (at : ℕ) {size : ℕ} (h : at + compared_length ≤ size) where
    row_numbers : length (take (9 * n) rows) / 9 ≡ length es
    row_numbers = rw (length-take-le (9 * n) rows l.row_room) (omega (arith, l.rows_listed_lem))

    -- where the words end, and where the tail ends
    module _ {text₀ text₁ : List ℕ} {end₁ : ℕ} (p : Placed text₀ at (each word_text ds) end₁ text₁) where
      ends_words : end₁ ≡ at + word_length * length ds
      ends_words = p.ends ∙ ap (at +◌) (each_length word_text word_length word_length_lem ds)

      pub room_tail : end₁ + tail_length * length (tail_of a b) ≤ size
      room_tail = omega (arith, ends_words, words_and_tail d o a b la lb)

      module _ {text₂ : List ℕ} {end₂ : ℕ} (q : Placed text₁ end₁ (tail_text a b) end₂ text₂) where
        ends_tail : end₂ ≤ end₁ + tail_length * length (tail_of a b)
        ends_tail = omega (arith, q.ends, tail_text_most a b)

        pub room_rows : end₂ + rows_length * (length (take (9 * n) rows) / 9) ≤ size
        room_rows = rw row_numbers (omega (arith, ends_tail, ends_words, words_and_tail d o a b la lb, few_rows_apart d o a b))

        module _ {text₃ : List ℕ} {end₃ : ℕ} (s : Placed text₂ end₂ (each rows_text es) end₃ text₃) where
          ends_rows : end₃ ≡ end₂ + rows_length * length es
          ends_rows = s.ends ∙ ap (end₂ +◌) (each_length rows_text rows_length rows_length_lem es)

          pub room_end : end₃ + last_length ≤ size
          room_end = omega (arith, ends_rows, ends_tail, ends_words, words_and_tail d o a b la lb, few_rows_apart d o a b)

          pub all_put_lem : {k : ℕ} {text₄ : List ℕ} {end₄ : ℕ} → k ≡ length (tail_of a b) → Placed text₃ end₃ (end_text m k n) end₄ text₄
              → Placed text₀ at (compared_text d o a b) end₄ text₄
          unfolding compared_text
          all_put_lem e z = placed_then (placed_then (placed_then p q) s) (rw (l.words_listed_lem, e, l.rows_listed_lem) at z)
