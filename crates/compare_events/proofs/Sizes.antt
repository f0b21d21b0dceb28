-- How much there is of each list, and that the program's room fits all of it.
-- Assumes nothing.
use Prim.Native.Nat.{ℕ, suc, ◌+◌, ◌-◌, ◌*◌, ◌/◌, ◌≤◌}
use native.Mathlib.Nat.{le_trans, le_of_eq}
use native.Mathlib.Omega.{arith}
use mathlib.Core.Path.{◌≡◌, refl}
use mathlib.Core.Bool.{Bool, true, false, cond}
use mathlib.Core.List.{List, [], ◌∷◌, ◌++◌}
use lib.Dec.{ltb}
use Rattle.std.specs.Prelude.{Ok}
use lib.ListN.{length, length-append, length-drop}
use borrow.Author.Tests.{ltb-true, ltb-false, eq-eqb}
use Rattle.event.specs.declared.Row.{Row}
use Rattle.event.specs.declared.StampOrder.{StampOrder}
use Rattle.event.specs.Outcome.{Outcome, done, refused, answer_of}
use Rattle.event.specs.Parser.{each}
use Rattle.event.specs.Writing.{is_same_row}
use Rattle.event.proofs.Stores.{within}
use Rattle.dialects.specs.declared.Dialect.{Dialect}
use Rattle.dialects.specs.declared.Dialect.TheVariants.{S}
use Rattle.dialects.specs.Dialects.{width, reading, largest_rows}
use Rattle.dialects.proofs.Demands.{rows_within_largest}
use Rattle.hex_line.specs.Line.{most_words, line_words}
use Rattle.hex_line.specs.Text.{text}
use Rattle.listing.specs.Listing.{line_dialect, and_then}
use Rattle.listing.proofs.Room.{few_words, under}
use Rattle.comparison.specs.Comparing.{listed, differing_words, differing_rows, rows_apart, compared}
use Rattle.comparison.specs.Differences.{Difference, difference, differences_from, tail_of}
use Rattle.compare_events.specs.Lengths.{word_length, tail_length, rows_length, compared_length, most_text}
use Rattle.compare_events.specs.Print.{compared_text, body_text, lines_text, print_of}
use Rattle.compare_events.specs.Text.{answers_text, word_text, tail_lines, tail_text, rows_text, end_text}
use Rattle.compare_events.proofs.TextLaws.{answers_most, word_length_lem, tails_most, rows_length_lem, end_length, each_length}

-- no more differences than either has elements
few_from : {A : Type 0} (same : A → A → Bool) (i : ℕ) (a b : List A) → (length (differences_from same i a b) ≤ length a) × (length (differences_from same i a b) ≤ length b)
unfolding differences_from
few_from same i [] b = (omega arith, omega arith)
few_from same i (x ∷ xs) [] = (omega arith, omega arith)
few_from {A} same i (x ∷ xs) (y ∷ ys) = go (same x y) (difference i x y) (differences_from same (i + 1) xs ys) (few_from same (i + 1) xs ys)
  where
    go : (t : Bool) (d : Difference A) (ds : List (Difference A)) → (length ds ≤ length xs) × (length ds ≤ length ys)
        → (length (cond t ds (d ∷ ds)) ≤ suc (length xs)) × (length (cond t ds (d ∷ ds)) ≤ suc (length ys))
    go true d ds h = (omega arith, omega arith)
    go false d ds h = (omega arith, omega arith)

few_words_apart : (a b : List ℕ) → (length (differing_words a b) ≤ length a) × (length (differing_words a b) ≤ length b)
few_words_apart a b = few_from _ 0 a b

pub few_rows_apart : (d : Dialect) (o : StampOrder) (a b : List ℕ) → length (differing_rows (reading d o a) (reading d o b)) ≤ largest_rows
few_rows_apart d o a b = go (reading d o a) (reading d o b) refl
  where
    go : (x y : Outcome Row) → reading d o a ≡ x → length (differing_rows x y) ≤ largest_rows
    go (done rs) (done ss) e = le_trans (few_from is_same_row 0 rs ss).0 (rows_within_largest d o a rs e)
    go (done rs) (refused n k) e = omega arith
    go (refused n k) y e = omega arith

-- what is longer is longer by the tail
pub tail_length_lem : (a b : List ℕ) → length (tail_of a b) ≡ (length a - length b) + (length b - length a)
tail_length_lem a b = go (ltb (length a) (length b)) refl
  where
    go : (t : Bool) → ltb (length a) (length b) ≡ t → length (tail_of a b) ≡ (length a - length b) + (length b - length a)
    go true e = rw (e, length-drop) (omega (arith, ltb-true (length a) (length b) e))
    go false e = rw (e, length-drop) (omega (arith, ltb-false (length a) (length b) e))

-- the characters of the tail
pub tail_text_most : (a b : List ℕ) → length (tail_text a b) ≤ tail_length * length (tail_of a b)
unfolding tail_text
tail_text_most a b = go (ltb (length a) (length b))
  where
    go : (t : Bool) → length (cond t (tail_lines (text " second ") (length a) (tail_of a b)) (tail_lines (text " first ") (length b) (tail_of a b))) ≤ tail_length * length (tail_of a b)
    go true = tails_most (text " second ") (length a) (tail_of a b) (omega arith)
    go false = tails_most (text " first ") (length b) (tail_of a b) (omega arith)

-- words of the dialect's own width
pub own_rows : (d : Dialect) (o : StampOrder) (a b : List ℕ) (bits : ℕ) → width d ≡ bits → rows_apart bits d o a b ≡ differing_rows (reading d o a) (reading d o b)
own_rows d o a b bits e = rw (eq-eqb (width d) bits e)

-- two events of a line's words at most
module _ (d : Dialect) (o : StampOrder) (a b : List ℕ) (la : length a ≤ most_words S) (lb : length b ≤ most_words S) where
  abbrev apart : List (Difference Row)
  apart = differing_rows (reading d o a) (reading d o b)

  -- a word is in the word list or in the tail, or in neither
  pub words_and_tail : length (differing_words a b) + length (tail_of a b) ≤ most_words S
  words_and_tail = omega (arith, (few_words_apart a b).0, (few_words_apart a b).1, tail_length_lem a b)

  parts : (ws ts rs es : List ℕ) → length (ws ++ ts ++ rs ++ es) ≡ length ws + length ts + length rs + length es
  parts ws ts rs es = simp length-append

  compared_most : length (compared_text d o a b) ≤ compared_length
  unfolding compared_text
  compared_most =
      let last = end_text (length (differing_words a b)) (length (tail_of a b)) (length apart) in
      le_trans (le_of_eq (parts (each word_text (differing_words a b)) (tail_text a b) (each rows_text apart) last))
      (omega (
        arith,
        each_length word_text word_length word_length_lem (differing_words a b),
        tail_text_most a b,
        each_length rows_text rows_length rows_length_lem apart,
        end_length (length (differing_words a b)) (length (tail_of a b)) (length apart),
        words_and_tail,
        few_rows_apart d o a b,
      ))

  -- 25 does not show
  pub both_listed_lem : (bits : ℕ) → width d ≡ bits → {words rows : ℕ} → words ≡ 3 * most_words S → rows ≡ 9 * largest_rows
      → compared bits d o a b words rows ≡ Ok (listed (length (differing_words a b)) (length apart))
  both_listed_lem bits e {words} {rows} w r =
      let m : length (differing_words a b) ≤ words / 3 = omega (arith, (few_words_apart a b).0) in
      let n : length apart ≤ rows / 9 = omega (arith, few_rows_apart d o a b) in
      rw (own_rows d o a b bits e, within 25 (words / 3) (differing_words a b) m, within 25 (rows / 9) apart n)

-- what two lines print, at most
pub print_most : (o : StampOrder) (first second : List ℕ) → length (print_of o first second) ≤ most_text
print_most o first second = lines_most (line_dialect first) (line_words (line_dialect first) first) (line_words (line_dialect first) second) refl refl
  where
    few : (d : Dialect) (line ws : List ℕ) → line_words d line ≡ done ws → length ws ≤ most_words S
    few d line ws e = le_trans (few_words d line ws e) (under d)

    body_most : (d : Dialect) (x y : Outcome ℕ) → line_words d first ≡ x → line_words d second ≡ y → length (body_text d o x y) ≤ compared_length
    body_most d (done a) (done b) e f = compared_most d o a b (few d first a e) (few d second b f)
    body_most d (done a) (refused n k) e f = omega arith
    body_most d (refused n k) y e f = omega arith

    lines_most : (d : Dialect) (x y : Outcome ℕ) → line_words d first ≡ x → line_words d second ≡ y → length (lines_text d o x y) ≤ most_text
    lines_most d x y e f =
        let a = answer_of (and_then (reading d o) x) in
        let b = answer_of (and_then (reading d o) y) in
        omega (arith, length-append (answers_text a b) (body_text d o x y), answers_most a b, body_most d x y e f)
