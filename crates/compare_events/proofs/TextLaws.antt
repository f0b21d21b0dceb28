-- The characters of each line, and lines one behind another.
-- Assumes nothing.
use Prim.Native.Nat.{ℕ, zero, suc, ◌+◌, ◌*◌, ◌≤◌, ◌<◌}
use native.Mathlib.Nat.{mul-suc, suc-add, not-suc-le-zero, le_of_suc-le-suc}
use native.Mathlib.Omega.{arith}
use mathlib.Core.Path.{◌≡◌, refl, ◌∙◌}
use mathlib.Core.List.{List, [], ◌∷◌, ◌++◌, append_assoc, append-nil}
use lib.ListN.{length, get_or, take, length-append}
use Rattle.std.specs.Prelude.{Ok, Err}
use Rattle.event.specs.Refusal.{Answer}
use Rattle.event.specs.declared.Row.{Row}
use Rattle.event.specs.Parser.{each}
use Rattle.hex_line.proofs.TextLaws.{field_length}
use Rattle.comparison.specs.Differences.{Difference}
use Rattle.compare_events.specs.Lengths.{answer_length, word_length, tail_length, row_length, rows_length, last_length}
use Rattle.compare_events.specs.Text.{accepted_text, refused_text, answer_text, first_label, second_label, answers_text, word_text, tail_line, tail_lines, row_line, rows_text, end_text}

pub answer_most : (label : List ℕ) (a : Answer) → length label ≡ 7 → length (answer_text label a) ≤ answer_length
unfolding accepted_text refused_text
answer_most label (Ok n) l = simp (length-append, field_length) (omega arith)
answer_most label (Err r) l = simp (length-append, field_length) (omega arith)

pub answers_most : (a b : Answer) → length (answers_text a b) ≤ 2 * answer_length
unfolding answers_text
answers_most a b =
    omega (arith, length-append (answer_text first_label a) (answer_text second_label b), answer_most first_label a refl, answer_most second_label b refl)

pub word_length_lem : (d : Difference ℕ) → length (word_text d) ≡ word_length
unfolding word_text
word_length_lem d = simp (length-append, field_length)

pub tail_most : (label : List ℕ) (i w : ℕ) → length label ≤ 8 → length (tail_line label i w) ≤ tail_length
unfolding tail_line
tail_most label i w l = simp (length-append, field_length) (omega arith)

pub tails_most : (label : List ℕ) (i : ℕ) (ws : List ℕ) → length label ≤ 8 → length (tail_lines label i ws) ≤ tail_length * length ws
tails_most label i [] l = omega arith
tails_most label i (w ∷ ws) l =
    omega (arith, length-append (tail_line label i w) (tail_lines label (i + 1) ws), tail_most label i w l, tails_most label (i + 1) ws l)

pub row_length_lem : (label : List ℕ) (i : ℕ) (r : Row) → length label ≡ 8 → length (row_line label i r) ≡ row_length
unfolding row_line
row_length_lem label i r l = simp (length-append, field_length) (omega arith)

pub rows_length_lem : (d : Difference Row) → length (rows_text d) ≡ rows_length
unfolding rows_text
rows_length_lem d = length-append (row_line _ d.index d.first) (row_line _ d.index d.second) ∙ rw (row_length_lem _ d.index d.first refl, row_length_lem _ d.index d.second refl)

pub end_length : (m t n : ℕ) → length (end_text m t n) ≡ last_length
unfolding end_text
end_length m t n = simp (length-append, field_length)

-- texts of one length each
module _ {A : Type 0} (f : A → List ℕ) where
  pub each_length : (n : ℕ) → ((x : A) → length (f x) ≡ n) → (xs : List A) → length (each f xs) ≡ n * length xs
  each_length n l [] = omega arith
  each_length n l (x ∷ xs) = length-append (f x) (each f xs) ∙ rw (l x, each_length n l xs, mul-suc) (omega arith)

-- one more word of a tail
pub tails_next : (label : List ℕ) (k : ℕ) (ws : List ℕ) (i : ℕ) → i < length ws
    → tail_lines label k (take (i + 1) ws) ≡ tail_lines label k (take i ws) ++ tail_line label (k + i) (get_or ws i 0)
tails_next label k [] i h = absurd (not-suc-le-zero h)
tails_next label k (w ∷ ws) zero h = let e : k + 0 ≡ k = omega arith in rw e (append-nil (tail_line label k w))
tails_next label k (w ∷ ws) (suc i) h =
    let e : k + suc i ≡ k + 1 + i = omega arith in
    rw (suc-add, tails_next label (k + 1) ws i (le_of_suc-le-suc h), append_assoc, e)
