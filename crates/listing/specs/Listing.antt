-- The listing of an input (document 01, 'The hexadecimal lines').
-- Assumes nothing.
use Rattle.std.specs.Prelude.{ℕ, ◌+◌, true, false, cond, List, [], ◌∷◌, ◌++◌, eqb, leb, ltb, length, get_or}
use Rattle.event.specs.Refusal.{Answer}
use Rattle.event.specs.declared.Row.{Row}
use Rattle.event.specs.declared.StampOrder.{StampOrder}
use Rattle.event.specs.Outcome.{Outcome, done, refused, answer_of, accepted, given}
use Rattle.dialects.specs.declared.Dialect.{Dialect}
use Rattle.dialects.specs.declared.Dialect.TheVariants.{S, F, R}
use Rattle.dialects.specs.Dialects.{reading, reading_into}
use Rattle.hex_line.specs.Line.{letter, longest_line, line_words, line_into}
use Rattle.listing.specs.Text.{event_text, last_text}

-- a line with the letter of F or R is of that dialect, and any other is read as one of S, which refuses another letter
abbrev pub line_dialect : List ℕ → Dialect
line_dialect line = cond (eqb (get_or line 0 0) (letter F)) F (cond (eqb (get_or line 0 0) (letter R)) R S)

-- what is accepted goes on; a refusal stays
abbrev pub and_then : {A B : Type 0} → (List A → Outcome B) → Outcome A → Outcome B
and_then f (done xs) = f xs
and_then f (refused n k) = refused n k

-- the rows of a line, with room enough
abbrev pub line_rows : StampOrder → List ℕ → Outcome Row
line_rows o line = and_then (reading (line_dialect line) o) (line_words (line_dialect line) line)

-- the same with room for so many words and so many rows: 24 and 12
abbrev pub line_rows_into : (wordRoom rowRoom : ℕ) → StampOrder → List ℕ → Outcome Row
line_rows_into wordRoom rowRoom o line = and_then (reading_into (line_dialect line) rowRoom o) (line_into (line_dialect line) wordRoom line)

-- a character before the first of some lines
abbrev prepended : ℕ → List (List ℕ) → List (List ℕ)
prepended c [] = (c ∷ []) ∷ []
prepended c (line ∷ lines) = (c ∷ line) ∷ lines

-- the lines of an input: each ends before its line feed, which the last may lack
abbrev pub lines_of : List ℕ → List (List ℕ)
lines_of [] = []
lines_of (c ∷ s) = cond (eqb c 10) ([] ∷ lines_of s) (prepended c (lines_of s))

-- the most lines that are listed
abbrev pub most_lines : ℕ
most_lines = 1000000

-- what a line of this answer adds to the accepted lines, and to the refused
abbrev pub accepted_in : Answer → ℕ
accepted_in a = cond (accepted a) 1 0

abbrev pub refused_in : Answer → ℕ
refused_in a = cond (accepted a) 0 1

-- the listing of these lines, after so many were accepted and refused
unfoldable pub list_from : StampOrder → (accepted refused : ℕ) → List (List ℕ) → List ℕ
list_from o a r [] = last_text false a r
list_from o a r (line ∷ lines) =
    let answer = answer_of (line_rows o line) in
    cond (leb most_lines (a + r))
    (last_text true a r)
    (event_text (a + r + 1) answer (given (line_rows o line))
    ++ cond (ltb longest_line (length line))
    (last_text true (a + accepted_in answer) (r + refused_in answer))
    (list_from o (a + accepted_in answer) (r + refused_in answer) lines))

-- the listing of an input
abbrev pub listing : StampOrder → List ℕ → List ℕ
listing o input = list_from o 0 0 (lines_of input)
