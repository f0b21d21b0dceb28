-- What the program prints of an input (document 02, #104: 'a small program takes the first two lines of a file').
-- Assumes nothing.
use Rattle.std.specs.Prelude.{ℕ, cond, List, [], ◌++◌, ltb, length, get_or}
use Rattle.event.specs.declared.StampOrder.{StampOrder}
use Rattle.event.specs.Outcome.{Outcome, done, refused, answer_of}
use Rattle.event.specs.Parser.{each}
use Rattle.dialects.specs.declared.Dialect.{Dialect}
use Rattle.dialects.specs.Dialects.{reading}
use Rattle.hex_line.specs.Line.{longest_line, line_words}
use Rattle.listing.specs.Listing.{line_dialect, and_then, lines_of}
use Rattle.comparison.specs.Differences.{tail_of}
use Rattle.comparison.specs.Comparing.{differing_words, differing_rows}
use Rattle.compare_events.specs.Text.{answers_text, word_text, tail_text, rows_text, end_text, cut_text}

-- the first two lines of an input; one that is missing is empty, and behind a first line that is too long none is looked for
abbrev pub first_of : List ℕ → List ℕ
first_of input = get_or (lines_of input) 0 []

abbrev pub second_of : List ℕ → List ℕ
second_of input = cond (ltb longest_line (length (first_of input))) [] (get_or (lines_of input) 1 [])

-- two events of a dialect side by side: the differing words, the tail, the differing rows of acceptable events, and how many of each
unfoldable pub compared_text : Dialect → StampOrder → List ℕ → List ℕ → List ℕ
compared_text d o a b =
    each word_text (differing_words a b)
    ++ tail_text a b
    ++ each rows_text (differing_rows (reading d o a) (reading d o b))
    ++ end_text (length (differing_words a b)) (length (tail_of a b)) (length (differing_rows (reading d o a) (reading d o b)))

-- of what two lines give: where one is no line of the dialect (30), nothing is compared
abbrev pub body_text : Dialect → StampOrder → Outcome ℕ → Outcome ℕ → List ℕ
body_text d o (done a) (done b) = compared_text d o a b
body_text d o (done a) (refused n k) = cut_text
body_text d o (refused n k) y = cut_text

-- what each reading answers, then the comparison
abbrev pub lines_text : Dialect → StampOrder → Outcome ℕ → Outcome ℕ → List ℕ
lines_text d o x y = answers_text (answer_of (and_then (reading d o) x)) (answer_of (and_then (reading d o) y)) ++ body_text d o x y

-- both lines are read as lines of the first one's dialect
abbrev pub print_of : StampOrder → (first second : List ℕ) → List ℕ
print_of o first second = lines_text (line_dialect first) o (line_words (line_dialect first) first) (line_words (line_dialect first) second)

abbrev pub printed : StampOrder → List ℕ → List ℕ
printed o input = print_of o (first_of input) (second_of input)
