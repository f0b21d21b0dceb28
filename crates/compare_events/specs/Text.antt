-- What is printed of a comparison, a line each (docs/DECISIONS.md, 'Readings of the papers (the comparison)'): numbers as eight hexadecimal digits.
-- Assumes nothing.
use Rattle.std.specs.Prelude.{ℕ, ◌+◌, cond, List, [], ◌∷◌, ◌++◌, ltb, length}
use Rattle.event.specs.declared.Row.{Row}
use Rattle.event.specs.Outcome.{accepted, refusal_number, count_or_place}
use Rattle.event.specs.Refusal.{Answer}
use Rattle.hex_line.specs.Text.{text, field}
use Rattle.comparison.specs.Differences.{Difference, tail_of}

-- what the reading of an event answers, behind the event's label: its rows, or the refusal number and its place
unfoldable pub accepted_text : List ℕ → ℕ → List ℕ
accepted_text label count = label ++ field (text "rows ") count ++ text "\n"

unfoldable pub refused_text : List ℕ → ℕ → ℕ → List ℕ
refused_text label number place = label ++ field (text "refused ") number ++ field (text " place ") place ++ text "\n"

abbrev pub answer_text : List ℕ → Answer → List ℕ
answer_text label a = cond (accepted a) (accepted_text label (count_or_place a)) (refused_text label (refusal_number a) (count_or_place a))

-- the two labels are as wide as each other
abbrev pub first_label : List ℕ
first_label = text "first  "

abbrev pub second_label : List ℕ
second_label = text "second "

unfoldable pub answers_text : Answer → Answer → List ℕ
answers_text a b = answer_text first_label a ++ answer_text second_label b

-- a differing word
unfoldable pub word_text : Difference ℕ → List ℕ
word_text d = field (text "word ") d.index ++ field (text " first ") d.first ++ field (text " second ") d.second ++ text "\n"

-- a word of the tail, behind the label of its event
unfoldable pub tail_line : List ℕ → ℕ → ℕ → List ℕ
tail_line label index word = field (text "tail ") index ++ field label word ++ text "\n"

-- words from an index on
abbrev pub tail_lines : List ℕ → ℕ → List ℕ → List ℕ
tail_lines label i [] = []
tail_lines label i (w ∷ ws) = tail_line label i w ++ tail_lines label (i + 1) ws

-- the tail of two events, from the shared length on
unfoldable pub tail_text : List ℕ → List ℕ → List ℕ
tail_text a b = cond (ltb (length a) (length b)) (tail_lines (text " second ") (length a) (tail_of a b)) (tail_lines (text " first ") (length b) (tail_of a b))

-- a row of one event, behind its label
unfoldable pub row_line : List ℕ → ℕ → Row → List ℕ
row_line label i r = field (text "row ") i ++ field label r.kind ++ field (text " ") r.unit ++ field (text " ") r.channel ++ field (text " ") r.datum ++ text "\n"

-- a differing row: that of the first event above that of the second
unfoldable pub rows_text : Difference Row → List ℕ
rows_text d = row_line (text " first  ") d.index d.first ++ row_line (text " second ") d.index d.second

-- the last line: how many words differ, how many the tail has, how many rows differ; it begins with `cut` where nothing was compared
unfoldable pub end_text : (words tail rows : ℕ) → List ℕ
end_text m t n = field (text "end words ") m ++ field (text " tail ") t ++ field (text " rows ") n ++ text "\n"

abbrev pub cut_text : List ℕ
cut_text = text "cut words 00000000 tail 00000000 rows 00000000\n"
