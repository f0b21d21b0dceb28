-- Writing: rows with fields as the input of a parser, rows out of the elements of a buffer, and the refusals of every dialect.
-- Assumes nothing.
use Rattle.std.specs.Prelude.{ℕ, ◌%◌, ◌≤◌, ◌<◌, ◌≡◌, ◌⊎◌, Bool, true, cond, ◌&&◌, List, [], ◌∷◌, eqb, length, get_or}
use Rattle.event.specs.declared.Row.{Row}
use Rattle.event.specs.Parser.{Parser, Test, test, element}
use Rattle.event.specs.Rows.{row}
use Rattle.event.specs.Outcome.{Outcome, done, refused, outcome, limited}

abbrev pub is_same_row : Row → Row → Bool
is_same_row r s = eqb r.kind s.kind && (eqb r.unit s.unit && (eqb r.channel s.channel && eqb r.datum s.datum))

-- the tests of a row with fields. 21: it may not stand there. 22: it is not the row that its fields print, or a check of theirs fails.
abbrev pub row_tests : {A : Type 0} → (Row → Bool) → (Row → A) → (A → Row) → (A → List Test) → Row → List Test
row_tests stands fields print checks r = test 21 (stands r) ∷ test 22 (is_same_row r (print (fields r))) ∷ checks (fields r)

-- such a row; 21 also where the rows end
abbrev pub row_with : {A : Type 0} → (Row → Bool) → (Row → A) → (A → Row) → (A → List Test) → Parser Row A
row_with stands fields print checks = element 21 fields (row_tests stands fields print checks)

abbrev pub of_kind : ℕ → Row → Bool
of_kind k r = eqb k r.kind

-- the next row is of kind k, or the rows end
abbrev pub at_kind : ℕ → List Row → Bool
at_kind k [] = true
at_kind k (r ∷ rs) = of_kind k r

-- the rows in a buffer; the last elements, where they are not four, make none
abbrev pub rows_in : List ℕ → List Row
rows_in [] = []
rows_in (k ∷ []) = []
rows_in (k ∷ u ∷ []) = []
rows_in (k ∷ u ∷ c ∷ []) = []
rows_in (k ∷ u ∷ c ∷ d ∷ xs) = row k u c d ∷ rows_in xs

-- of kind 0, which no row has
abbrev pub no_row : Row
no_row = row 0 0 0 0

-- row i of them, `no_row` past the last
abbrev pub row_at : List ℕ → ℕ → Row
row_at xs i = get_or (rows_in xs) i no_row

-- 20: the number of elements is not a multiple of four
abbrev pub from_elements : (List Row → Outcome ℕ) → List ℕ → Outcome ℕ
from_elements writing_rows xs = cond (eqb (length xs % 4) 0) (writing_rows (rows_in xs)) (refused 20 0)

-- A writing: 20; then 21 and 22, row by row, by the parser of the rows, which judges a number that the whole event fixes last of all (`checked`, `lastly`); then 23, more words than
-- the largest event. (24 is of the room: `in_word_room`.)
abbrev pub writing_by : {Event : Type 0} → (Event → List ℕ) → (largest : ℕ) → Parser Row Event → List ℕ → Outcome ℕ
writing_by words largest parser = from_elements (λ rs. limited 23 largest (outcome (λ e. done (words e)) (parser 0 rs)))

-- Refusal n at place k of a writing of `count` rows: 20 at 0; 21 at a row or where they end; 22 at a row; 23 with more words than the largest event has.
abbrev pub RefusedAt : (largest count n k : ℕ) → Type 0
RefusedAt largest count n k = ((n ≡ 20) × (k ≡ 0)) ⊎ (((n ≡ 21) × (k ≤ count)) ⊎ (((n ≡ 22) × (k < count)) ⊎ ((n ≡ 23) × (largest < k))))
