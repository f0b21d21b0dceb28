-- The comparison of two events of a dialect (document 02, #104): the differing words, the differing rows, what is answered and what the lent lists hold.
-- Assumes nothing.
use Rattle.std.specs.Prelude.{ℕ, ◌/◌, cond, List, [], ◌∷◌, eqb, length, Result, Ok, Err}
use Rattle.event.specs.declared.Row.{Row}
use Rattle.event.specs.declared.refusal.Refusal.{Refusal}
use Rattle.event.specs.declared.StampOrder.{StampOrder}
use Rattle.event.specs.Outcome.{Outcome, done, refused, limited, overlaid}
use Rattle.event.specs.Refusal.{number, refusal}
use Rattle.event.specs.Rows.{flat_row}
use Rattle.event.specs.Words.{word_alone}
use Rattle.event.specs.Writing.{is_same_row}
use Rattle.dialects.specs.declared.Dialect.{Dialect}
use Rattle.dialects.specs.Dialects.{width, reading}
use Rattle.comparison.specs.declared.Listed.{Listed}
use Rattle.comparison.specs.Differences.{Difference, differences, entries}

abbrev pub differing_words : List ℕ → List ℕ → List (Difference ℕ)
differing_words = differences eqb

-- only if both events are acceptable, else none
abbrev pub differing_rows : Outcome Row → Outcome Row → List (Difference Row)
differing_rows (done rs) (done ss) = differences is_same_row rs ss
differing_rows (done rs) (refused n k) = []
differing_rows (refused n k) y = []

-- the reading of words of so many bits: where the dialect's words have another width they are no event of it, as no words at all are none
abbrev pub reading_of : (bits : ℕ) → Dialect → StampOrder → List ℕ → Outcome Row
reading_of bits d o ws = reading d o (cond (eqb (width d) bits) ws [])

-- the differing rows of two events in words of so many bits
abbrev pub rows_apart : (bits : ℕ) → Dialect → StampOrder → List ℕ → List ℕ → List (Difference Row)
rows_apart bits d o a b = differing_rows (reading_of bits d o a) (reading_of bits d o b)

-- an entry of the word list is three numbers, one of the row list nine
abbrev pub word_entries : List (Difference ℕ) → List ℕ
word_entries = entries word_alone

abbrev pub row_entries : List (Difference Row) → List ℕ
row_entries = entries flat_row

-- 25: a list of so many numbers has not room for its entries, place the entries that it needs
abbrev pub words_listed : ℕ → List (Difference ℕ) → Outcome (Difference ℕ)
words_listed size ds = limited 25 (size / 3) (done ds)

abbrev pub rows_listed : ℕ → List (Difference Row) → Outcome (Difference Row)
rows_listed size es = limited 25 (size / 9) (done es)

-- what a comparison answers: how many entries the two lists got, or a refusal
abbrev pub Comparison : Type 0
Comparison = Result Listed Refusal

abbrev pub listed : (words rows : ℕ) → Listed
listed m n = record { words = m; rows = n }

-- the word list, or else the row list
abbrev pub both_listed : Outcome (Difference ℕ) → Outcome (Difference Row) → Comparison
both_listed (refused n k) y = Err (refusal n k)
both_listed (done ds) (refused n k) = Err (refusal n k)
both_listed (done ds) (done es) = Ok (listed (length ds) (length es))

-- the answer, for lists of so many numbers
abbrev pub compared : (bits : ℕ) → Dialect → StampOrder → (a b : List ℕ) → (word_size row_size : ℕ) → Comparison
compared bits d o a b word_size row_size = both_listed (words_listed word_size (differing_words a b)) (rows_listed row_size (rows_apart bits d o a b))

-- a lent list afterwards: its entries over its front; on 25 nothing is written in either
abbrev pub written : Comparison → List ℕ → List ℕ → List ℕ
written (Ok l) xs list = overlaid xs list
written (Err r) xs list = list

-- an answer in document 02's numbers, for each of its cases: the refusal number, 0 where there is none; the entries of the word list, or the place; the entries of
-- the row list, or 0
abbrev pub numbers_of : Comparison → List ℕ
numbers_of (Ok l) = 0 ∷ l.words ∷ l.rows ∷ []
numbers_of (Err r) = number r.fault ∷ r.place ∷ 0 ∷ []
