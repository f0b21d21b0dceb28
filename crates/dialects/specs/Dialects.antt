-- The dialects side by side: a new one is one clause more in each definition by cases; the others follow from these. (The stamp order is of dialect S; F's stamp has one order, and R has none.)
-- Assumes nothing.
use Rattle.std.specs.Prelude.{ℕ, cond, List, eqb}
use Rattle.event.specs.declared.Row.{Row}
use Rattle.event.specs.declared.StampOrder.{StampOrder}
use Rattle.event.specs.Outcome.{Outcome, given, overlaid, in_room, in_word_room}
use Rattle.event.specs.Demands.{SomeEvent, Acceptable}
use Rattle.dialects.specs.declared.Dialect.{Dialect}
use Rattle.dialects.specs.declared.Dialect.TheVariants.{S, F, R}
use Rattle.s800_layout.specs.Event.{Event as EventS}
use Rattle.s800_layout.specs.Layout.{Valid as ValidS, words as wordsS, rows as rowsS}
use Rattle.s800_layout.specs.Reading.{reading as readingS}
use Rattle.s800_layout.specs.Writing.{writing as writingS}
use Rattle.frs_layout.specs.Event.{Event as EventF}
use Rattle.frs_layout.specs.Layout.{Valid as ValidF, words as wordsF, rows as rowsF}
use Rattle.frs_layout.specs.Reading.{reading as readingF}
use Rattle.frs_layout.specs.Writing.{writing as writingF}
use Rattle.rcnp_layout.specs.Event.{Event as EventR}
use Rattle.rcnp_layout.specs.Layout.{Valid as ValidR, words as wordsR, rows as rowsR}
use Rattle.rcnp_layout.specs.Reading.{reading as readingR}
use Rattle.rcnp_layout.specs.Writing.{writing as writingR}

-- the events of a dialect, their rules, their words and their rows
abbrev pub Event : Dialect → Type 0
Event S = EventS
Event F = EventF
Event R = EventR

abbrev pub Valid : (d : Dialect) → Event d → Type 0
Valid S = ValidS
Valid F = ValidF
Valid R = ValidR

abbrev pub words : (d : Dialect) → Event d → List ℕ
words S = wordsS
words F = wordsF
words R = wordsR

abbrev pub rows : (d : Dialect) → StampOrder → Event d → List Row
rows S o = rowsS o
rows F o = rowsF
rows R o = rowsR

-- the bits of a word
abbrev pub width : Dialect → ℕ
width S = 16
width F = 32
width R = 16

-- the dialect of a number, for a call that can pass no enum
abbrev pub dialect_of : ℕ → Dialect
dialect_of n = cond (eqb n 0) S (cond (eqb n 1) F R)

-- of two buffers, words of 16 bits and longwords of 32, the one that holds the dialect's words
abbrev pub of_width : {A : Type 0} → Dialect → A → A → A
of_width d short long = cond (eqb (width d) 16) short long

-- both buffers after words of the dialect were given: those of the other width are as they were
abbrev pub over16 : Dialect → List ℕ → List ℕ → List ℕ
over16 d ws buffer = of_width d (overlaid ws buffer) buffer

abbrev pub over32 : Dialect → List ℕ → List ℕ → List ℕ
over32 d ws buffer = of_width d buffer (overlaid ws buffer)

-- from words to rows
abbrev pub reading : Dialect → StampOrder → List ℕ → Outcome Row
reading S o = readingS o
reading F o = readingF
reading R o = readingR

-- into room for so many rows: 12 last
abbrev pub reading_into : Dialect → (room : ℕ) → StampOrder → List ℕ → Outcome Row
reading_into d room o ws = in_room room (reading d o ws)

-- from the elements of a buffer of rows to words: 20 to 23
abbrev pub writing : Dialect → StampOrder → List ℕ → Outcome ℕ
writing S o = writingS o
writing F o = writingF
writing R o = writingR

-- into room for so many words: 24 last
abbrev pub writing_into : Dialect → (room : ℕ) → StampOrder → List ℕ → Outcome ℕ
writing_into d room o xs = in_word_room room (writing d o xs)

-- the most rows of an event of any dialect
abbrev pub largest_rows : ℕ
largest_rows = 4096

-- Demand 2: some valid event has these words and these rows.
abbrev pub SomeEventIn : Dialect → StampOrder → List ℕ → List Row → Type 0
SomeEventIn d o = SomeEvent (Valid d) (words d) (rows d o)

-- Demand 3: an acceptable event, and its rows, which a reading with room enough writes.
abbrev pub AcceptableIn : Dialect → List ℕ → Type 0
AcceptableIn d = Acceptable (Valid d) (words d) (width d)

abbrev pub rows_of : Dialect → StampOrder → List ℕ → List Row
rows_of d o ws = given (reading d o ws)
