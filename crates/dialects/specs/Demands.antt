-- The demands, as statements over every dialect and either stamp order. proofs/Demands shows each.
-- Assumes nothing.
use Rattle.std.specs.Prelude.{ℕ, ◌≤◌, ◌≡◌, ◌↔◌, List, length}
use Rattle.event.specs.declared.Row.{Row}
use Rattle.event.specs.declared.StampOrder.{StampOrder}
use Rattle.event.specs.Parser.{All}
use Rattle.event.specs.Outcome.{done, refused}
use Rattle.event.specs.Refusal.{number, fault_of}
use Rattle.event.specs.Rows.{flat}
use Rattle.event.specs.Demands.{join}
use Rattle.dialects.specs.declared.Dialect.{Dialect}
use Rattle.dialects.specs.Dialects.{rows, reading, reading_into, writing, writing_into, largest_rows, SomeEventIn, AcceptableIn, rows_of}

-- Demand 2. A reading accepts exactly the words of valid events, and gives the event's rows.
abbrev pub ReadingExact : Type 0
ReadingExact = (d : Dialect) (o : StampOrder) (ws : List ℕ) (rs : List Row) → (reading d o ws ≡ done rs) ↔ SomeEventIn d o ws rs

-- The same into a buffer: exactly when there is also room for the rows.
abbrev pub ReadingInRoomExact : Type 0
ReadingInRoomExact = (d : Dialect) (room : ℕ) (o : StampOrder) (ws : List ℕ) (rs : List Row) → (reading_into d room o ws ≡ done rs) ↔ (SomeEventIn d o ws rs × (length rs ≤ room))

-- Beside the demands, for whoever lends room: an accepted event has no more rows than words, so room for as many rows as there are words is enough for every event;
abbrev pub RowsWithinWords : Type 0
RowsWithinWords = (d : Dialect) (o : StampOrder) (ws : List ℕ) (rs : List Row) → reading d o ws ≡ done rs → length rs ≤ length ws

-- and room for the rows of the largest event is enough, however many words come in.
abbrev pub RowsWithinLargest : Type 0
RowsWithinLargest = (d : Dialect) (o : StampOrder) (ws : List ℕ) (rs : List Row) → reading d o ws ≡ done rs → length rs ≤ largest_rows

-- A writing accepts exactly the elements that are the rows of some valid event, and gives the event's words.
abbrev pub WritingExact : Type 0
WritingExact = (d : Dialect) (o : StampOrder) (xs ws : List ℕ) → (writing d o xs ≡ done ws) ↔ ((rs : List Row) × (flat rs ≡ xs) × SomeEventIn d o ws rs)

-- The same into a buffer: exactly when there is also room for the words.
abbrev pub WritingInRoomExact : Type 0
WritingInRoomExact =
    (d : Dialect) (room : ℕ) (o : StampOrder) (xs ws : List ℕ) → (writing_into d room o xs ≡ done ws) ↔ (((rs : List Row) × (flat rs ≡ xs) × SomeEventIn d o ws rs) × (length ws ≤ room))

-- Beside the demands: a refusal's number is that of the fault which the code names, so that an answer keeps it.
abbrev pub RefusalsNamed : Type 0
RefusalsNamed = (d : Dialect) (room : ℕ) (o : StampOrder)
    → ((ws : List ℕ) (n k : ℕ) → reading_into d room o ws ≡ refused n k → number (fault_of n) ≡ n) × ((xs : List ℕ) (n k : ℕ) → writing_into d room o xs ≡ refused n k → number (fault_of n) ≡ n)

-- What is read is written back,
abbrev pub WrittenBack : Type 0
WrittenBack = (d : Dialect) (o : StampOrder) (ws : List ℕ) (rs : List Row) → reading d o ws ≡ done rs → writing d o (flat rs) ≡ done ws

-- and what is written is read back.
abbrev pub ReadBack : Type 0
ReadBack = (d : Dialect) (o : StampOrder) (xs ws : List ℕ) → writing d o xs ≡ done ws → (rs : List Row) × (flat rs ≡ xs) × (reading d o ws ≡ done rs)

-- Demand 3 speaks of acceptable events: those that a reading accepts, given room enough, in either order.
abbrev pub AcceptableExact : Type 0
AcceptableExact = (d : Dialect) (o : StampOrder) (ws : List ℕ) → AcceptableIn d ws ↔ ((rs : List Row) × (reading d o ws ≡ done rs))

-- Their rows are the layout's, as a reading with room enough writes them.
abbrev pub RowsOfLayout : Type 0
RowsOfLayout = (d : Dialect) (o : StampOrder) (ws : List ℕ) (a : AcceptableIn d ws)
    → (rows_of d o ws ≡ rows d o a.event) × ((room : ℕ) → length (rows_of d o ws) ≤ room → reading_into d room o ws ≡ done (rows_of d o ws))

-- Demand 3. Two lists of acceptable events, the empty list among them, join to the same words exactly when they are the same list, and to the same rows exactly then.
abbrev pub SameRuns : Type 0
SameRuns = (d : Dialect) (o : StampOrder) (es fs : List (List ℕ)) → All (AcceptableIn d) es → All (AcceptableIn d) fs
    → ((join (λ ws. ws) es ≡ join (λ ws. ws) fs) ↔ (es ≡ fs)) × ((join (rows_of d o) es ≡ join (rows_of d o) fs) ↔ (es ≡ fs))
