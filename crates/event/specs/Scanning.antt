-- What a scan that stores its items one by one, rows (a reading) or words (a writing), each where the buffer has room, leaves behind. (The contracts of
-- private functions speak of it; no public one does.)
-- Assumes nothing.
use Rattle.std.specs.Prelude.{ℕ, ◌+◌, ◌*◌, ◌≤◌, ◌≡◌, List, [], ◌∷◌, length, drop, Ok, Err}
use Rattle.event.specs.declared.refusal.Refusal.{Refusal}
use Rattle.event.specs.declared.Row.{Row}
use Rattle.event.specs.Parser.{Result, ok, refuse, Parser}
use Rattle.event.specs.Refusal.{Answer, PartAnswer, part, refusal}
use Rattle.event.specs.Rows.{store_row}
use Rattle.event.specs.Words.{store_word}

-- items stored from place k on
abbrev pub stores : {X : Type 0} → (List ℕ → ℕ → X → List ℕ) → List ℕ → ℕ → List X → List ℕ
stores store buffer k [] = buffer
stores store buffer k (x ∷ xs) = stores store (store buffer k x) (k + 1) xs

abbrev pub store_rows : List ℕ → ℕ → List Row → List ℕ
store_rows = stores store_row

abbrev pub store_words : (width : ℕ) → List ℕ → ℕ → List ℕ → List ℕ
store_words width = stores (store_word width)

-- How items are scanned: how one is stored; the most that may be stored by a place of the input, so that no count wraps; and what is answered: for the place
-- after the input taken and the number of items, and for a refusal.
pub record Scan (X R : Type 0) : Type 0 where
  pub store : List ℕ → ℕ → X → List ℕ
  pub most : ℕ → ℕ
  pub accepted : (next count : ℕ) → R
  pub refused : (number place : ℕ) → R

-- of a whole event, or of a part that ends where its caller knows
abbrev pub answering : {X : Type 0} → (store : List ℕ → ℕ → X → List ℕ) → (most : ℕ → ℕ) → Scan X Answer
answering store most = record { store = store; most = most; accepted = λ next count. Ok count; refused = λ n p. Err (refusal n p) }

-- reading: no more rows than words
abbrev pub reading : Scan Row Answer
reading = answering store_row (λ i. i)

-- writing, the whole event and a part of it: at most four words for a row
abbrev pub writing_all : (width : ℕ) → Scan ℕ Answer
writing_all width = answering (store_word width) (4 *◌)

abbrev pub writing_part : (width : ℕ) → Scan ℕ PartAnswer
writing_part width = record { store = store_word width; most = 4 *◌; accepted = λ next count. Ok (part next count); refused = λ n p. Err (refusal n p) }

module _ {X R E A : Type 0} (scan : Scan X R) (items_of : A → List X) where
  -- the answer to what a parser gave, after k items
  abbrev answer_at : ℕ → Result E A → R
  answer_at k (ok a j r) = scan.accepted j (k + length (items_of a))
  answer_at k (refuse n p) = scan.refused n p

  -- the buffer after it; nothing is said of it on refusal
  abbrev Stored : ℕ → List ℕ → List ℕ → Result E A → Type 0
  Stored k before after (ok a j r) = after ≡ stores scan.store before k (items_of a)
  Stored k before after (refuse n p) = Unit {0}

  -- a scan of what a parser gave x for, after k items in the buffer `before`
  pub record ScannedBy (x : Result E A) (k : ℕ) (before : List ℕ) (result : R) (after : List ℕ) : Type 0 where
    pub answered : result ≡ answer_at k x
    pub stored : Stored k before after x

-- a scan of x from here on ends as a scan of x₀ from its beginning does
pub record LeadsBy {X R E A A₀ : Type 0} (scan : Scan X R) (items_of : A → List X) (x : Result E A) (k : ℕ) (buffer : List ℕ)
    (itemsOf₀ : A₀ → List X) (x₀ : Result E A₀) (k₀ : ℕ) (buffer₀ : List ℕ) : Type 0 where
  pub leads : (result : R) (after : List ℕ) → ScannedBy scan items_of x k buffer result after → ScannedBy scan itemsOf₀ x₀ k₀ buffer₀ result after

-- what a parser refused by a number and a place is refused by them
pub record RefusedAs {E A : Type 0} (x : Result E A) (r : Refusal) : Type 0 where
  pub number : ℕ
  pub place : ℕ
  pub refused : x ≡ refuse number place
  pub named : r ≡ refusal number place

-- The beginning of an event: x₀ is what a parser gives for the event, `rest` the parser of what follows the beginning.
module _ {X R E A A₀ : Type 0} (scan : Scan X R) (items_of : A → List X) (rest : Parser E A) (itemsOf₀ : A₀ → List X) (x₀ : Result E A₀) (input : List E)
    (k₀ : ℕ) (before after : List ℕ) where
  -- it ends at `at` with k items in the buffer: the scan of what follows ends as that of the event does
  pub record BegunBy (at k : ℕ) : Type 0 where
    pub inside : at ≤ length input
    pub few : k ≤ scan.most at
    pub leads : LeadsBy scan items_of (rest at (drop at input)) k after itemsOf₀ x₀ k₀ before

  -- it ends so, or is refused, and the event with it
  abbrev Begun : PartAnswer → Type 0
  Begun (Ok p) = BegunBy p.next p.count
  Begun (Err r) = RefusedAs x₀ r

  pub record BeginsBy (r : PartAnswer) : Type 0 where
    pub begun : Begun r

-- A part of an event that is read, for which a parser gave x.
module _ {A : Type 0} (rows_of : A → List Row) (x : Result ℕ A) (ws : List ℕ) (k₀ : ℕ) (before after : List ℕ) where
  -- x succeeded up to `at`, and the rows of its value are stored after the k₀ before them
  pub record Whole (at k : ℕ) : Type 0 where
    pub value : A
    pub parsed : x ≡ ok value at (drop at ws)
    pub inside : at ≤ length ws
    pub few : k ≤ at
    pub counted : k ≡ k₀ + length (rows_of value)
    pub stored : after ≡ store_rows before k₀ (rows_of value)

  abbrev Parsed : PartAnswer → Type 0
  Parsed (Ok p) = Whole p.next p.count
  Parsed (Err r) = RefusedAs x r

  pub record PartOf (r : PartAnswer) : Type 0 where
    pub part : Parsed r

-- of rows that are read
abbrev pub Scanned : {E A : Type 0} → (A → List Row) → Result E A → ℕ → List ℕ → Answer → List ℕ → Type 0
Scanned = ScannedBy reading

abbrev pub Leads : {E A A₀ : Type 0} → (A → List Row) → Result E A → ℕ → List ℕ → (A₀ → List Row) → Result E A₀ → ℕ → List ℕ → Type 0
Leads = LeadsBy reading

-- of words that are written: a part that ends within the rows, with at most four words for a row
abbrev WithinRows : List Row → PartAnswer → Type 0
WithinRows rs (Ok p) = (p.next ≤ length rs) × (p.count ≤ 4 * p.next)
WithinRows rs (Err r) = Unit {0}

-- a part that x parsed from rows, written after k words in the buffer `before`
pub record Writes {A : Type 0} (width : ℕ) (words_of : A → List ℕ) (x : Result Row A) (rs : List Row) (k : ℕ) (before : List ℕ) (result : PartAnswer) (after : List ℕ) : Type 0 where
  pub scanned : ScannedBy (writing_part width) words_of x k before result after
  pub within : WithinRows rs result
