-- The code's view of the words of a CRDC's groups: each word beside the one before it. (The contracts of private functions.)
-- Assumes nothing.
use Rattle.std.specs.Prelude.{ℕ, ◌+◌, ◌-◌, ◌/◌, ◌^◌, Bool, true, false, cond, ◌&&◌, ◌||◌, List, [], ◌∷◌, ltb, leb, Ok}
use Rattle.std.proofs.Math.Seq.{slice}
use Rattle.event.specs.declared.Row.{Row}
use Rattle.event.specs.Refusal.{refusal}
use Rattle.event.specs.Parser.{Result, ended, several, each}
use Rattle.event.specs.Scanning.{store_rows, RefusedAs, Scanned}
use Rattle.s800_layout.specs.Event.{Group}
use Rattle.s800_layout.specs.Layout.{sample_head_row, sample_datum_row, group_rows}
use Rattle.s800_layout.specs.Reading.{sample_head_of, sample_datum_of, group}

-- a word with bit 15
abbrev pub is_head : ℕ → Bool
is_head w = leb (2 ^ 15) w

-- the head after a word
abbrev pub head_after : (head w : ℕ) → ℕ
head_after head w = cond (is_head w) w head

-- the word may follow the one before it: a head after a data word, a data word after a head or with a connector above
unfoldable pub follows : (before w : ℕ) → Bool
follows before w = (leb (2 ^ 15) w && ltb before (2 ^ 15)) || (ltb w (2 ^ 12) && (leb (2 ^ 15) before || ltb (before / 2 ^ 10) (w / 2 ^ 10)))

-- the row of a word, and those of words one after another
unfoldable pub word_row : (head w : ℕ) → Row
word_row head w = cond (is_head w) (sample_head_row (sample_head_of w)) (sample_datum_row (sample_head_of head) (sample_datum_of w))

abbrev pub word_rows : (head : ℕ) → List ℕ → List Row
word_rows head [] = []
word_rows head (w ∷ s) = word_row head w ∷ word_rows (head_after head w) s

-- the groups from `from` up to `end`
abbrev pub groups_in : List ℕ → (from end : ℕ) → Result ℕ (List Group)
groups_in ws from end = several group ended from (slice from end ws)

-- they are refused by 10 at a place
abbrev pub FaultAt : List ℕ → (from end place : ℕ) → Type 0
FaultAt ws from end p = RefusedAs (groups_in ws from end) (refusal 10 p)

-- they are read, with a row for each word; or refused by 10
abbrev pub Judged : List ℕ → (from end : ℕ) → Bool → Type 0
Judged ws from end true = (k : ℕ) (b : List ℕ) → Scanned (each group_rows) (groups_in ws from end) k b (Ok (k + (end - from))) (store_rows b k (word_rows 0 (slice from end ws)))
Judged ws from end false = (p : ℕ) × FaultAt ws from end p
