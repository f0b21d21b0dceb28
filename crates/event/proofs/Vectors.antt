-- What the tables of computed vectors share: runs of words and of rows, and readings and writings into lent buffers. (No law: nothing here is proved.)
-- Assumes nothing.
use Prim.Native.Nat.{ℕ, zero, suc, ◌+◌}
use mathlib.Core.Path.{◌≡◌}
use mathlib.Core.List.{List, [], ◌∷◌, map}
use lib.ListN.{length, replicate}
use Rattle.event.specs.declared.Row.{Row}
use Rattle.event.specs.Outcome.{Outcome, answer_of, given, overlaid, in_room, in_word_room}
use Rattle.event.specs.Rows.{row, flat, room}
use Rattle.event.specs.Refusal.{Answer}

-- n words from w on, each larger by d than the one before
abbrev pub rising : (w d n : ℕ) → List ℕ
rising w d zero = []
rising w d (suc n) = w ∷ rising (w + d) d n

-- n rows of a unit from channel c and datum x on, each larger by 1 in both than the one before
abbrev pub rising_rows : (kind unit c x n : ℕ) → List Row
rising_rows k u c x zero = []
rising_rows k u c x (suc n) = row k u c x ∷ rising_rows k u (suc c) (suc x) n

-- words or elements that come in, and the outcome expected
pub record Vector (A : Type 0) : Type 0 where
  pub input : List ℕ
  pub outcome : Outcome A

abbrev pub vector : {A : Type 0} → List ℕ → Outcome A → Vector A
vector xs x = record { input = xs; outcome = x }

-- each outcome is the expected one
abbrev pub AsExpected : {A : Type 0} → (List ℕ → Outcome A) → List (Vector A) → Type 0
AsExpected f vs = map (λ v. f v.input) vs ≡ map (λ v. v.outcome) vs

-- words or elements and a buffer that come in, and what stands afterwards
pub record Lent : Type 0 where
  pub input : List ℕ
  pub buffer : List ℕ

pub record Left : Type 0 where
  pub answer : Answer
  pub buffer : List ℕ

-- a reading into room for so many rows
abbrev pub read_into : (List ℕ → Outcome Row) → Lent → Left
read_into reading l =
    let x = in_room (room (length l.buffer)) (reading l.input) in
    record { answer = answer_of x; buffer = overlaid (flat (given x)) l.buffer }

-- a writing into room for so many words
abbrev pub write_into : (List ℕ → Outcome ℕ) → Lent → Left
write_into writing l =
    let x = in_word_room (length l.buffer) (writing l.input) in
    record { answer = answer_of x; buffer = overlaid (given x) l.buffer }

-- a buffer of n elements
abbrev pub nines : ℕ → List ℕ
nines n = replicate n 9

pub record RoomCase : Type 0 where
  pub lent : Lent
  pub left : Left

abbrev pub case : List ℕ → List ℕ → Answer → List ℕ → RoomCase
case xs b a after = record { lent = record { input = xs; buffer = b }; left = record { answer = a; buffer = after } }
