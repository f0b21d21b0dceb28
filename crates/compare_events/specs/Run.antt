-- Where a run of the program stands. (The program's functions are private.)
-- Assumes nothing.
use Rattle.std.specs.Borrow.{Bor}
use Rattle.std.specs.Prelude.{ℕ, suc, ◌+◌, ◌≤◌, ◌≡◌, Bool, false, cond, List, [], ◌∷◌, ◌++◌, eqb, ltb, length, take, Option, None, Some, Result, Ok, Err}
use Rattle.event.specs.declared.Row.{Row}
use Rattle.event.specs.declared.StampOrder.{StampOrder}
use Rattle.event.specs.declared.refusal.Refusal.{Refusal}
use Rattle.event.specs.Outcome.{Outcome, done, answer_of}
use Rattle.event.specs.Parser.{each}
use Rattle.hex_line.specs.Line.{longest_line}
use Rattle.hex_line.specs.Text.{Placed}
use Rattle.comparison.specs.Differences.{Difference}
use Rattle.comparison.specs.Comparing.{word_entries, row_entries}
use Rattle.compare_events.specs.declared.input.Gathered.{Gathered}
use Rattle.compare_events.specs.Print.{printed}
use Rattle.compare_events.specs.Text.{word_text, rows_text}

-- what the words of a line are given as, of which n makes numbers: themselves, or the line's refusal
abbrev pub WordsGiven : {W : Type 0} → (List W → List ℕ) → Outcome ℕ → Result (Bor (List W)) Refusal → Type 0
WordsGiven numbers x (Ok words) = x ≡ done (numbers words.now)
WordsGiven numbers x (Err r) = Err r ≡ answer_of x

-- where the second line starts, of an input of so many characters whose first line has `count`: behind its line feed; at the end where there is none, or the first is too long
abbrev pub second_start : (count all : ℕ) → ℕ
second_start count all = cond (ltb longest_line count) all (cond (ltb count all) (count + 1) all)

-- the entries that a list holds are put as lines of text
abbrev pub WordsPut : (list text : List ℕ) (at end : ℕ) (after : List ℕ) → Type 0
WordsPut list text at end after = (ds : List (Difference ℕ)) → list ≡ word_entries ds → Placed text at (each word_text ds) end after

abbrev pub RowsPut : (list text : List ℕ) (at end : ℕ) (after : List ℕ) → Type 0
RowsPut list text at end after = (ds : List (Difference Row)) → list ≡ row_entries ds → Placed text at (each rows_text ds) end after

-- how many line feeds there are
unfoldable pub feeds_in : List ℕ → ℕ
feeds_in [] = 0
feeds_in (c ∷ s) = cond (eqb c 10) (suc (feeds_in s)) (feeds_in s)

-- after a read of so many characters into a part of the buffer, none where the input has ended; or after one that failed
abbrev pub after_read : Gathered → Option ℕ → List ℕ → Option Gathered
after_read state None part = None
after_read state (Some count) part = Some (record { end = state.end + count; feeds = state.feeds + feeds_in (take count part); last = count })

-- what was read lies within the buffer, and its line feeds are counted
pub record Inside (input : List ℕ) (state : Gathered) : Type 0 where
  pub ends : state.end ≤ length input
  pub fed : state.feeds ≡ feeds_in (take state.end input)
  pub few : state.feeds ≤ state.end

abbrev pub goes_on : Gathered → ℕ → Bool
goes_on state room = cond (eqb state.last 0) false (cond (ltb 1 state.feeds) false (ltb state.end room))

-- The first n characters of the text are what is printed of the whole input, whatever comes later, and nothing where it has ended.
abbrev pub PrintPut : StampOrder → (input : List ℕ) → Gathered → ℕ → (text : List ℕ) → Type 0
PrintPut o input state n text = (later : List ℕ) → (state.last ≡ 0 → later ≡ []) → take n text ≡ printed o (take state.end input ++ later)
