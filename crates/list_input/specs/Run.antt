-- Where a run stands in its buffers, and what each of its steps keeps. (Contracts of private functions speak of it.)
-- Assumes nothing.
use Rattle.std.specs.Prelude.{ℕ, ◌+◌, ◌-◌, ◌≤◌, ◌<◌, ◌≡◌, Bool, true, false, cond, List, [], ◌++◌, eqb, length, take, drop, Result, Ok, Err}
use Rattle.event.specs.Refusal.{Answer}
use Rattle.event.specs.declared.Row.{Row}
use Rattle.event.specs.declared.StampOrder.{StampOrder}
use Rattle.event.specs.Outcome.{answer_of, given}
use Rattle.hex_line.specs.Line.{longest_line}
use Rattle.hex_line.specs.Text.{Placed}
use Rattle.listing.specs.declared.Next.{Next}
use Rattle.listing.specs.declared.Next.TheVariants.{Line, Long, More, End, Cut}
use Rattle.listing.specs.Input.{next_of}
use Rattle.listing.specs.Listing.{most_lines, lines_of, line_rows, accepted_in, refused_in, list_from}
use Rattle.listing.specs.Lengths.{most_text, last_length}
use Rattle.listing.specs.Text.{event_text}
use Rattle.list_input.specs.declared.lines.Put.{Put}
use Rattle.list_input.specs.declared.lines.Stop.{Stop}
use Rattle.list_input.specs.declared.lines.Stop.TheVariants as stop
use Rattle.list_input.specs.declared.Run.{Run}
use Rattle.list_input.specs.declared.Turn.{Turn}
use Rattle.list_input.specs.Turns.{Point}

-- a run within an input buffer of n characters and a text buffer of m, of no more lines than are listed
pub record Inside (n m : ℕ) (run : Run) : Type 0 where
  pub begins : run.from ≤ run.end
  pub ends : run.end ≤ n
  pub text : run.at ≤ m
  pub lines : run.accepted + run.refused ≤ most_lines

-- a line of so many characters comes next, within what was read, one more may be listed, and there is room for its text
pub record LineInside (count m : ℕ) (run : Run) : Type 0 where
  pub some : run.from < run.end
  pub within : count ≤ run.end - run.from
  pub lines : run.accepted + run.refused < most_lines
  pub text : run.at + most_text ≤ m

-- a run whose next text is put from the front
abbrev pub anew : Run → Run
anew run = record { from = run.from; end = run.end; at = 0; accepted = run.accepted; refused = run.refused }

-- the characters that were read and are not listed yet
abbrev pub rest_of : Run → List ℕ → List ℕ
rest_of run input = take (run.end - run.from) (drop run.from input)

-- the place behind a line of k characters and its line feed, which the last may lack
abbrev pub behind : Run → ℕ → ℕ
behind run k = cond (eqb (run.end - run.from) k) run.end (run.from + k + 1)

-- the answer to a line, and its rows
abbrev pub answer_to : StampOrder → List ℕ → Answer
answer_to o line = answer_of (line_rows o line)

abbrev pub rows_to : StampOrder → List ℕ → List Row
rows_to o line = given (line_rows o line)

-- a line of this answer and these rows is listed: its text stands behind what was not written yet, and it is counted
pub record LineListed (answer : Answer) (rs : List Row) (next : ℕ) (run : Run) (text : List ℕ) (run' : Run) (text' : List ℕ) : Type 0 where
  pub placed : Placed text run.at (event_text (run.accepted + run.refused + 1) answer rs) run'.at text'
  pub from : run'.from ≡ next
  pub end : run'.end ≡ run.end
  pub accepted : run'.accepted ≡ run.accepted + accepted_in answer
  pub refused : run'.refused ≡ run.refused + refused_in answer

-- the text that is not written yet, and what is still to be listed of these characters
abbrev pub text_of : StampOrder → Run → (text rest : List ℕ) → List ℕ
text_of o run text rest = take run.at text ++ list_from o run.accepted run.refused (lines_of rest)

-- Whatever comes in later, and nothing where the input has ended: all that was to be written is still to be written.
abbrev pub Kept : StampOrder → (ended : Bool) (input : List ℕ) (run : Run) (text : List ℕ) (run' : Run) (text' : List ℕ) → Type 0
Kept o ended input run text run' text' =
    (later : List ℕ) → (ended ≡ true → later ≡ []) → text_of o run text (rest_of run input ++ later) ≡ text_of o run' text' (rest_of run' input ++ later)

-- a listing ends where neither a line nor more of the input is to come
abbrev pub ends : Next → Bool
ends (Line k) = false
ends (Long k) = true
ends More = false
ends End = true
ends Cut = true

-- All that was to be written stands in the first n characters of the text.
abbrev pub RestPut : StampOrder → (ended : Bool) (input : List ℕ) (run : Run) (text : List ℕ) (n : ℕ) (text' : List ℕ) → Type 0
RestPut o ended input run text n text' = (later : List ℕ) → (ended ≡ true → later ≡ []) → take n text' ≡ text_of o run text (rest_of run input ++ later)

-- why a run stops that is to go on: more of the input is needed, or the next line's text has no room
abbrev pub paused : Next → Stop
paused More = stop.More
paused (Line k) = stop.Full
paused (Long k) = stop.Full
paused End = stop.Full
paused Cut = stop.Full

abbrev pub is_over : Stop → Bool
is_over stop.Over = true
is_over stop.Full = false
is_over stop.More = false

-- a turn, and whether a read or a write failed at it
abbrev pub turn_of : Result Turn Turn → Turn
turn_of (Ok t) = t
turn_of (Err t) = t

abbrev pub failed : Result Turn Turn → Bool
failed (Ok t) = false
failed (Err t) = true

-- the point of the listing where a run stands
abbrev pub point_of : (failed : Bool) → Turn → List ℕ → Point
point_of failed state input = record {
  rest = rest_of state.run input;
  accepted = state.run.accepted;
  refused = state.run.refused;
  ended = state.ended;
  over = state.over;
  failed = failed;
}

-- All that was to be written stands in the text, or is still to be put.
abbrev pub MorePut : StampOrder → (ended : Bool) (input : List ℕ) (run : Run) (text : List ℕ) (put : Put) (text' : List ℕ) → Type 0
MorePut o ended input run text put text' =
    (later : List ℕ) → (ended ≡ true → later ≡ [])
    → text_of o run text (rest_of run input ++ later)
    ≡ take put.run.at text' ++ cond (is_over put.stop) [] (list_from o put.run.accepted put.run.refused (lines_of (rest_of put.run input ++ later)))

-- Where a run stops before the listing's end, there is little room for text left in n characters, or more of the input is needed: then it has not ended, and what
-- is not listed yet is no longer than a line.
pub record Halts (ended : Bool) (input : List ℕ) (n : ℕ) (put : Put) : Type 0 where
  pub full : put.stop ≡ stop.Full → n < put.run.at + (most_text + last_length)
  pub more : put.stop ≡ stop.More → (ended ≡ false) × (put.run.end - put.run.from ≤ longest_line) × (next_of (rest_of put.run input) false (put.run.accepted + put.run.refused) ≡ More)

-- A piece of the input came in behind what was not listed yet, and nothing where the input has ended, which stays so. Where more was needed, some did, or the input
-- has ended, or a read failed; where it was not, nothing came in and the input has not ended anew. The counts, the text's length and whether all is put stayed.
pub record Fed (put : Put) (ended : Bool) (input : List ℕ) (state : Turn) (failed : Bool) (input' : List ℕ) : Type 0 where
  pub piece : List ℕ
  pub found : state.ended ≡ true → piece ≡ []
  pub stays : (put.stop ≡ stop.More → ⊥) → (piece ≡ []) × (state.ended ≡ ended)
  pub last : ended ≡ true → state.ended ≡ true
  pub some : put.stop ≡ stop.More → state.ended ≡ false → failed ≡ false → 0 < length piece
  pub rest : rest_of state.run input' ≡ rest_of put.run input ++ piece
  pub begins : state.run.from ≤ state.run.end
  pub ends : state.run.end ≤ length input
  pub at : state.run.at ≡ put.run.at
  pub accepted : state.run.accepted ≡ put.run.accepted
  pub refused : state.run.refused ≡ put.run.refused
  pub over : state.over ≡ is_over put.stop
