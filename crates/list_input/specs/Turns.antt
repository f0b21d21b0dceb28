-- A listing turn by turn: what comes in, in whatever pieces, and the text that is put, in whatever pieces.
-- Assumes nothing.
use Rattle.std.specs.Prelude.{ℕ, ◌+◌, ◌≤◌, ◌<◌, ◌≡◌, Bool, true, false, cond, not, ◌&&◌, List, [], ◌∷◌, ◌++◌, length}
use Rattle.event.specs.declared.StampOrder.{StampOrder}
use Rattle.event.specs.Parser.{each}
use Rattle.listing.specs.Input.{next_of}
use Rattle.listing.specs.declared.Next.TheVariants.{More}
use Rattle.listing.specs.Listing.{lines_of, list_from, listing}

-- A point of a listing: the characters that came in and are not listed yet, the lines that were accepted and refused, whether the input has ended (a failed read
-- ends it too), whether all is put, and whether a read or a write failed.
pub record Point : Type 0 where
  pub rest : List ℕ
  pub accepted : ℕ
  pub refused : ℕ
  pub ended : Bool
  pub over : Bool
  pub failed : Bool

abbrev pub start : Point
start = record { rest = []; accepted = 0; refused = 0; ended = false; over = false; failed = false }

-- the text that is still to be put, where these characters come later
abbrev pub to_come : StampOrder → Point → List ℕ → List ℕ
to_come o p later = cond p.over [] (list_from o p.accepted p.refused (lines_of (p.rest ++ later)))

-- 1 where the input has ended
abbrev pub end_count : Point → ℕ
end_count p = cond p.ended 1 0

-- A turn, of a listing that is not over and at which nothing failed: a piece comes in and a text is put, to another point.
--   last, found  the end of the input stays, and nothing comes in with it
--   reads        a piece comes in, or the end is found, only where more of the input is needed: a line is listed as soon as it was read
--   puts         whatever comes later, what was to be put is this text and what is still to be put
--   moves        where nothing failed, all is put, or some text, or a piece came in, or the end of the input was found
pub record Turned (o : StampOrder) (p : Point) (piece put : List ℕ) (p' : Point) : Type 0 where
  pub taken : (p.over ≡ false) × (p.failed ≡ false)
  pub last : p.ended ≡ true → p'.ended ≡ true
  pub found : p'.ended ≡ true → piece ≡ []
  pub reads : end_count p < length piece + end_count p' → (rest : List ℕ) × (p'.rest ≡ rest ++ piece) × (next_of rest false (p'.accepted + p'.refused) ≡ More)
  pub puts : (later : List ℕ) → (p'.ended ≡ true → later ≡ []) → to_come o p (piece ++ later) ≡ put ++ to_come o p' later
  pub moves : p'.over ≡ false → p'.failed ≡ false → end_count p < length put + length piece + end_count p'

-- the same with some piece
abbrev pub SomeTurn : StampOrder → Point → (put : List ℕ) → Point → Type 0
SomeTurn o p put p' = (piece : List ℕ) × Turned o p piece put p'

-- the piece and the text of a turn, and the point behind it
pub record Step : Type 0 where
  pub piece : List ℕ
  pub put : List ℕ
  pub after : Point

-- these turns, one after the other, and the point behind them
abbrev pub Follow : StampOrder → Point → List Step → Type 0
Follow o p [] = Unit {0}
Follow o p (s ∷ steps) = Turned o p s.piece s.put s.after × Follow o s.after steps

abbrev pub behind_all : Point → List Step → Point
behind_all p [] = p
behind_all p (s ∷ steps) = behind_all s.after steps

-- the text that the last of them put
abbrev pub last_put : List ℕ → List Step → List ℕ
last_put t [] = t
last_put t (s ∷ steps) = last_put s.put steps

-- what came in, and the text that was put
abbrev pub came_in : List Step → List ℕ
came_in = each (λ (s : Step). s.piece)

abbrev pub was_put : List Step → List ℕ
was_put = each (λ (s : Step). s.put)

-- what may follow what came in: nothing where the input has ended
abbrev pub MayFollow : List Step → List ℕ → Type 0
MayFollow steps later = (behind_all start steps).ended ≡ true → later ≡ []

-- Whatever the input and the pieces that it comes in: the text that turns from the start put, until all is put, is the listing of the input, also where a part of
-- it was not read any more.
abbrev pub ListsWhole : Type 0
ListsWhole =
    (o : StampOrder) (steps : List Step) → Follow o start steps → (behind_all start steps).over ≡ true
    → (later : List ℕ) → MayFollow steps later → was_put steps ≡ listing o (came_in steps ++ later)

-- Turns are no more than the characters that came in and were put, and two. (What they put is a beginning of the listing, `put_by_turns`: of a finite input there
-- are finitely many.)
abbrev pub FewTurns : Type 0
FewTurns = (o : StampOrder) (steps : List Step) → Follow o start steps → length steps ≤ length (came_in steps) + length (was_put steps) + 2

-- the most turns that are taken
abbrev pub most_turns : ℕ
most_turns = 18446744073709551615

-- A listing by turns, and the last text that they put. It is whole where all is put and nothing failed; then their text is the listing of the input. Where it is
-- not, a read or a write failed, or the turns were the most that are taken. No contract of the kit says what was read or written, and this one does not say that
-- these are the turns that were taken: the contract of `turn` says what one turn does, and the loop of `list` takes them.
pub record ListedByTurns (o : StampOrder) (whole : Bool) (last : List ℕ) : Type 0 where
  pub steps : List Step
  pub follow : Follow o start steps
  pub text : last_put [] steps ≡ last
  pub ends : whole ≡ (behind_all start steps).over && not (behind_all start steps).failed
  pub listed : whole ≡ true → (later : List ℕ) → MayFollow steps later → was_put steps ≡ listing o (came_in steps ++ later)
  pub stopped : whole ≡ false → (behind_all start steps).failed ≡ false → length steps ≡ most_turns

-- A listing that is not whole, though nothing failed, took in and put together at least 2^64 - 3 characters.
abbrev pub NotWhole : Type 0
NotWhole = (o : StampOrder) (last : List ℕ) (w : ListedByTurns o false last) → (behind_all start w.steps).failed ≡ false
    → 18446744073709551613 ≤ length (came_in w.steps) + length (was_put w.steps)
