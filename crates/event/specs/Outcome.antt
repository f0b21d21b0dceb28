-- The outcome of a reading (rows), a writing or a line (words), or of a list of differences, and how a lent buffer and the answer follow from it.
-- Assumes nothing.
use Rattle.std.specs.Prelude.{ℕ, Bool, true, false, cond, List, [], ◌++◌, leb, eqb, length, drop, Ok, Err}
use Rattle.event.specs.declared.Row.{Row}
use Rattle.event.specs.declared.StampOrder.{StampOrder}
use Rattle.event.specs.declared.StampOrder.TheVariants as stamp
use Rattle.event.specs.Parser.{Result, ok, refuse}
use Rattle.event.specs.Refusal.{Answer, number, refusal}

-- the stamp order where none is given (document 02, #105)
abbrev pub default_order : StampOrder
default_order = stamp.Rising

-- the stamp order of a number: 0 is crossed, any other rising (the host call refuses those above 1 first, by 31)
abbrev pub order_of : ℕ → StampOrder
order_of n = cond (eqb n 0) stamp.Crossed stamp.Rising

pub data Outcome (A : Type 0) : Type 0 where
  done : List A → Outcome A
  refused : (number place : ℕ) → Outcome A

-- the outcome of a parser that stops only at the end of its input, so that nothing is left
abbrev pub outcome : {E A B : Type 0} → (A → Outcome B) → Result E A → Outcome B
outcome f (ok a j r) = f a
outcome f (refuse n k) = refused n k

-- 12, 23, 24 and 25: more items than there may be, place the items needed
abbrev pub limited : {A : Type 0} → ℕ → ℕ → Outcome A → Outcome A
limited n most (done xs) = cond (leb (length xs) most) (done xs) (refused n (length xs))
limited n most (refused m k) = refused m k

-- a reading into room for so many rows: 12 last
abbrev pub in_room : ℕ → Outcome Row → Outcome Row
in_room room = limited 12 room

-- a writing, or a line, into room for so many words: 24 last
abbrev pub in_word_room : ℕ → Outcome ℕ → Outcome ℕ
in_word_room room = limited 24 room

-- the items of an outcome; none on refusal
abbrev pub given : {A : Type 0} → Outcome A → List A
given (done xs) = xs
given (refused n k) = []

abbrev pub answer_of : {A : Type 0} → Outcome A → Answer
answer_of (done xs) = Ok (length xs)
answer_of (refused n k) = Err (refusal n k)

-- An answer in document 01's numbers, for each of its cases: whether it accepts; the refusal number, 0 where there is none; the rows or words given, or the place of
-- the refusal.
abbrev pub accepted : Answer → Bool
accepted (Ok n) = true
accepted (Err r) = false

abbrev pub refusal_number : Answer → ℕ
refusal_number (Ok n) = 0
refusal_number (Err r) = number r.fault

abbrev pub count_or_place : Answer → ℕ
count_or_place (Ok n) = n
count_or_place (Err r) = r.place

-- the lent buffer afterwards: only the elements given are written, none on refusal
abbrev pub overlaid : List ℕ → List ℕ → List ℕ
overlaid xs buffer = xs ++ drop (length xs) buffer
