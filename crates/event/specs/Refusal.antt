-- The refusal numbers of the table, the faults that they name in the code, and what a call answers: a count, or a refusal.
-- Assumes nothing.
use Rattle.std.specs.Prelude.{ℕ, cond, eqb, List, [], ◌∷◌, Result, Ok, Err}
use Rattle.event.specs.declared.refusal.Fault.{Fault}
use Rattle.event.specs.declared.refusal.Fault.TheVariants as fault
use Rattle.event.specs.declared.refusal.Refusal.{Refusal}
use Rattle.event.specs.declared.Part.{Part}

abbrev pub number : Fault → ℕ
number fault.Size = 1
number fault.EventLength = 2
number fault.EventTag = 3
number fault.Version = 4
number fault.Extent = 5
number fault.Tag = 6
number fault.Length = 7
number fault.Id = 8
number fault.Inner = 9
number fault.Data = 10
number fault.Repeated = 11
number fault.Room = 12
number fault.Sum = 13
number fault.Elements = 20
number fault.Kind = 21
number fault.Field = 22
number fault.Large = 23
number fault.Words = 24
number fault.List = 25
number fault.LongEvent = 26
number fault.NoEvent = 27
number fault.Page = 28
number fault.Line = 30
number fault.Order = 31

abbrev faults : List Fault
faults =
    fault.Size ∷ fault.EventLength ∷ fault.EventTag ∷ fault.Version ∷ fault.Extent ∷ fault.Tag ∷ fault.Length ∷ fault.Id ∷ fault.Inner ∷ fault.Data ∷ fault.Repeated ∷ fault.Room ∷ fault.Sum
    ∷ fault.Elements ∷ fault.Kind ∷ fault.Field ∷ fault.Large ∷ fault.Words ∷ fault.List ∷ fault.LongEvent ∷ fault.NoEvent ∷ fault.Page ∷ fault.Line ∷ fault.Order ∷ []

-- the fault of a number of the table (no other number is ever a refusal's: `RefusalsNamed` in dialects/specs/Demands)
abbrev first : List Fault → ℕ → Fault
first [] n = fault.Order
first (f ∷ fs) n = cond (eqb n (number f)) f (first fs n)

unfoldable pub fault_of : ℕ → Fault
fault_of n = first faults n

-- a refusal by its number and its place
abbrev pub refusal : (number place : ℕ) → Refusal
refusal n k = record { fault = fault_of n; place = k }

-- the number of rows (or words) given, or a refusal
abbrev pub Answer : Type 0
Answer = Result ℕ Refusal

-- a part of an event: the place after it, and the number of rows (or words) given up to there; what is answered to one
abbrev pub PartAnswer : Type 0
PartAnswer = Result Part Refusal

abbrev pub part : (next count : ℕ) → Part
part next count = record { next = next; count = count }

-- what a test answers that found refusal n at place k, 0 for none
abbrev pub verdict : (n k : ℕ) → Result (Unit {0}) Refusal
verdict n k = cond (eqb n 0) (Ok tt) (Err (refusal n k))
