-- The faults and their numbers: each has its own, and a number of the table is that of its fault.
-- Assumes nothing.
use Prim.Native.Nat.{ℕ, suc, ◌≤◌}
use native.Mathlib.Omega.{arith}
use mathlib.Core.Path.{◌≡◌, refl}
use mathlib.Core.Bool.{Bool, true, false, ◌||◌}
use mathlib.Core.List.{List, [], ◌∷◌}
use lib.Dec.{T, ltb, eqb}
use borrow.Author.Tests.{eqb-true, ltb-true}
use Rattle.event.specs.Parser.{All, member}
use Rattle.event.proofs.Tables.{holds_below, holds_below_lem}
use Rattle.event.specs.declared.refusal.Fault.{Fault}
use Rattle.event.specs.declared.refusal.Fault.TheVariants as fault
use Rattle.event.specs.Refusal.{number, fault_of}

pub fault_of_number : (f : Fault) → fault_of (number f) ≡ f
unfolding fault_of
fault_of_number fault.Size = refl
fault_of_number fault.EventLength = refl
fault_of_number fault.EventTag = refl
fault_of_number fault.Version = refl
fault_of_number fault.Extent = refl
fault_of_number fault.Tag = refl
fault_of_number fault.Length = refl
fault_of_number fault.Id = refl
fault_of_number fault.Inner = refl
fault_of_number fault.Data = refl
fault_of_number fault.Repeated = refl
fault_of_number fault.Room = refl
fault_of_number fault.Sum = refl
fault_of_number fault.Elements = refl
fault_of_number fault.Kind = refl
fault_of_number fault.Field = refl
fault_of_number fault.Large = refl
fault_of_number fault.Words = refl
fault_of_number fault.List = refl
fault_of_number fault.LongEvent = refl
fault_of_number fault.NoEvent = refl
fault_of_number fault.Page = refl
fault_of_number fault.Line = refl
fault_of_number fault.Order = refl

-- a number that is its fault's
abbrev pub Kept : ℕ → Type 0
Kept n = number (fault_of n) ≡ n

abbrev pub kept_from : ℕ → ℕ → Bool
kept_from least n = ltb n least || eqb (number (fault_of n)) n

-- by a computed test of the numbers from one to another,
pub kept_between : (least most : ℕ) → T (holds_below (suc most) (kept_from least)) → (n : ℕ) → least ≤ n → n ≤ most → Kept n
kept_between least most t n l m = go (ltb n least) refl (eqb (number (fault_of n)) n) refl (holds_below_lem (suc most) (kept_from least) t n (omega arith))
  where
    go : (a : Bool) → ltb n least ≡ a → (b : Bool) → eqb (number (fault_of n)) n ≡ b → T (a || b) → Kept n
    go true e b f h = absurd (omega (arith, l, ltb-true n least e))
    go false e true f h = eqb-true (number (fault_of n)) n f
    go false e false f h = absurd h

-- and of those of a list
pub kept_member : (ns : List ℕ) → All Kept ns → (n : ℕ) → T (member n ns) → Kept n
kept_member [] a n t = absurd t
kept_member (m ∷ ns) a n t = go (eqb n m) refl (kept_member ns a.1 n) t
  where
    go : (b : Bool) → eqb n m ≡ b → (T (member n ns) → Kept n) → T (b || member n ns) → Kept n
    go true e others t = rw (eqb-true n m e) a.0
    go false e others t = others t
