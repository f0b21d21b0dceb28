-- A set of channels as the bits of a number, at any width.
-- Assumes nothing.
use Rattle.std.specs.Prelude.{ℕ, zero, suc, ◌/◌, ◌%◌, ◌^◌, ◌≡◌, Bool, cond, not, ◌||◌, List, [], ◌∷◌, eqb}
use Rattle.std.specs.Int.Bits.{bit_or}
use Rattle.event.specs.Parser.{fresh}

-- channel k is in the set
unfoldable pub present : ℕ → ℕ → Bool
present set k = eqb (set / 2 ^ k % 2) 1

-- the set with channel k
unfoldable pub insert : ℕ → ℕ → ℕ
insert set k = bit_or set (2 ^ k)

-- of the n channels from c on, those that are not in the set
unfoldable pub others : (c n : ℕ) → ℕ → List ℕ
others c zero set = []
others c (suc n) set = cond (present set c) (others (suc c) n set) (c ∷ others (suc c) n set)

-- the set holds the channels that are barred, and those seen
pub record Blocked (barred set : ℕ) (seen : List ℕ) : Type 0 where
  pub holds : (k : ℕ) → present set k ≡ present barred k || not (fresh k seen)
