-- A run of equal elements. Assumes nothing.
use Rattle.std.specs.Prelude.{◌≡◌, List, ℕ, ◌+◌, ◌≤◌, ◌<◌, length, get_or}

-- the longest run from a place on has n elements
pub record Run (elements : List ℕ) (from n : ℕ) : Type 0 where
  pub some : 0 < n
  pub within : from + n ≤ length elements
  pub equal : (k : ℕ) → k < n → get_or elements (from + k) 0 ≡ get_or elements from 0
  pub longest : from + n < length elements → get_or elements (from + n) 0 ≡ get_or elements from 0 → ⊥
