-- The answer of a call in a lent buffer: its three numbers, where there is room for all of them.
-- Assumes nothing.
use Rattle.std.specs.Prelude.{ℕ, cond, List, leb, length}
use Rattle.event.specs.Outcome.{overlaid}
use Rattle.comparison.specs.Comparing.{Comparison, numbers_of}

abbrev pub answered : Comparison → List ℕ → List ℕ
answered x buffer = cond (leb 3 (length buffer)) (overlaid (numbers_of x) buffer) buffer
