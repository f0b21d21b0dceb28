-- `page_of` meets its contract. Assumes nothing.
use Prim.Native.Nat.{ℕ, ◌+◌}
use mathlib.Core.List.{List}
use lib.ListN.{get_or}
use Rattle.page_layout.proofs.FilledTables.{Filled}
use Rattle.page_calls.proofs.numbers.page_of.Given as goal

-- the length of slot k
abbrev pub stored : List ℕ → ℕ → ℕ
stored numbers k = get_or numbers (2 + k) 0

abbrev pub invariant-loop-k : goal.invariant-loop-k
invariant-loop-k l = Filled 64 (stored l.numbers) l.k l.lengths
