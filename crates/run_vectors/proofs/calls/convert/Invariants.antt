-- `calls::convert` meets its contract. Assumes nothing.
use mathlib.Core.Path.{◌≡◌}
use mathlib.Core.List.{◌++◌, map}
use lib.ListN.{length, take, drop}
use Rattle.run_vectors.proofs.calls.convert.Given as goal

abbrev pub invariant-loop-i : goal.invariant-loop-i
invariant-loop-i g l = (length l.words ≡ length l.initial.words) × (l.words ≡ take l.i (map (λ item. g.B.Word.of_number (g.A.Word.number item)) l.items) ++ drop l.i l.initial.words)
