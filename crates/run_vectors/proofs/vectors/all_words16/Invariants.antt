-- `vectors::all_words16` meets its contract. The invariant: all are words where those that are left are. Assumes nothing.
use mathlib.Core.Path.{◌≡◌}
use lib.ListN.{drop}
use Rattle.run_vectors.specs.Vectors.{all_words16}
use Rattle.run_vectors.proofs.vectors.all_words16.Given as goal

abbrev pub invariant-loop-element : goal.invariant-loop-element
invariant-loop-element l = all_words16 l.elements ≡ all_words16 (drop l.element-index l.elements)
