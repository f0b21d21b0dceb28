-- `vectors::expand` meets its contract. The invariant: the runs that are left give what all of them give. Assumes nothing.
use Prim.Native.Nat.{◌-◌, ◌≤◌}
use mathlib.Core.Path.{◌≡◌}
use lib.ListN.{length}
use Rattle.run_vectors.specs.Vectors.{expansion}
use Rattle.run_vectors.proofs.vectors.expand.Given as goal

abbrev pub invariant-loop : goal.invariant-loop
invariant-loop l =
    (length l.elements ≡ length l.initial.elements) × (l.place ≤ l.next) × (l.next ≤ length l.input) × (l.count ≤ l.most)
    × (expansion l.input l.most l.place 0 l.runs l.initial.elements ≡ expansion l.input l.most l.next l.count (l.runs - l.counter) l.elements)
