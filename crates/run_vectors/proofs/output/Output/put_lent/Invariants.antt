-- `output::Output::put_lent` meets its contract. Assumes nothing.
use Prim.Native.Nat.{◌-◌, ◌≤◌}
use lib.ListN.{length}
use Rattle.run_vectors.proofs.output.Output.put_lent.Given as goal

abbrev pub invariant-loop-from : goal.invariant-loop-from
invariant-loop-from l = l.from ≤ length l.lent

abbrev pub decreases-loop-from : goal.decreases-loop-from
decreases-loop-from l = length l.lent - l.from
