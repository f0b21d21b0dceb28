-- `groups::write_samples` meets its contract. Assumes nothing.
use Prim.Native.Nat.{◌-◌}
use lib.ListN.{length}
use Rattle.event.specs.Writing.{rows_in}
use Rattle.s800_writer.proofs.GroupTurns.{Groups}
use Rattle.s800_writer.proofs.groups.write_samples.Given as goal

abbrev pub invariant-loop-refusal : goal.invariant-loop-refusal
invariant-loop-refusal l = Groups (rows_in l.run.rows.now) l.run.from l.run.first l.initial.words l.i l.at l.words

abbrev pub decreases-loop-refusal : goal.decreases-loop-refusal
decreases-loop-refusal l = length (rows_in l.run.rows.now) - l.i
