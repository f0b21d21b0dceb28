-- `groups::write_data` meets its contract. Assumes nothing.
use Prim.Native.Nat.{◌-◌}
use lib.ListN.{length}
use Rattle.event.specs.Writing.{rows_in}
use Rattle.s800_layout.specs.Writing.{sample_head_of}
use Rattle.s800_writer.proofs.GroupTurns.{DataRows}
use Rattle.s800_writer.proofs.groups.write_data.Given as goal

abbrev pub invariant-loop-head : goal.invariant-loop-head
invariant-loop-head l = DataRows (sample_head_of l.head) l.least (rows_in l.run.rows.now) l.run.from l.run.first l.initial.words l.i l.at l.words

abbrev pub decreases-loop-head : goal.decreases-loop-head
decreases-loop-head l = length (rows_in l.run.rows.now) - l.i
