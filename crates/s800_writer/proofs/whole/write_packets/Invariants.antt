-- `whole::write_packets` meets its contract. Assumes nothing.
use Prim.Native.Nat.{◌-◌}
use lib.ListN.{length}
use Rattle.event.specs.Writing.{rows_in}
use Rattle.s800_writer.proofs.Runs.{Packets}
use Rattle.s800_writer.proofs.whole.write_packets.Given as goal

abbrev pub invariant-loop-i : goal.invariant-loop-i
invariant-loop-i l = Packets (rows_in l.run.rows.now) l.run.from l.run.first l.initial.words l.i l.at l.words

abbrev pub decreases-loop-i : goal.decreases-loop-i
decreases-loop-i l = length (rows_in l.run.rows.now) - l.i
