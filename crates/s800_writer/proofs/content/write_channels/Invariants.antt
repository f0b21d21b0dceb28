-- `content::write_channels` meets its contract. Assumes nothing.
use Prim.Native.Nat.{◌-◌}
use lib.ListN.{length}
use Rattle.event.specs.Writing.{rows_in}
use Rattle.s800_writer.proofs.Channels.{Channels}
use Rattle.s800_writer.proofs.content.write_channels.Given as goal

abbrev pub invariant-loop-format : goal.invariant-loop-format
invariant-loop-format l = Channels l.format l.blocked (rows_in l.run.rows.now) l.run.from l.run.first l.initial.words l.i l.at l.words

abbrev pub decreases-loop-format : goal.decreases-loop-format
decreases-loop-format l = length (rows_in l.run.rows.now) - l.i
