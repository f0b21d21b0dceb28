-- `content::write_opaque_words` meets its contract. Assumes nothing.
use Prim.Native.Nat.{◌-◌}
use lib.ListN.{length}
use Rattle.event.specs.Writing.{rows_in}
use Rattle.s800_writer.proofs.Singles.{Opaques}
use Rattle.s800_writer.proofs.content.write_opaque_words.Given as goal

abbrev pub invariant-loop-row : goal.invariant-loop-row
invariant-loop-row l = Opaques (rows_in l.run.rows.now) l.run.from l.run.first l.initial.words l.i l.at l.words

abbrev pub decreases-loop-row : goal.decreases-loop-row
decreases-loop-row l = length (rows_in l.run.rows.now) - l.i
