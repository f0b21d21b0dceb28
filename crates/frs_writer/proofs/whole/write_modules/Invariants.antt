-- `whole::write_modules` meets its contract. Assumes nothing.
use Prim.Native.Nat.{◌-◌}
use lib.ListN.{length}
use Rattle.event.specs.Writing.{rows_in}
use Rattle.frs_writer.proofs.Modules.{Modules}
use Rattle.frs_writer.proofs.whole.write_modules.Given as goal

abbrev pub invariant-loop-written : goal.invariant-loop-written
invariant-loop-written l = Modules (rows_in l.rows) l.seen l.fn.begun.next l.fn.begun.count l.initial.words l.written.next l.written.count l.words

abbrev pub decreases-loop-written : goal.decreases-loop-written
decreases-loop-written l = length (rows_in l.rows) - l.written.next
