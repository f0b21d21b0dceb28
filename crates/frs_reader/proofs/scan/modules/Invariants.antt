-- `scan::modules` meets its contract. Assumes nothing.
use Prim.Native.Nat.{◌-◌}
use lib.ListN.{length}
use Rattle.frs_reader.proofs.Scans.{Modules}
use Rattle.frs_reader.proofs.scan.modules.Given as goal

abbrev pub invariant-loop-read : goal.invariant-loop-read
invariant-loop-read l = Modules l.seen l.words l.fn.begun.next l.fn.begun.count l.initial.rows l.read.next l.read.count l.rows

abbrev pub decreases-loop-read : goal.decreases-loop-read
decreases-loop-read l = length l.words - l.read.next
