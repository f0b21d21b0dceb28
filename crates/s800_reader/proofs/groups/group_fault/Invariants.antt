-- `groups::group_fault` meets its contract. Assumes nothing.
use Rattle.s800_reader.proofs.GroupTurns.{least_after, Reach}
use Rattle.s800_reader.proofs.groups.group_fault.Given as goal

abbrev pub invariant-loop-i : goal.invariant-loop-i
invariant-loop-i l = Reach l.words l.from l.end l.head (least_after l.before) l.i
