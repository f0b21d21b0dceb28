-- `groups::groups_hold` meets its contract. Assumes nothing.
use Prim.Native.Nat.{◌<◌}
use Rattle.s800_reader.proofs.GroupTurns.{Going}
use Rattle.s800_reader.proofs.groups.groups_hold.Given as goal

abbrev pub invariant-loop-i : goal.invariant-loop-i
invariant-loop-i l = (l.from < l.i) × Going l.words l.from l.end l.i l.holds
