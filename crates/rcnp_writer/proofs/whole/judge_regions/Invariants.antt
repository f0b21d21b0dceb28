-- `whole::judge_regions` meets its contract. Assumes nothing.
use Rattle.std.proofs.Common.{◌-◌, length}
use Rattle.event.specs.Writing.{rows_in}
use Rattle.rcnp_writer.proofs.Regions.{Regions}
use Rattle.rcnp_writer.proofs.whole.judge_regions.Given as goal

abbrev pub invariant-loop-i : goal.invariant-loop-i
invariant-loop-i l = Regions (rows_in l.rows) l.i l.at

abbrev pub decreases-loop-i : goal.decreases-loop-i
decreases-loop-i l = length (rows_in l.rows) - l.i
