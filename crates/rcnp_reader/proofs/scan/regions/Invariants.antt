-- `scan::regions` meets its contract. Assumes nothing.
use Prim.Native.Nat.{◌-◌, ◌≤◌}
use lib.ListN.{length}
use Rattle.rcnp_reader.proofs.RegionLoop.{RegionsTo}
use Rattle.rcnp_reader.proofs.VdcWords.{ChamberTo}
use Rattle.rcnp_reader.proofs.scan.regions.Given as goal

abbrev pub invariant-loop-i : goal.invariant-loop-i
invariant-loop-i l = ChamberTo l.words l.end l.first l.begun l.i × (l.end ≤ length l.words)

abbrev pub invariant-regions : goal.invariant-regions
invariant-regions l = RegionsTo l.words l.initial.rows l.at l.count l.rows

abbrev pub decreases-regions : goal.decreases-regions
decreases-regions l = length l.words - l.at
