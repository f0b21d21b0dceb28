-- `by_pad` meets its contract. Assumes nothing.
use Rattle.page_layout.specs.Plane.{at}
use Rattle.page_layout.proofs.FilledTables.{Filled}
use Rattle.page.proofs.hits.by_pad.Given as goal

abbrev pub invariant-loop-pad : goal.invariant-loop-pad
invariant-loop-pad l = Filled 256 (at l.plane) l.pad l.counts
