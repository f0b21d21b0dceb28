-- `by_pad` meets its contract. Assumes nothing.
use native.Mathlib.Omega.{arith}
use Rattle.page_layout.specs.Plane.{by_pad}
use Rattle.page_layout.proofs.FilledTables.{all_filled}
use Rattle.page.proofs.hits.by_pad.Goals as goal

pub returns : goal.returns
unfolding by_pad
returns c = all_filled 256 _ c.loop-pad.pad c.loop-pad.counts (omega arith) c.loop-pad.invariant
