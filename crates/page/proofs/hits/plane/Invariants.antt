-- `plane` meets its contract. Assumes nothing.
use mathlib.Core.Path.{◌≡◌}
use lib.ListN.{length}
use Rattle.page_layout.specs.Plane.{table, counted}
use Rattle.page_layout.specs.Page.{event_at}
use Rattle.page.proofs.hits.plane.Given as goal

abbrev pub invariant-loop-k : goal.invariant-loop-k
invariant-loop-k l = (l.plane ≡ counted (table l.k (event_at l.page l.room))) × (length l.rows ≡ 4096)
