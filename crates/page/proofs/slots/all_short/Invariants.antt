-- `all_short` meets its contract. Assumes nothing.
use mathlib.Core.Path.{◌≡◌}
use lib.ListN.{drop}
use Rattle.page_layout.specs.Plane.{table}
use Rattle.page_layout.specs.Page.{length_of, all_up_to}
use Rattle.page.proofs.slots.all_short.Given as goal

abbrev pub invariant-loop-k : goal.invariant-loop-k
invariant-loop-k l = let lengths = table l.page.count (length_of l.page) in all_up_to 1024 (drop l.k lengths) ≡ all_up_to 1024 lengths
