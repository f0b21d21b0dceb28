-- A writing of dialect R is sound and complete for the layout: it accepts exactly the rows of valid events, and gives their words.
-- Assumes nothing.
use Prim.Native.Nat.{ℕ}
use mathlib.Core.Path.{◌≡◌}
use mathlib.Core.Logic.{◌↔◌}
use mathlib.Core.List.{List}
use Rattle.event.specs.declared.Row.{Row}
use Rattle.event.specs.Parser.{several}
use Rattle.event.specs.Outcome.{done}
use Rattle.event.specs.Rows.{flat}
use Rattle.event.specs.Demands.{SomeEvent}
use Rattle.event.proofs.Trips.{writes}
use Rattle.rcnp_layout.specs.Layout.{words, rows, largest_event, Formed, Valid}
use Rattle.rcnp_layout.specs.Writing.{region, sum_region, at_sum, writing}
use Rattle.rcnp_layout.proofs.Event.{ends_event}
use Rattle.rcnp_layout.proofs.Rows.{codes_one}

pub writing_iff : (xs ws : List ℕ) → (writing xs ≡ done ws) ↔ ((rs : List Row) × (flat rs ≡ xs) × SomeEvent Valid words rows ws rs)
writing_iff = writes Formed words rows largest_event codes_one (ends_event 22 21 (several region at_sum) sum_region)
