-- A writing of dialect F is sound and complete for the layout: it accepts exactly the rows of valid events, and gives their longwords.
-- Assumes nothing.
use Prim.Native.Nat.{ℕ}
use mathlib.Core.Path.{◌≡◌}
use mathlib.Core.Logic.{◌↔◌}
use mathlib.Core.List.{List}
use Rattle.event.specs.declared.Row.{Row}
use Rattle.event.specs.Parser.{ended, optionally}
use Rattle.event.specs.Outcome.{done}
use Rattle.event.specs.Rows.{flat}
use Rattle.event.specs.Demands.{SomeEvent}
use Rattle.event.proofs.Trips.{writes}
use Rattle.frs_layout.specs.Layout.{words, rows, largest_event, Formed, Valid}
use Rattle.frs_layout.specs.Writing.{stamp, scaler, pattern_unit, at_pattern, one_module, writing}
use Rattle.frs_layout.proofs.Event.{ends_event}
use Rattle.frs_layout.proofs.Rows.{codes_one}

pub writing_iff : (xs ws : List ℕ) → (writing xs ≡ done ws) ↔ ((rs : List Row) × (flat rs ≡ xs) × SomeEvent Valid words rows ws rs)
writing_iff = writes Formed words rows largest_event codes_one (ends_event stamp scaler (optionally at_pattern pattern_unit) one_module ended)
