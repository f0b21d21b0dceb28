-- A writing of dialect S is sound and complete for the layout: it accepts exactly the rows of valid events, and gives their words.
-- Assumes nothing.
use Prim.Native.Nat.{ℕ}
use mathlib.Core.Path.{◌≡◌}
use mathlib.Core.Logic.{◌↔◌}
use mathlib.Core.List.{List}
use Rattle.event.specs.declared.Row.{Row}
use Rattle.event.specs.declared.StampOrder.{StampOrder}
use Rattle.event.specs.Outcome.{done}
use Rattle.event.specs.Rows.{flat}
use Rattle.event.specs.Demands.{SomeEvent}
use Rattle.event.proofs.Trips.{writes}
use Rattle.s800_layout.specs.Layout.{words, rows, largest_event, Formed, Valid}
use Rattle.s800_layout.specs.Writing.{writing}
use Rattle.s800_layout.proofs.Event.{codes_one, ends_one}

-- Demand 2 for a writing: accepted exactly when the elements are the rows of some valid event, whose words are the words given.
pub writing_iff : (o : StampOrder) (xs ws : List ℕ) → (writing o xs ≡ done ws) ↔ ((rs : List Row) × (flat rs ≡ xs) × SomeEvent Valid words (rows o) ws rs)
writing_iff o = writes Formed words (rows o) largest_event (codes_one o) (ends_one o)
