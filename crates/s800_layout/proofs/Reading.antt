-- A reading of dialect S is sound and complete for the layout: it accepts exactly the words of valid events, and gives their rows.
-- Assumes nothing.
use Prim.Native.Nat.{ℕ, suc, ◌+◌}
use native.Mathlib.Omega.{arith}
use mathlib.Core.Path.{◌≡◌, refl, ap}
use mathlib.Core.Logic.{◌↔◌}
use mathlib.Core.List.{List, ◌∷◌}
use lib.ListN.{length}
use Rattle.event.specs.declared.Row.{Row}
use Rattle.event.specs.declared.StampOrder.{StampOrder}
use Rattle.event.specs.Outcome.{done}
use Rattle.event.specs.Demands.{SomeEvent}
use Rattle.event.proofs.Trips.{reads}
use Rattle.s800_layout.specs.Event.{Event, event_tag}
use Rattle.s800_layout.specs.Layout.{version, packets_words, words, rows, smallest_event, largest_event, Formed, Valid}
use Rattle.s800_layout.specs.Reading.{reading}
use Rattle.s800_layout.proofs.Event.{codes_words, ends_words}

-- the length word is the number of words
counted : (n : ℕ) (e : Event) → n ≡ length (words e) → n ∷ event_tag ∷ version ∷ packets_words e ≡ words e
counted n e h = let k : n ≡ 2 + suc (length (packets_words e)) = omega (arith, h) in ap (λ (m : ℕ). m ∷ event_tag ∷ version ∷ packets_words e) k

-- Demand 2 for a reading: accepted exactly when some valid event has these words, whose rows are the rows given.
pub reading_iff : (o : StampOrder) (ws : List ℕ) (rs : List Row) → (reading o ws ≡ done rs) ↔ SomeEvent Valid words (rows o) ws rs
reading_iff o = reads Formed words (rows o) largest_event smallest_event codes_words ends_words (λ n e. refl) counted (λ e g. omega arith)
