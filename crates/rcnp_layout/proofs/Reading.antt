-- A reading of dialect R is sound and complete for the layout: it accepts exactly the words of valid events, and gives their rows.
-- Assumes nothing.
use Prim.Native.Nat.{ℕ, ◌≤◌}
use native.Mathlib.Omega.{arith}
use mathlib.Core.Path.{◌≡◌, refl}
use mathlib.Core.Logic.{◌↔◌}
use mathlib.Core.List.{List}
use lib.Dec.{T}
use lib.ListN.{length, length-append}
use Rattle.event.specs.declared.Row.{Row}
use Rattle.event.specs.Parser.{ended, require, several, each}
use Rattle.event.specs.Words.{between}
use Rattle.event.specs.Outcome.{done}
use Rattle.event.specs.Demands.{SomeEvent}
use Rattle.event.proofs.Codes.{Codes, At, codes_require}
use Rattle.event.proofs.Sequences.{codes_bind}
use Rattle.event.proofs.Ends.{Ends, ends_bind}
use Rattle.event.proofs.Trips.{reads}
use Rattle.rcnp_layout.specs.Event.{Event}
use Rattle.rcnp_layout.specs.Layout.{region_words, sum_words, words, rows, smallest_event, largest_event, Formed, Valid}
use Rattle.rcnp_layout.specs.Reading.{region, sum_region, at_sum, event_parser, reading}
use Rattle.rcnp_layout.proofs.Event.{ends_event}
use Rattle.rcnp_layout.proofs.Words.{codes_one}

codes_words : (n : ℕ) → Codes (At ended) (event_parser n) words (λ e. T (between smallest_event largest_event n) × Formed e)
codes_words n = codes_bind (λ e. tt) (codes_require (between smallest_event largest_event n) 1 0) (λ u g. codes_one) (λ u e g. refl)

ends_words : (n : ℕ) → Ends ended (event_parser n)
ends_words n = ends_bind ended (require (between smallest_event largest_event n) 1 0) _ (λ u. ends_event 13 6 (several region at_sum) sum_region)

least : (e : Event) → Formed e → smallest_event ≤ length (words e)
least e g = omega (arith, length-append (each region_words e.regions) (sum_words e.sum))

-- Demand 2 for a reading: accepted exactly when some valid event has these words, whose rows are the rows given.
pub reading_iff : (ws : List ℕ) (rs : List Row) → (reading ws ≡ done rs) ↔ SomeEvent Valid words rows ws rs
reading_iff = reads Formed words rows largest_event smallest_event codes_words ends_words (λ n e. refl) (λ n e h. refl) least
