-- A reading of dialect F is sound and complete for the layout: it accepts exactly the longwords of valid events, and gives their rows.
-- Assumes nothing.
use Prim.Native.Nat.{ℕ, ◌≤◌}
use native.Mathlib.Omega.{arith}
use mathlib.Core.Path.{◌≡◌, refl}
use mathlib.Core.Logic.{◌↔◌}
use mathlib.Core.List.{List, [], ◌∷◌, ◌++◌}
use lib.Dec.{T, leb→le}
use lib.ListN.{length, length-append}
use Rattle.event.specs.declared.Row.{Row}
use Rattle.event.specs.Parser.{ended, require, optionally, each, if_any}
use Rattle.event.specs.Words.{between}
use Rattle.event.specs.Outcome.{done}
use Rattle.event.specs.Demands.{SomeEvent}
use Rattle.event.proofs.Codes.{Codes, At, codes_require}
use Rattle.event.proofs.Sequences.{codes_bind}
use Rattle.event.proofs.Ends.{Ends, ends_bind}
use Rattle.event.proofs.Trips.{reads}
use Rattle.frs_layout.specs.Event.{Event, scaler_end}
use Rattle.frs_layout.specs.Layout.{pattern_words, module_words, words, rows, smallest_event, largest_event, Formed, Valid}
use Rattle.frs_layout.specs.Reading.{stamp, scaler, pattern_unit, at_pattern, one_module, event_parser, reading}
use Rattle.frs_layout.proofs.Event.{ends_event}
use Rattle.frs_layout.proofs.Words.{codes_one}

codes_words : (n : ℕ) → Codes (At ended) (event_parser n) words (λ e. T (between smallest_event largest_event n) × Formed e)
codes_words n = codes_bind (λ e. tt) (codes_require (between smallest_event largest_event n) 1 0) (λ u g. codes_one) (λ u e g. refl)

ends_words : (n : ℕ) → Ends ended (event_parser n)
ends_words n = ends_bind ended (require (between smallest_event largest_event n) 1 0) _ (λ u. ends_event stamp scaler (optionally at_pattern pattern_unit) one_module ended)

least : (e : Event) → Formed e → smallest_event ≤ length (words e)
least e g =
    let more = if_any pattern_words e.pattern ++ each module_words e.modules in
    let some-scaler : 1 ≤ length e.scalers = leb→le 1 (length e.scalers) g.scalers.0.0 in
    omega (arith, length-append (e.scalers ++ (scaler_end ∷ [])) more, length-append e.scalers (scaler_end ∷ []))

-- Demand 2 for a reading: accepted exactly when some valid event has these longwords, whose rows are the rows given.
pub reading_iff : (ws : List ℕ) (rs : List Row) → (reading ws ≡ done rs) ↔ SomeEvent Valid words rows ws rs
reading_iff = reads Formed words rows largest_event smallest_event codes_words ends_words (λ n e. refl) (λ n e h. refl) least
