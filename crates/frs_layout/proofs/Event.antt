-- The parts of an event in their order: a code for each part makes one of the event, over longwords or rows.
-- Assumes nothing.
use Prim.Native.Nat.{ℕ}
use mathlib.Core.Path.{◌≡◌, refl, ap}
use mathlib.Core.Bool.{Bool, true, false}
use mathlib.Core.List.{List, [], ◌∷◌, ◌++◌, append_assoc}
use mathlib.Core.Option.{Option}
use lib.Dec.{T}
use Rattle.event.specs.Parser.{Parser, Passed, optionally, many, Goods, each, if_any}
use Rattle.event.proofs.Codes.{Codes, any, At, same}
use Rattle.event.proofs.Sequences.{codes_bind, codes_bind_at, codes_map, codes_optionally}
use Rattle.event.proofs.Many.{codes_many}
use Rattle.event.proofs.Ends.{Ends, ends_bind, ends_map, ends_many}
use Rattle.event.proofs.Elements.{prints_each}
use Rattle.frs_layout.specs.Event.{Stamp, PatternUnit, Value, Module, empty, with_data, Event}
use Rattle.frs_layout.specs.Layout.{stamp_checks, pattern_checks, geos, ValidScalers, ValidModule, Formed}
use Rattle.frs_layout.specs.Reading.{event_of}

abbrev pub values_of : Module → List Value
values_of (empty g) = []
values_of (with_data g vs c) = vs

module _ {E : Type 0} {stamp : Parser E Stamp} {scaler : Parser E (List ℕ)} {pattern_unit : Parser E PatternUnit} {one_module : List ℕ → Parser E Module}
    {stampP : Stamp → List E} {scalerP : List ℕ → List E} {patternP : PatternUnit → List E} {moduleP : Module → List E}
    (c-stamp : Codes any stamp stampP (λ s. Passed (stamp_checks 0 s))) (c-scaler : Codes any scaler scalerP ValidScalers)
    (c-pattern : Codes any pattern_unit patternP (λ p. Passed (pattern_checks 0 p)))
    (c-module : (seen : List ℕ) → Codes any (one_module seen) moduleP (ValidModule seen))
    (at_pattern stop : List E → Bool)
    -- the stop holds at the end and not at a module; the input looks like a pattern unit at one, and not at a module or the stop
    (halt : stop [] ≡ true) (on : (seen : List ℕ) (m : Module) → ValidModule seen m → (r : List E) → stop (moduleP m ++ r) ≡ false)
    (here : (p : PatternUnit) → Passed (pattern_checks 0 p) → (r : List E) → at_pattern (patternP p ++ r) ≡ true)
    (no_module : (seen : List ℕ) (m : Module) → ValidModule seen m → (r : List E) → at_pattern (moduleP m ++ r) ≡ false)
    (no_stop : (r : List E) → T (stop r) → at_pattern r ≡ false) where
  codes_modules : Codes (At stop) (many one_module geos stop []) (each moduleP) (Goods ValidModule geos [])
  codes_modules = same (codes_many geos c-module stop on halt []) (λ ms g. g) (λ ms g. g) (λ ms g. prints_each moduleP geos [] ms)

  follows : (ms : List Module) → Goods ValidModule geos [] ms → (r : List E) → T (stop r) → at_pattern (each moduleP ms ++ r) ≡ false
  follows [] g r t = no_stop r t
  follows (m ∷ ms) g r t = simp append_assoc (no_module [] m g.0 (each moduleP ms ++ r))

  pub codes_event : Codes (At stop) (event_of stamp scaler (optionally at_pattern pattern_unit) (many one_module geos stop []))
      (λ e. stampP e.stamp ++ (scalerP e.scalers ++ (if_any patternP e.pattern ++ each moduleP e.modules))) Formed
  codes_event = same
      (codes_bind (λ e. e.stamp) c-stamp (λ s g. codes_bind (λ e. e.scalers) c-scaler (λ vs g.
      codes_bind_at (λ e. e.pattern) (codes_optionally at_pattern c-pattern here) (λ o g. codes_map _ (λ e. e.modules) codes_modules (λ ms. refl))
      (λ o e g. ap (λ (x : Event). x.pattern) g.1) (λ e g r t. follows e.modules g.0 r t))
      (λ vs e g. ap (λ (x : Event). x.scalers) g.1.1))
      (λ s e g. ap (λ (x : Event). x.stamp) g.1.1.1))
      (λ e g. record { stamp = g.0; scalers = g.1.0; pattern = g.1.1.0; modules = g.1.1.1.0 })
      (λ e g. (g.stamp, (g.scalers, (g.pattern, (g.modules, refl)))))
      (λ e g. refl)

pub ends_event : {E : Type 0} (stamp : Parser E Stamp) (scaler : Parser E (List ℕ)) (pattern : Parser E (Option PatternUnit)) (one_module : List ℕ → Parser E Module) (stop : List E → Bool)
    → Ends stop (event_of stamp scaler pattern (many one_module geos stop []))
ends_event stamp scaler pattern one_module stop = ends_bind stop stamp _ (λ s. ends_bind stop scaler _ (λ vs. ends_bind stop pattern _ (λ o.
    ends_map stop (many one_module geos stop []) _ (ends_many stop one_module geos []))))
