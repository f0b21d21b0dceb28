-- An event has no more rows than longwords. The layout alone shows it: no rule is needed.
-- Assumes nothing.
use Prim.Native.Nat.{ℕ, suc, ◌≤◌}
use native.Mathlib.Omega.{arith}
use mathlib.Core.Path.{◌≡◌, refl, ap}
use mathlib.Core.List.{List, [], ◌∷◌}
use mathlib.Core.Option.{Option, none, some}
use lib.ListN.{length, length-append, length-map}
use Rattle.event.specs.Parser.{if_any}
use Rattle.event.proofs.Elements.{each_shorter}
use Rattle.frs_layout.specs.Event.{PatternUnit, Module, empty, with_data, Event}
use Rattle.frs_layout.specs.Layout.{pattern_words, module_words, words, scaler_rows_from, pattern_rows, module_rows, rows}

pub scaler_count : (i : ℕ) (vs : List ℕ) → length (scaler_rows_from i vs) ≡ length vs
scaler_count i [] = refl
scaler_count i (v ∷ vs) = ap suc (scaler_count (suc i) vs)

in_pattern : (p : Option PatternUnit) → length (if_any pattern_rows p) ≤ length (if_any pattern_words p)
in_pattern none = omega arith
in_pattern (some p) = omega arith

in_module : (m : Module) → length (module_rows m) ≤ length (module_words m)
in_module (empty geo) = omega arith
in_module (with_data geo vs counter) = simp (length-append, length-map) (omega arith)

pub no_more_rows : (e : Event) → length (rows e) ≤ length (words e)
no_more_rows e = simp (length-append, scaler_count) (omega (arith, in_pattern e.pattern, each_shorter module_rows module_words in_module e.modules))
