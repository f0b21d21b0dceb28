-- Every longword of a valid event fits 32 bits.
-- Assumes nothing.
use Prim.Native.Nat.{ℕ}
use native.Mathlib.Omega.{arith}
use mathlib.Core.List.{List, [], ◌∷◌}
use mathlib.Core.Option.{Option, some, none}
use lib.Dec.{ltb→lt, lt→ltb, leb→le}
use lib.ListN.{length}
use Rattle.event.specs.Parser.{Passed, if_any, IfAny}
use Rattle.event.specs.Demands.{InWidth}
use Rattle.event.proofs.Width.{Fit, known, word, joined, wholes, items, item_words}
use Rattle.frs_layout.specs.Event.{PatternUnit, Module, empty, with_data, Event, scaler_geo, scaler_end}
use Rattle.frs_layout.specs.Layout.{value_word, stamp_words, scaler_words, pattern_words, module_words, words, pattern_checks, channels, geos, ValidScalers, ValidModule, Valid, header_word, footer_word}

ruleset tests = (arith, ltb→lt, leb→le, lt→ltb)

scalers_fit : (vs : List ℕ) → ValidScalers vs → Fit 32 (scaler_words vs)
scalers_fit vs v = word (header_word scaler_geo (length vs)) (omega tests) (joined (wholes vs v.1) (known (scaler_end ∷ []) (tt, tt)))

pattern_fits : (o : Option PatternUnit) → IfAny (λ p. Passed (pattern_checks 0 p)) o → Fit 32 (if_any pattern_words o)
pattern_fits none v = known [] tt
pattern_fits (some p) v = known (pattern_words p) (omega tests)

module_fits : (seen : List ℕ) (m : Module) → ValidModule seen m → Fit 32 (module_words m)
module_fits seen (empty g) v = known (module_words (empty g)) (omega tests)
module_fits seen (with_data g vs c) v = word (header_word g (length vs)) (omega tests)
    (joined (item_words channels (value_word g) (λ seen x p. omega tests) [] vs v.1.1) (known (footer_word g c ∷ []) (omega tests)))

pub words_fit : (e : Event) → Valid e → InWidth 32 (words e)
words_fit e v =
    let f = v.formed in
    (joined (known (stamp_words e.stamp) (omega tests)) (joined (scalers_fit e.scalers f.scalers) (joined (pattern_fits e.pattern f.pattern)
    (items geos module_words module_fits [] e.modules f.modules)))).fit (omega arith)
