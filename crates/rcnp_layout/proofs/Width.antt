-- Every word of a valid event fits 16 bits.
-- Assumes nothing.
use Prim.Native.Nat.{◌^◌}
use native.Mathlib.Omega.{arith}
use mathlib.Core.Bool.{Bool}
use mathlib.Core.List.{[], ◌∷◌}
use lib.Dec.{ltb, ltb→lt, lt→ltb}
use Rattle.event.specs.Parser.{alone}
use Rattle.event.specs.Demands.{InWidth}
use Rattle.event.proofs.Elements.{both, all_goods}
use Rattle.event.proofs.Width.{Narrow, Fit, known, word, joined, wholes, items, item_words}
use Rattle.rcnp_layout.specs.Event.{VdcWord, head, datum, Form, input_register, scaler, vdc, opaque, Content, Region, Event, id_of}
use Rattle.rcnp_layout.specs.Layout.{header_word, scaler_words, vdc_word, content_words, size_of, region_words, sum_words, words, begins, ValidVdc, ValidContent, ValidRegion, Valid}
use Rattle.rcnp_layout.proofs.Sizes.{id_fits}

ruleset tests = (arith, ltb→lt, lt→ltb)

vdc_fits_lem : (begun : Bool) (x : VdcWord) → ValidVdc begun x → Narrow 16 (vdc_word x)
vdc_fits_lem begun (head moduleId eventNumber mode) p =
    let h = both (ltb moduleId (2 ^ 8)) _ p.0 in
    let k = both (ltb eventNumber (2 ^ 3)) _ h.1 in
    omega tests
vdc_fits_lem begun (datum channel time) p =
    let h = both begun _ p.0 in
    let k = both (ltb channel (2 ^ 5)) _ h.1 in
    omega tests

content_fits : (f : Form) (c : Content f) → ValidContent f c → Fit 16 (content_words f c)
content_fits input_register w v = known (w ∷ []) v
content_fits scaler vs v = items alone scaler_words (λ u x p. known _ (omega tests)) tt vs (all_goods _ alone tt vs v)
content_fits vdc xs v = item_words begins vdc_word vdc_fits_lem _ xs v
content_fits (opaque k) ws v = wholes ws v

region_fits : (g : Region) → ValidRegion g → Fit 16 (region_words g)
region_fits g v = word (header_word (id_of g.form) (size_of g)) (omega (tests, id_fits g.form)) (content_fits g.form g.content v.1)

pub words_fit : (e : Event) → Valid e → InWidth 16 (words e)
words_fit e v =
    let f = v.formed in
    (joined (items alone region_words (λ u. region_fits) tt e.regions (all_goods _ alone tt e.regions f.regions)) (known (sum_words e.sum) (tt, f.word))).fit (omega arith)
