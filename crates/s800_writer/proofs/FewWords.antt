-- A row gives at most four words, over a whole packet: so no count of words wraps.
-- Assumes nothing.
use Prim.Native.Nat.{ℕ, ◌+◌, ◌*◌, ◌≤◌}
use native.Mathlib.Omega.{arith}
use mathlib.Core.Path.{◌≡◌, sym, ◌∙◌}
use mathlib.Core.List.{List, [], ◌∷◌, map}
use lib.ListN.{length, length-append, length-map}
use Rattle.event.specs.declared.Row.{Row}
use Rattle.event.specs.Parser.{each}
use Rattle.event.specs.Rows.{row}
use Rattle.s800_layout.specs.Event.{energies, hits, Form, trigger, time_of_flight, scintillator, ion_chamber, crdc, hodoscope, object_pin, vme_adc, opaque, Content, Packet}
use Rattle.s800_layout.specs.Event.{samples_tag, anode_tag, trigger_time, flight_time, energy16, adc_energy}
use Rattle.s800_layout.specs.Layout.{framed, datum_word, datum_row, hodoscope_base, adc_base, samples_words, group_rows, anode_words, anode_row, content_words, content_rows, packet_words, packet_rows}
use Rattle.s800_layout.proofs.RowCount.{pair_count, group_count}

as_many : {A : Type 0} (f : A → ℕ) (g : A → Row) (xs : List A) → length (map f xs) ≡ length (map g xs)
as_many f g xs = length-map xs f ∙ sym (length-map xs g)

-- the words after the length and the tag, and the rows after the packet's own
content_few : (f : Form) (c : Content f) → length (content_words f c) ≤ 2 + 4 * length (content_rows f c)
content_few trigger c = omega (arith, as_many (datum_word trigger_time) (datum_row 5 0) c.times)
content_few time_of_flight xs = omega (arith, as_many (datum_word flight_time) (datum_row 5 0) xs)
content_few scintillator xs = omega (arith, pair_count xs)
content_few ion_chamber xs = omega (arith, as_many (datum_word energy16) (datum_row 6 0) xs)
content_few crdc c =
    let s = c.samples in
    let words = length-append (framed samples_tag (samples_words s)) (framed anode_tag (anode_words c.anode)) in
    let rows = length-append (each group_rows s.groups) (anode_row c.anode ∷ []) in
    omega (arith, group_count s.groups)
content_few hodoscope (energies id xs) = omega (arith, as_many (datum_word energy16) (datum_row 6 (hodoscope_base id)) xs)
content_few hodoscope (hits h) = omega arith
content_few object_pin d = omega arith
content_few vme_adc c = omega (arith, as_many (datum_word adc_energy) (datum_row 6 (adc_base c.id)) c.energies)
content_few (opaque k) ws = omega (arith, length-map ws (row 11 0 0))

pub few_words : (q : Packet) → length (packet_words q) ≤ 4 * length (packet_rows q)
few_words q = omega (arith, content_few q.form q.content)
