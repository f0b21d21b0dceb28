-- What follows from the tables: a tag names one form, and a valid content has a length that its tag allows.
-- Assumes nothing.
use Prim.Native.Nat.{ℕ, ◌+◌, ◌%◌, ◌≤◌}
use native.Mathlib.Omega.{arith}
use mathlib.Core.Path.{◌≡◌, refl}
use mathlib.Core.Bool.{Bool, ◌&&◌}
use mathlib.Core.List.{List, [], map}
use lib.Dec.{T}
use lib.ListN.{length, length-append, length-map}
use borrow.Author.Tests.{eq-eqb, le-leb}
use Rattle.event.specs.Parser.{each}
use Rattle.event.proofs.Elements.{in_between, each_length}
use Rattle.event.proofs.Keys.{unused, at_most}
use Rattle.s800_layout.specs.Event.{Datum, Pair, energies, hits, focal_plane_time, intermediate_crdc, target_pin, intermediate_track, intermediate_ppac, object_scintillator, Form}
use Rattle.s800_layout.specs.Event.{trigger, time_of_flight, scintillator, ion_chamber, crdc, hodoscope, object_pin, vme_adc, opaque, Content, samples_tag, anode_tag, tag, form_of}
use Rattle.s800_layout.specs.Event.{ChannelFormat, trigger_time, flight_time, pair_energy, energy16, adc_energy}
use Rattle.s800_layout.specs.Layout.{framed, datum_word, pair_words, samples_words, anode_words, content_words, ValidDatum, ValidData, ValidPair, ValidContent}
use Rattle.s800_layout.specs.Reading.{even, allowed_length}

pub form_back : (f : Form) → form_of (tag f) ≡ f
form_back trigger = refl
form_back time_of_flight = refl
form_back scintillator = refl
form_back ion_chamber = refl
form_back crdc = refl
form_back hodoscope = refl
form_back object_pin = refl
form_back vme_adc = refl
form_back (opaque focal_plane_time) = refl
form_back (opaque intermediate_crdc) = refl
form_back (opaque target_pin) = refl
form_back (opaque intermediate_track) = refl
form_back (opaque intermediate_ppac) = refl
form_back (opaque object_scintillator) = refl

-- at most as many words as channels
pub few : (f : ChannelFormat) (xs : List Datum) → ValidData f xs → length (map (datum_word f) xs) ≤ unused f.allowed []
few f xs v = rw (length-map xs (datum_word f)) (at_most (λ (d : Datum). d.channel) f.allowed (ValidDatum f) (λ seen d g. (g.0, g.1.1.0)) [] xs v)

is_even : (n : ℕ) (b : Bool) → n % 2 ≡ 0 → T b → T (even n && b)
is_even n b e t = rw (eq-eqb (n % 2) 0 e) t

abbrev size : (f : Form) → Content f → ℕ
size f c = 2 + length (content_words f c)

pub length_allowed : (f : Form) (c : Content f) → ValidContent f c → T (allowed_length f (2 + length (content_words f c)))
length_allowed trigger c v = in_between 3 7 (size trigger c) (omega arith) (omega (arith, few trigger_time c.times v.1))
length_allowed time_of_flight xs v = in_between 2 10 (size time_of_flight xs) (omega arith) (omega (arith, few flight_time xs v))
length_allowed scintillator xs v =
    let h = each_length pair_words 2 (λ x. refl) xs in
    let m = at_most (λ (x : Pair). x.energy.channel) pair_energy.allowed ValidPair (λ seen x g. (g.0.0, g.0.1.1.0)) [] xs v in
    is_even (2 + length (each pair_words xs)) _ (omega (arith, h)) (in_between 2 14 (size scintillator xs) (omega arith) (omega (arith, h, m)))
length_allowed ion_chamber xs v = in_between 4 20 (size ion_chamber xs) (omega arith) (omega (arith, few energy16 xs v))
length_allowed crdc c v =
    let k = length-append (framed samples_tag (samples_words c.samples)) (framed anode_tag (anode_words c.anode)) in
    rw (le-leb 10 (2 + length (content_words crdc c)) (omega (arith, k))) tt
length_allowed hodoscope (energies id xs) v = in_between 3 19 (size hodoscope (energies id xs)) (omega arith) (omega (arith, few energy16 xs v.1))
length_allowed hodoscope (hits h) v = tt
length_allowed object_pin d v = tt
length_allowed vme_adc c v = in_between 3 11 (size vme_adc c) (omega arith) (omega (arith, few adc_energy c.energies v.1))
length_allowed (opaque k) ws v = rw (le-leb 2 (2 + length ws) (omega arith)) tt
