-- Every word of a valid event fits 16 bits.
-- Assumes nothing.
use Prim.Native.Nat.{ℕ, suc, ◌*◌, ◌^◌, ◌≤◌}
use native.Mathlib.Omega.{arith}
use mathlib.Core.Path.{◌≡◌, refl}
use mathlib.Core.Bool.{Bool, true, false, ◌||◌}
use mathlib.Core.List.{List, [], ◌∷◌, map}
use lib.Dec.{T, ltb, eqb, ltb→lt, lt→ltb, leb→le}
use borrow.Author.Tests.{eqb-true}
use Rattle.event.specs.Parser.{All, member, alone}
use Rattle.event.specs.Demands.{InWidth}
use Rattle.event.proofs.Elements.{all_goods}
use Rattle.event.proofs.Width.{Narrow, Fit, known, word, joined, wholes, items, item_words}
use Rattle.s800_layout.specs.Event.{Datum, Pair, energies, hits, Opaque, focal_plane_time, intermediate_crdc, target_pin, intermediate_track, intermediate_ppac, object_scintillator}
use Rattle.s800_layout.specs.Event.{Form, trigger, time_of_flight, scintillator, ion_chamber, crdc, hodoscope, object_pin, vme_adc, opaque, Content, Run, end, plain, Event}
use Rattle.s800_layout.specs.Event.{event_tag, stamp_tag, number_tag, energies_tag, samples_tag, anode_tag, tag, ChannelFormat, trigger_time, flight_time, pair_energy, energy16}
use Rattle.s800_layout.specs.Event.{adc_energy, SampleDatum, Group}
use Rattle.s800_layout.specs.Layout.{framed, channel_word, datum_word, pair_words, anode_words, register_words, content_words, run_words, stamp_words, number_words, version, words}
use Rattle.s800_layout.specs.Layout.{channels, pair_channels, ValidDatum, ValidData, ValidPair, ValidContent, ValidRun, Valid, sample_head_word, sample_datum_word, group_words}
use Rattle.s800_layout.specs.Layout.{above, ValidSampleDatum, ValidGroup}

ruleset tests = (arith, ltb→lt, leb→le, lt→ltb)

all_member : (P : ℕ → Type 0) (xs : List ℕ) → All P xs → (k : ℕ) → T (member k xs) → P k
all_member P [] a k m = absurd m
all_member P (x ∷ xs) a k m = go (all_member P xs a.1 k) (eqb k x) refl m
  where
    go : (T (member k xs) → P k) → (b : Bool) → eqb k x ≡ b → T (b || member k xs) → P k
    go rest true e t = rw (eqb-true k x e) a.0
    go rest false e t = rest t

frame : {ws : List ℕ} (t : ℕ) → Narrow 16 t → Fit 16 ws → Fit 16 (framed t ws)
frame t a f = record { fit = λ n. (omega tests, (a, f.fit (omega arith))) }

-- a word with an allowed channel and any value stays within 16 bits
abbrev Roomy : ChannelFormat → Type 0
Roomy f = All (λ c. suc c * 2 ^ f.bits ≤ 2 ^ 16) f.allowed

channel_fits : (f : ChannelFormat) → Roomy f → (c v : ℕ) → T (member c f.allowed) → T (ltb v (2 ^ f.bits)) → Narrow 16 (channel_word f c v)
channel_fits f r c v m b = omega (tests, all_member _ f.allowed r c m)

datum_fits : (f : ChannelFormat) → Roomy f → (seen : List ℕ) (d : Datum) → ValidDatum f seen d → Narrow 16 (datum_word f d)
datum_fits f r seen d v = channel_fits f r d.channel d.value v.0 v.1.0

data_fit : (f : ChannelFormat) → Roomy f → (xs : List Datum) → ValidData f xs → Fit 16 (map (datum_word f) xs)
data_fit f r = item_words channels (datum_word f) (datum_fits f r) []

pair_fits : (seen : List ℕ) (x : Pair) → ValidPair seen x → Fit 16 (pair_words x)
pair_fits seen x v =
    let fits = channel_fits pair_energy (omega arith) x.energy.channel in
    known _ (fits x.energy.value v.0.0 v.0.1.0, (fits x.time v.0.0 v.1.0, tt))

sample_datum_fits : (least : ℕ) (d : SampleDatum) → ValidSampleDatum least d → Narrow 16 (sample_datum_word d)
sample_datum_fits least d v = omega tests

group_fits : (g : Group) → ValidGroup g → Fit 16 (group_words g)
group_fits g v = word (sample_head_word g.head) (omega tests) (item_words above sample_datum_word sample_datum_fits 0 g.energies v.1)

tag_fits : (k : Opaque) → Narrow 16 (tag (opaque k))
tag_fits focal_plane_time = tt
tag_fits intermediate_crdc = tt
tag_fits target_pin = tt
tag_fits intermediate_track = tt
tag_fits intermediate_ppac = tt
tag_fits object_scintillator = tt

packet_fits : (f : Form) (c : Content f) → ValidContent f c → Fit 16 (framed (tag f) (content_words f c))
packet_fits trigger c v = frame (tag trigger) tt (word c.pattern (omega tests) (data_fit trigger_time (omega arith) c.times v.1))
packet_fits time_of_flight xs v = frame (tag time_of_flight) tt (data_fit flight_time (omega arith) xs v)
packet_fits scintillator xs v = frame (tag scintillator) tt (items pair_channels pair_words pair_fits [] xs v)
packet_fits ion_chamber xs v = frame (tag ion_chamber) tt (frame energies_tag tt (data_fit energy16 (omega arith) xs v))
packet_fits crdc c v =
    let samples = items alone group_words (λ u. group_fits) tt c.samples.groups (all_goods _ alone tt c.samples.groups v.2) in
    frame (tag crdc) tt (word c.id (omega tests)
    (joined (frame samples_tag tt (word c.samples.threshold v.1.0 samples)) (frame anode_tag tt (known (anode_words c.anode) v.3))))
packet_fits hodoscope (energies id xs) v = frame (tag hodoscope) tt (word id (omega tests) (data_fit energy16 (omega arith) xs v.1))
packet_fits hodoscope (hits h) v = frame (tag hodoscope) tt (word 2 tt (known (register_words h) v))
packet_fits object_pin d v = frame (tag object_pin) tt (known (datum_word energy16 d ∷ []) (datum_fits energy16 (omega arith) [] d v, tt))
packet_fits vme_adc c v = frame (tag vme_adc) tt (word c.id (omega tests) (data_fit adc_energy (omega arith) c.energies v.1))
packet_fits (opaque k) ws v = frame (tag (opaque k)) (tag_fits k) (wholes ws v)

run_fits : (r : Run) → ValidRun r → Fit 16 (run_words r)
run_fits end v = known [] tt
run_fits (plain q r) v = joined (packet_fits q.form q.content v.0) (run_fits r v.1)

pub words_fit : (e : Event) → Valid e → InWidth 16 (words e)
words_fit e v =
    let stamp = frame stamp_tag tt (known (stamp_words e.stamp) v.formed.stamp) in
    let number = frame number_tag tt (known (number_words e.number) v.formed.number) in
    (frame event_tag tt (word version tt (joined stamp (joined number (run_fits e.run v.formed.run))))).fit (omega arith)
