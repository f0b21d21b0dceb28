-- Dialect S: the words and the rows of an event, and the rules that a valid one keeps (documents 01 and 02).
-- Assumes nothing.
use Rattle.std.specs.Prelude.{ℕ, suc, ◌+◌, ◌*◌, ◌/◌, ◌^◌, Bool, not, List, [], ◌∷◌, ◌++◌, map, T, ltb, leb, length}
use Rattle.event.specs.declared.Row.{Row}
use Rattle.event.specs.declared.StampOrder.{StampOrder}
use Rattle.event.specs.declared.StampOrder.TheVariants.{Crossed, Rising}
use Rattle.event.specs.Parser.{Test, test, Passed, Goods, All, each, ended, fresh, member}
use Rattle.event.specs.Words.{halves, below_checks}
use Rattle.event.specs.Rows.{row}
use Rattle.event.specs.Demands.{Sized}
use Rattle.s800_layout.specs.Event.{Datum, Pair, SampleHead, SampleDatum, Group, Samples, Anode, Registers, energies, hits, Form, trigger, time_of_flight, scintillator}
use Rattle.s800_layout.specs.Event.{ion_chamber, crdc, hodoscope, object_pin, vme_adc, opaque, Content, Packet, Run, end, plain, Stamp, Number, Event, event_tag, stamp_tag}
use Rattle.s800_layout.specs.Event.{number_tag, energies_tag, samples_tag, anode_tag, tag, hits_id, largest_id, id_of, pattern_bound, ChannelFormat, trigger_time, flight_time}
use Rattle.s800_layout.specs.Event.{pair_energy, energy16, adc_energy}

-- Words.

-- a length word counts itself, its tag and all below it
abbrev pub framed : ℕ → List ℕ → List ℕ
framed t content = (2 + length content) ∷ t ∷ content

abbrev pub channel_word : ChannelFormat → ℕ → ℕ → ℕ
channel_word f c v = c * 2 ^ f.bits + v

abbrev pub datum_word : ChannelFormat → Datum → ℕ
datum_word f d = channel_word f d.channel d.value

abbrev pub pair_words : Pair → List ℕ
pair_words x = datum_word pair_energy x.energy ∷ channel_word pair_energy x.energy.channel x.time ∷ []

-- a head: bit 15 set, sample in bits 14-6, channel in bits 5-0
abbrev pub sample_head_word : SampleHead → ℕ
sample_head_word h = 2 ^ 15 + h.sample * 2 ^ 6 + h.channel

-- a data word: bits 15-12 zero, connector in bits 11-10, energy in bits 9-0
abbrev pub sample_datum_word : SampleDatum → ℕ
sample_datum_word d = d.connector * 2 ^ 10 + d.energy

abbrev pub group_words : Group → List ℕ
group_words g = sample_head_word g.head ∷ map sample_datum_word g.energies

abbrev pub samples_words : Samples → List ℕ
samples_words s = s.threshold ∷ each group_words s.groups

abbrev pub anode_words : Anode → List ℕ
anode_words a = a.energy ∷ a.time ∷ []

abbrev pub register_words : Registers → List ℕ
register_words h = h.a ∷ h.b ∷ h.time ∷ []

-- the words after the tag
abbrev pub content_words : (f : Form) → Content f → List ℕ
content_words trigger c = c.pattern ∷ map (datum_word trigger_time) c.times
content_words time_of_flight xs = map (datum_word flight_time) xs
content_words scintillator xs = each pair_words xs
content_words ion_chamber xs = framed energies_tag (map (datum_word energy16) xs)
content_words crdc c = c.id ∷ (framed samples_tag (samples_words c.samples) ++ framed anode_tag (anode_words c.anode))
content_words hodoscope (energies id xs) = id ∷ map (datum_word energy16) xs
content_words hodoscope (hits h) = hits_id ∷ register_words h
content_words object_pin d = datum_word energy16 d ∷ []
content_words vme_adc c = c.id ∷ map (datum_word adc_energy) c.energies
content_words (opaque k) ws = ws

abbrev pub packet_words : Packet → List ℕ
packet_words q = framed (tag q.form) (content_words q.form q.content)

abbrev pub run_words : Run → List ℕ
run_words end = []
run_words (plain q r) = packet_words q ++ run_words r

abbrev pub stamp_words : Stamp → List ℕ
stamp_words s = s.chunk0 ∷ s.chunk1 ∷ s.chunk2 ∷ s.chunk3 ∷ []

-- bits 15-0, 31-16, 47-32
abbrev pub number_words : Number → List ℕ
number_words k = k.chunk0 ∷ k.chunk1 ∷ k.chunk2 ∷ []

-- the packets: 0x5803 first, 0x5804 second, then the others
abbrev pub packets_words : Event → List ℕ
packets_words e = framed stamp_tag (stamp_words e.stamp) ++ (framed number_tag (number_words e.number) ++ run_words e.run)

abbrev pub version : ℕ
version = 5

abbrev pub words : Event → List ℕ
words e = framed event_tag (version ∷ packets_words e)

-- Rows.

-- the chunks lowest first. Crossed, they stand as bits 15-0, 47-32, 31-16, 63-48. (Its own inverse.)
abbrev pub lowest_first : StampOrder → Stamp → Stamp
lowest_first Crossed s = record { chunk0 = s.chunk0; chunk1 = s.chunk2; chunk2 = s.chunk1; chunk3 = s.chunk3 }
lowest_first Rising s = s

-- a packet's own row
abbrev pub packet_row : (tag id : ℕ) → Row
packet_row t id = row 1 t id 0

abbrev pub stamp_row : StampOrder → Stamp → Row
stamp_row o s = row 2 0 (halves (lowest_first o s).chunk3 (lowest_first o s).chunk2) (halves (lowest_first o s).chunk1 (lowest_first o s).chunk0)

abbrev pub number_row : Number → Row
number_row k = row 3 0 k.chunk2 (halves k.chunk1 k.chunk0)

-- a time (kind 5) or an energy (kind 6); `base` is the row channel of channel 0
abbrev pub datum_row : ℕ → ℕ → Datum → Row
datum_row kind base d = row kind 0 (base + d.channel) d.value

-- of a hodoscope's energies, and of a VME ADC's
abbrev pub hodoscope_base : (id : ℕ) → ℕ
hodoscope_base id = 16 * id

abbrev pub adc_base : (id : ℕ) → ℕ
adc_base id = 8 * id

abbrev pub pair_rows : Pair → List Row
pair_rows x = datum_row 6 0 x.energy ∷ row 5 0 x.energy.channel x.time ∷ []

abbrev pub pad : (channel connector : ℕ) → ℕ
pad channel connector = channel + 64 * connector

-- the connector of a pad
abbrev pub pad_connector : ℕ → ℕ
pad_connector p = p / 64

abbrev pub sample_head_row : SampleHead → Row
sample_head_row h = row 8 h.sample h.channel 0

abbrev pub sample_datum_row : SampleHead → SampleDatum → Row
sample_datum_row h d = row 12 h.sample (pad h.channel d.connector) d.energy

abbrev pub group_rows : Group → List Row
group_rows g = sample_head_row g.head ∷ map (sample_datum_row g.head) g.energies

abbrev pub anode_row : Anode → Row
anode_row a = row 9 0 a.energy a.time

abbrev pub register_row : Registers → Row
register_row h = row 10 h.a h.b h.time

abbrev pub content_rows : (f : Form) → Content f → List Row
content_rows trigger c = row 4 0 0 c.pattern ∷ map (datum_row 5 0) c.times
content_rows time_of_flight xs = map (datum_row 5 0) xs
content_rows scintillator xs = each pair_rows xs
content_rows ion_chamber xs = map (datum_row 6 0) xs
content_rows crdc c = row 7 0 0 c.samples.threshold ∷ (each group_rows c.samples.groups ++ (anode_row c.anode ∷ []))
content_rows hodoscope (energies id xs) = map (datum_row 6 (hodoscope_base id)) xs
content_rows hodoscope (hits h) = register_row h ∷ []
content_rows object_pin d = datum_row 6 0 d ∷ []
content_rows vme_adc c = map (datum_row 6 (adc_base c.id)) c.energies
content_rows (opaque k) ws = map (row 11 0 0) ws

abbrev pub packet_rows : Packet → List Row
packet_rows q = packet_row (tag q.form) (id_of q.form q.content) ∷ content_rows q.form q.content

abbrev pub run_rows : Run → List Row
run_rows end = []
run_rows (plain q r) = packet_rows q ++ run_rows r

abbrev pub rows : StampOrder → Event → List Row
rows o e = packet_row stamp_tag 0 ∷ stamp_row o e.stamp ∷ packet_row number_tag 0 ∷ number_row e.number ∷ run_rows e.run

-- Rules. `n` is the refusal number of a field out of range, or of a connector that does not rise, `m` that of a repeated channel.

abbrev pub stamp_checks : ℕ → Stamp → List Test
stamp_checks n s = test n (ltb s.chunk0 (2 ^ 16)) ∷ test n (ltb s.chunk1 (2 ^ 16)) ∷ test n (ltb s.chunk2 (2 ^ 16)) ∷ test n (ltb s.chunk3 (2 ^ 16)) ∷ []

abbrev pub number_checks : ℕ → Number → List Test
number_checks n k = test n (ltb k.chunk0 (2 ^ 16)) ∷ test n (ltb k.chunk1 (2 ^ 16)) ∷ test n (ltb k.chunk2 (2 ^ 16)) ∷ []

abbrev pub id_checks : ℕ → Form → ℕ → List Test
id_checks n f id = test n (leb id (largest_id f)) ∷ []

abbrev pub datum_checks : ℕ → ℕ → ChannelFormat → List ℕ → Datum → List Test
datum_checks n m f seen d = test n (member d.channel f.allowed) ∷ test n (ltb d.value (2 ^ f.bits)) ∷ test m (fresh d.channel seen) ∷ []

abbrev pub sample_head_checks : ℕ → SampleHead → List Test
sample_head_checks n h = test n (ltb h.sample (2 ^ 9)) ∷ test n (ltb h.channel (2 ^ 6)) ∷ []

-- the connectors of a group rise: the state `least` is one more than the connector before, 0 at first
abbrev pub sample_datum_checks : ℕ → (least : ℕ) → SampleDatum → List Test
sample_datum_checks n least d = test n (ltb d.connector (2 ^ 2)) ∷ test n (ltb d.energy (2 ^ 10)) ∷ test n (leb least d.connector) ∷ []

abbrev pub above : ℕ → SampleDatum → ℕ
above least d = suc d.connector

abbrev pub ValidSampleDatum : ℕ → SampleDatum → Type 0
ValidSampleDatum least d = Passed (sample_datum_checks 0 least d)

-- one data word at least (that there are at most four follows: proofs/Groups)
abbrev pub has_data : Group → Bool
has_data g = not (ended g.energies)

abbrev pub ValidGroup : Group → Type 0
ValidGroup g = Passed (sample_head_checks 0 g.head) × Goods ValidSampleDatum above 0 g.energies × T (has_data g)

abbrev pub anode_checks : ℕ → Anode → List Test
anode_checks n a = test n (ltb a.energy (2 ^ 16)) ∷ test n (ltb a.time (2 ^ 16)) ∷ []

abbrev pub register_checks : ℕ → Registers → List Test
register_checks n h = test n (ltb h.a (2 ^ 16)) ∷ test n (ltb h.b (2 ^ 16)) ∷ test n (ltb h.time (2 ^ 16)) ∷ []

-- no channel twice among the energies, or the times, of a packet: the channels before are the state
abbrev pub channels : List ℕ → Datum → List ℕ
channels seen d = d.channel ∷ seen

abbrev pub pair_channels : List ℕ → Pair → List ℕ
pair_channels seen x = x.energy.channel ∷ seen

abbrev pub ValidDatum : ChannelFormat → List ℕ → Datum → Type 0
ValidDatum f seen d = Passed (datum_checks 0 0 f seen d)

abbrev pub ValidData : ChannelFormat → List Datum → Type 0
ValidData f xs = Goods (ValidDatum f) channels [] xs

abbrev pub ValidPair : List ℕ → Pair → Type 0
ValidPair seen x = ValidDatum pair_energy seen x.energy × Passed (below_checks 0 (2 ^ pair_energy.bits) x.time)

abbrev pub ValidContent : (f : Form) → Content f → Type 0
ValidContent trigger c = Passed (below_checks 0 pattern_bound c.pattern) × ValidData trigger_time c.times
ValidContent time_of_flight xs = ValidData flight_time xs
ValidContent scintillator xs = Goods ValidPair pair_channels [] xs
ValidContent ion_chamber xs = ValidData energy16 xs
ValidContent crdc c =
    Passed (id_checks 0 crdc c.id) × Passed (below_checks 0 (2 ^ 16) c.samples.threshold) ×
    All ValidGroup c.samples.groups × Passed (anode_checks 0 c.anode)
ValidContent hodoscope (energies id xs) = T (ltb id hits_id) × ValidData energy16 xs
ValidContent hodoscope (hits h) = Passed (register_checks 0 h)
ValidContent object_pin d = ValidDatum energy16 [] d
ValidContent vme_adc c = Passed (id_checks 0 vme_adc c.id) × ValidData adc_energy c.energies
ValidContent (opaque k) ws = All (λ w. Passed (below_checks 0 (2 ^ 16) w)) ws

abbrev pub ValidRun : Run → Type 0
ValidRun end = Unit {0}
ValidRun (plain q r) = ValidContent q.form q.content × ValidRun r

-- an event has 14 to 4,096 words (that it has 14 follows from its first two packets)
abbrev pub smallest_event : ℕ
smallest_event = 14

abbrev pub largest_event : ℕ
largest_event = 4096

-- Every rule but the number of words. (That each packet's length is one its tag allows follows: proofs/Lengths.)
pub record Formed (e : Event) : Type 0 where
  pub stamp : Passed (stamp_checks 0 e.stamp)
  pub number : Passed (number_checks 0 e.number)
  pub run : ValidRun e.run

abbrev pub Valid : Event → Type 0
Valid = Sized Formed words largest_event
