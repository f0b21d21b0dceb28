-- Writing one event of dialect S from its rows: its words, or the first refusal and its place. Each line is a rule, in the order of documents 01 and 02.
-- (A row's parser has its kind, its fields and their rules, each with its number: 21 for a row that may not stand there and for rows that end, 22 for its fields. Some
-- tests never fail on 32-bit fields, and stand here because the same tables serve `Valid`: that a chunk of a stamp, or a low one of an event number, is below 2 ^ 16.)
-- Assumes nothing.
use Rattle.std.specs.Prelude.{ℕ, ◌-◌, ◌/◌, ◌%◌, ◌^◌, Bool, true, cond, ◌&&◌, not, List, [], ◌∷◌, eqb}
use Rattle.event.specs.declared.Row.{Row}
use Rattle.event.specs.declared.StampOrder.{StampOrder}
use Rattle.event.specs.Parser.{Parser, ended, ◌>>=◌, ◌>>◌, give, here, checked, many, several}
use Rattle.event.specs.Words.{below_checks}
use Rattle.event.specs.Rows.{row}
use Rattle.event.specs.Outcome.{Outcome}
use Rattle.event.specs.Writing.{row_with, of_kind, at_kind, writing_by}
use Rattle.s800_layout.specs.Event.{Datum, Pair, SampleHead, SampleDatum, Group, Samples, Anode, Registers, Hodoscope, energies, hits, Form, trigger, time_of_flight}
use Rattle.s800_layout.specs.Event.{scintillator, ion_chamber, crdc, hodoscope, object_pin, vme_adc, opaque, Content, Packet, Stamp, Number, Event, stamp_tag, number_tag, tag}
use Rattle.s800_layout.specs.Event.{form_of, hits_id, pattern_bound, ChannelFormat, trigger_time, flight_time, pair_energy, energy16, adc_energy}
use Rattle.s800_layout.specs.Layout.{words, lowest_first, packet_row, stamp_row, number_row, datum_row, hodoscope_base, adc_base, pad_connector, sample_head_row, sample_datum_row}
use Rattle.s800_layout.specs.Layout.{register_row, anode_row, largest_event, stamp_checks, number_checks, id_checks, datum_checks, sample_head_checks, sample_datum_checks, above}
use Rattle.s800_layout.specs.Layout.{has_data, anode_checks, register_checks, channels, pair_channels}
use Rattle.s800_layout.specs.Reading.{run_up_to, event_of}

-- a packet's own row, of kind 1, with the tag t
abbrev pub of_tag : ℕ → Row → Bool
of_tag t r = of_kind 1 r && eqb t r.unit

-- where the next packet's rows begin, and where the next event's do; or the rows end
abbrev pub at_packet : List Row → Bool
at_packet = at_kind 1

abbrev pub at_stamp : List Row → Bool
at_stamp [] = true
at_stamp (r ∷ rs) = of_tag stamp_tag r

-- a row of which only the datum is free
abbrev pub datum_below : (kind channel bound : ℕ) → Parser Row ℕ
datum_below kind channel bound = row_with (of_kind kind) (λ r. r.datum) (row kind 0 channel) (below_checks 22 bound)

-- a time (kind 5) or an energy (kind 6); `base` is the row channel of channel 0
abbrev pub datum_of : ℕ → Row → Datum
datum_of base r = record { channel = r.channel - base; value = r.datum }

abbrev pub datum : (kind base : ℕ) → ChannelFormat → List ℕ → Parser Row Datum
datum kind base f seen = row_with (of_kind kind) (datum_of base) (datum_row kind base) (datum_checks 22 22 f seen)

-- so many as stand before the next packet
abbrev pub channel_rows : (kind base : ℕ) → ChannelFormat → Parser Row (List Datum)
channel_rows kind base f = many (datum kind base f) channels at_packet []

-- an energy and a time, the channel the same in both
abbrev pub pair : List ℕ → Parser Row Pair
pair seen = do
  e ← datum 6 0 pair_energy seen
  t ← datum_below 5 e.channel (2 ^ pair_energy.bits)
  give (record { energy = e; time = t })

abbrev pub sample_head_of : Row → SampleHead
sample_head_of r = record { sample = r.unit; channel = r.channel }

abbrev pub sample_datum_of : Row → SampleDatum
sample_datum_of r = record { connector = pad_connector r.channel; energy = r.datum }

-- under its head: 22 also where its sample, or its pad's channel, is not the head's, or its connector is not above the one before
abbrev pub sample_datum : SampleHead → (least : ℕ) → Parser Row SampleDatum
sample_datum h least = row_with (of_kind 12) sample_datum_of (sample_datum_row h) (sample_datum_checks 22 least)

-- where a group's rows of kind 12 end
abbrev pub after_data : List Row → Bool
after_data [] = true
after_data (r ∷ rs) = not (of_kind 12 r)

-- a head; 21 at the row after it where that is none of kind 12
abbrev pub group : Parser Row Group
group = do
  h ← row_with (of_kind 8) sample_head_of sample_head_row (sample_head_checks 22)
  xs ← many (sample_datum h) above after_data 0
  k ← here
  checked has_data 21 k (record { head = h; energies = xs })

-- a threshold, then groups up to the anode
abbrev pub samples : Parser Row Samples
samples = do
  t ← datum_below 7 0 (2 ^ 16)
  xs ← several group (at_kind 9)
  give (record { threshold = t; groups = xs })

abbrev pub anode_of : Row → Anode
anode_of r = record { energy = r.channel; time = r.datum }

abbrev pub anode : Parser Row Anode
anode = row_with (of_kind 9) anode_of anode_row (anode_checks 22)

abbrev pub registers_of : Row → Registers
registers_of r = record { a = r.unit; b = r.channel; time = r.datum }

abbrev pub registers : Parser Row Registers
registers = row_with (of_kind 10) registers_of register_row (register_checks 22)

abbrev pub hits_content : Parser Row Hodoscope
hits_content = do
  h ← registers
  give (hits h)

abbrev pub energies_content : ℕ → Parser Row Hodoscope
energies_content id = do
  xs ← channel_rows 6 (hodoscope_base id) energy16
  give (energies id xs)

-- The rows after a packet's own row, of the form and the id that it says.
abbrev pub content : (f : Form) → ℕ → Parser Row (Content f)
content trigger id = do
  w ← datum_below 4 0 pattern_bound
  xs ← channel_rows 5 0 trigger_time
  give (record { pattern = w; times = xs })
content time_of_flight id = channel_rows 5 0 flight_time
content scintillator id = many pair pair_channels at_packet []
content ion_chamber id = channel_rows 6 0 energy16
content crdc id = do
  s ← samples
  a ← anode
  give (record { id = id; samples = s; anode = a })
content hodoscope id = cond (eqb id hits_id) hits_content (energies_content id)
content object_pin id = datum 6 0 energy16 []
content vme_adc id = do
  xs ← channel_rows 6 (adc_base id) adc_energy
  give (record { id = id; energies = xs })
content (opaque k) id = several (datum_below 11 0 (2 ^ 16)) at_packet

-- what a packet's own row says; the id is 0 where the packet has none
pub record Header : Type 0 where
  pub form : Form
  pub id : ℕ

abbrev pub header_of : Row → Header
header_of r = record { form = form_of r.unit; id = r.channel }

abbrev pub header_row : Header → Row
header_row h = packet_row (tag h.form) h.id

-- 21: its kind is not 1, or its tag not that of its form; so 0x5803 and 0x5804 never come again. 22: its id, or its datum, which is 0
abbrev pub header : Parser Row Header
header = row_with (λ r. of_tag (tag (form_of r.unit)) r) header_of header_row (λ h. id_checks 22 h.form h.id)

abbrev pub packet : Parser Row Packet
packet = do
  h ← header
  c ← content h.form h.id
  give (record { form = h.form; content = c })

-- the first packet and the second: the own row, then one row more
abbrev pub own_row : ℕ → Parser Row (Unit {0})
own_row t = row_with (of_tag t) (λ r. tt) (λ u. packet_row t 0) (λ u. [])

-- the chunks lowest first
abbrev pub chunks_of : Row → Stamp
chunks_of r = record { chunk0 = r.datum % 2 ^ 16; chunk1 = r.datum / 2 ^ 16; chunk2 = r.channel % 2 ^ 16; chunk3 = r.channel / 2 ^ 16 }

-- and in word order (`lowest_first` is its own inverse)
abbrev pub stamp_of : StampOrder → Row → Stamp
stamp_of o r = lowest_first o (chunks_of r)

abbrev pub stamp_packet : StampOrder → Parser Row Stamp
stamp_packet o = own_row stamp_tag >> row_with (of_kind 2) (stamp_of o) (stamp_row o) (stamp_checks 22)

abbrev pub number_of : Row → Number
number_of r = record { chunk0 = r.datum % 2 ^ 16; chunk1 = r.datum / 2 ^ 16; chunk2 = r.channel }

abbrev pub number_packet : Parser Row Number
number_packet = own_row number_tag >> row_with (of_kind 3) number_of number_row (number_checks 22)

-- an event's rows up to `stop`: `ended` for one event alone, `at_stamp` for one in a run
abbrev pub event_rows_up_to : StampOrder → (List Row → Bool) → Parser Row Event
event_rows_up_to o stop = event_of (stamp_packet o) number_packet (run_up_to stop packet)

abbrev pub writing : StampOrder → List ℕ → Outcome ℕ
writing o = writing_by words largest_event (event_rows_up_to o ended)
