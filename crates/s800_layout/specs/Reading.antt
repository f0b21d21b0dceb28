-- Reading one event of dialect S: its rows, or the first refusal and its place. Each line is a rule, in the order of documents 01 and 02.
-- (On 16-bit words some tests never fail, and stand here because the same tables serve `Valid`: that a word is below 2 ^ 16, that a field is as
-- wide as its bits (but a data word's connector: that test is the one of bits 14-12), that a word with fields in all its bits is the one they print; that an inner packet of the right length fits.)
-- Assumes nothing.
use Rattle.std.specs.Prelude.{ℕ, ◌-◌, ◌/◌, ◌%◌, ◌^◌, Bool, true, cond, ◌&&◌, List, [], ◌∷◌, leb, eqb, length}
use Rattle.event.specs.declared.Row.{Row}
use Rattle.event.specs.declared.StampOrder.{StampOrder}
use Rattle.event.specs.Parser.{Parser, ended, ◌>>=◌, ◌>>◌, give, here, require, within, checked, many, several}
use Rattle.event.specs.Words.{layout, exactly, any_word, between, below_checks, word_below}
use Rattle.event.specs.Outcome.{Outcome, done, outcome}
use Rattle.s800_layout.specs.Event.{Datum, Pair, SampleHead, SampleDatum, Group, Samples, Anode, Registers, Hodoscope, energies, hits, Form, trigger, time_of_flight}
use Rattle.s800_layout.specs.Event.{scintillator, ion_chamber, crdc, hodoscope, object_pin, vme_adc, opaque, Content, Packet, Run, run_of, Stamp, Number, Event, event_tag}
use Rattle.s800_layout.specs.Event.{stamp_tag, number_tag, energies_tag, samples_tag, anode_tag, tag, form_of, hits_id, pattern_bound, ChannelFormat, trigger_time, flight_time}
use Rattle.s800_layout.specs.Event.{pair_energy, energy16, adc_energy}
use Rattle.s800_layout.specs.Layout.{channel_word, datum_word, sample_head_word, sample_datum_word, version, rows, smallest_event, largest_event, id_checks, datum_checks}
use Rattle.s800_layout.specs.Layout.{sample_head_checks, sample_datum_checks, above, has_data, channels, pair_channels}

abbrev pub even : ℕ → Bool
even n = eqb (n % 2) 0

-- 7: the lengths that each tag allows. (Those of 0x5803 and 0x5804 stand with their packets; a hodoscope's id is not known yet, and id 2 has a rule of its own.)
abbrev pub allowed_length : Form → ℕ → Bool
allowed_length trigger n = between 3 7 n
allowed_length time_of_flight n = between 2 10 n
allowed_length scintillator n = even n && between 2 14 n
allowed_length ion_chamber n = between 4 20 n
allowed_length crdc n = leb 10 n
allowed_length hodoscope n = between 3 19 n
allowed_length object_pin n = eqb n 3
allowed_length vme_adc n = between 3 11 n
allowed_length (opaque k) n = leb 2 n

-- the words after the length n of the packet at place p: 6 its tag, 7 the length for that tag; then its content
abbrev pub body_of : {F A : Type 0} → Parser ℕ F → (F → ℕ → Bool) → (F → (p n : ℕ) → Parser ℕ A) → (p n : ℕ) → Parser ℕ A
body_of tagWord allowed content p n = do
  f ← tagWord
  require (allowed f n) 7 p
  content f p n

-- a packet: 5 its length; what it holds must fill it
abbrev pub packet_of : {F A : Type 0} → Parser ℕ F → (F → ℕ → Bool) → (F → (p n : ℕ) → Parser ℕ A) → Parser ℕ A
packet_of tagWord allowed content = do
  p ← here
  n ← any_word 5
  require (leb 2 n) 5 p
  within 5 p (n - 1) (body_of tagWord allowed content p n)

-- an inner packet of length n: 9 its length, 9 its tag
abbrev pub inner : {A : Type 0} → ℕ → ℕ → Parser ℕ A → Parser ℕ A
inner n t content = do
  p ← here
  exactly 9 n
  within 9 p (n - 1) (exactly 9 t >> content)

-- a whole 16-bit number
abbrev pub whole : Parser ℕ ℕ
whole = word_below 10 (2 ^ 16)

abbrev pub id_word : Form → Parser ℕ ℕ
id_word f = layout 8 (λ w. w) (λ w. w) (id_checks 8 f)

-- a channel word: 10 its channel, 11 a channel seen
abbrev pub datum_of : ChannelFormat → ℕ → Datum
datum_of f w = record { channel = w / 2 ^ f.bits; value = w % 2 ^ f.bits }

abbrev pub datum : ChannelFormat → List ℕ → Parser ℕ Datum
datum f seen = layout 10 (datum_of f) (datum_word f) (datum_checks 10 11 f seen)

-- channel words up to the packet's end
abbrev pub channel_words : ChannelFormat → Parser ℕ (List Datum)
channel_words f = many (datum f) channels ended []

-- an energy and a time, the channel the same in both
abbrev pub pair : List ℕ → Parser ℕ Pair
pair seen = do
  e ← datum pair_energy seen
  t ← layout 10 (◌% 2 ^ pair_energy.bits) (channel_word pair_energy e.channel) (below_checks 10 (2 ^ pair_energy.bits))
  give (record { energy = e; time = t })

abbrev pub sample_head_of : ℕ → SampleHead
sample_head_of w = record { sample = w / 2 ^ 6 % 2 ^ 9; channel = w % 2 ^ 6 }

abbrev pub sample_datum_of : ℕ → SampleDatum
sample_datum_of w = record { connector = w / 2 ^ 10; energy = w % 2 ^ 10 }

-- a word without bit 15 is a data word: 10 its bits 14-12, 10 a connector not above the one before
abbrev pub sample_datum : (least : ℕ) → Parser ℕ SampleDatum
sample_datum least = layout 10 sample_datum_of sample_datum_word (sample_datum_checks 10 least)

-- where a group's data words end: a word with bit 15, or the inner packet's end
abbrev pub is_at_head : List ℕ → Bool
is_at_head [] = true
is_at_head (w ∷ r) = leb (2 ^ 15) w

-- 10 at a data word with no head before it; 10 at a head with no data word after it
abbrev pub group : Parser ℕ Group
group = do
  p ← here
  h ← layout 10 sample_head_of sample_head_word (sample_head_checks 10)
  xs ← many sample_datum above is_at_head 0
  checked has_data 10 p (record { head = h; energies = xs })

abbrev pub samples : Parser ℕ Samples
samples = do
  t ← whole
  xs ← several group ended
  give (record { threshold = t; groups = xs })

abbrev pub anode : Parser ℕ Anode
anode = do
  e ← whole
  t ← whole
  give (record { energy = e; time = t })

abbrev pub registers : Parser ℕ Registers
registers = do
  a ← whole
  b ← whole
  t ← whole
  give (record { a = a; b = b; time = t })

-- 7 again: a hodoscope with id 2, the hits, has length 6
abbrev pub hits_content : (p n : ℕ) → Parser ℕ Hodoscope
hits_content p n = do
  require (eqb n 6) 7 p
  h ← registers
  give (hits h)

abbrev pub energies_content : ℕ → Parser ℕ Hodoscope
energies_content id = do
  xs ← channel_words energy16
  give (energies id xs)

-- The content of the packet at place p, of length n: the words after its tag. 8 and 7 come first, then 9, 10 and 11 with the words rising.
abbrev pub content : (f : Form) → (p n : ℕ) → Parser ℕ (Content f)
content trigger p n = do
  w ← word_below 10 pattern_bound
  xs ← channel_words trigger_time
  give (record { pattern = w; times = xs })
content time_of_flight p n = channel_words flight_time
content scintillator p n = many pair pair_channels ended []
content ion_chamber p n = inner (n - 2) energies_tag (channel_words energy16)
content crdc p n = do
  id ← id_word crdc
  s ← inner (n - 7) samples_tag samples
  a ← inner 4 anode_tag anode
  give (record { id = id; samples = s; anode = a })
content hodoscope p n = do
  id ← id_word hodoscope
  cond (eqb id hits_id) (hits_content p n) (energies_content id)
content object_pin p n = datum energy16 []
content vme_adc p n = do
  id ← id_word vme_adc
  xs ← channel_words adc_energy
  give (record { id = id; energies = xs })
content (opaque k) p n = several whole ended

-- 6: a word that is not the tag of its form; so 0x5803 and 0x5804 never come again
abbrev pub form_word : Parser ℕ Form
form_word = layout 6 form_of tag (λ f. [])

abbrev pub packet_content : Form → (p n : ℕ) → Parser ℕ Packet
packet_content f p n = content f p n >>= λ c. give (record { form = f; content = c })

abbrev pub packet : Parser ℕ Packet
packet = packet_of form_word allowed_length packet_content

-- the first packet and the second
abbrev pub stamp_content : Parser ℕ Stamp
stamp_content = do
  a ← whole
  b ← whole
  c ← whole
  d ← whole
  give (record { chunk0 = a; chunk1 = b; chunk2 = c; chunk3 = d })

abbrev pub stamp_packet : Parser ℕ Stamp
stamp_packet = packet_of (exactly 6 stamp_tag) (λ u. eqb 6) (λ u p n. stamp_content)

abbrev pub number_content : Parser ℕ Number
number_content = do
  a ← whole
  b ← whole
  c ← whole
  give (record { chunk0 = a; chunk1 = b; chunk2 = c })

abbrev pub number_packet : Parser ℕ Number
number_packet = packet_of (exactly 6 number_tag) (λ u. eqb 5) (λ u p n. number_content)

-- packets up to `stop`, over words or rows
abbrev pub run_up_to : {E : Type 0} → (List E → Bool) → Parser E Packet → Parser E Run
run_up_to stop packet = do
  qs ← several packet stop
  give (run_of qs)

-- an event's parts in their order, over words or rows
abbrev pub event_of : {E : Type 0} → Parser E Stamp → Parser E Number → Parser E Run → Parser E Event
event_of stamp number run = do
  s ← stamp
  k ← number
  r ← run
  give (record { stamp = s; number = k; run = r })

-- 1, 2, 3, 4, then packet by packet; n is the number of words of the event
abbrev pub event_parser : ℕ → Parser ℕ Event
event_parser n = do
  require (between smallest_event largest_event n) 1 0
  exactly 2 n
  exactly 3 event_tag
  exactly 4 version
  event_of stamp_packet number_packet (run_up_to ended packet)

abbrev pub reading : StampOrder → List ℕ → Outcome Row
reading o ws = outcome (λ e. done (rows o e)) (event_parser (length ws) 0 ws)
