-- Dialect S as data: one S800 event, version 5, before any word or row is written (documents 000, 01 and 02).
-- Assumes nothing.
use Rattle.std.specs.Prelude.{ℕ, zero, suc, ◌^◌, List, [], ◌∷◌, ◌++◌, map}
use Rattle.event.specs.Parser.{look_up}

-- one time or energy of a channel
pub record Datum : Type 0 where
  pub channel : ℕ
  pub value : ℕ

pub record Trigger : Type 0 where
  pub pattern : ℕ
  pub times : List Datum

-- an energy and a time of one scintillator channel
pub record Pair : Type 0 where
  pub energy : Datum
  pub time : ℕ

-- of a CRDC: a sample word, and a data word of one connector that saw charge
pub record SampleHead : Type 0 where
  pub sample : ℕ
  pub channel : ℕ

pub record SampleDatum : Type 0 where
  pub connector : ℕ
  pub energy : ℕ

-- a group: its head, which is a sample word, and its data words, one to four (document 02, #103)
pub record Group : Type 0 where
  pub head : SampleHead
  pub energies : List SampleDatum

-- the two inner packets of a CRDC
pub record Samples : Type 0 where
  pub threshold : ℕ
  pub groups : List Group

pub record Anode : Type 0 where
  pub energy : ℕ
  pub time : ℕ

pub record Crdc : Type 0 where
  pub id : ℕ
  pub samples : Samples
  pub anode : Anode

-- the hit registers A and B, and the time
pub record Registers : Type 0 where
  pub a : ℕ
  pub b : ℕ
  pub time : ℕ

-- id 0 or 1 holds energies, id 2 the hits
pub data Hodoscope : Type 0 where
  energies : (id : ℕ) → List Datum → Hodoscope
  hits : Registers → Hodoscope

pub record Adc : Type 0 where
  pub id : ℕ
  pub energies : List Datum

-- the packets whose words stay opaque (names of document 000)
pub data Opaque : Type 0 where
  focal_plane_time intermediate_crdc target_pin intermediate_track intermediate_ppac object_scintillator : Opaque

-- the forms of a packet after the stamp and the event number
pub data Form : Type 0 where
  trigger time_of_flight scintillator ion_chamber crdc hodoscope object_pin vme_adc : Form
  opaque : Opaque → Form

-- what a packet of each form holds
abbrev pub Content : Form → Type 0
Content trigger = Trigger
Content time_of_flight = List Datum
Content scintillator = List Pair
Content ion_chamber = List Datum
Content crdc = Crdc
Content hodoscope = Hodoscope
Content object_pin = Datum
Content vme_adc = Adc
Content (opaque k) = List ℕ

pub record Packet : Type 0 where
  pub form : Form
  pub content : Content form

-- a run of packets; a list of its own, so that a packet may come to hold a run
pub data Run : Type 0 where
  end : Run
  plain : Packet → Run → Run

abbrev pub run_of : List Packet → Run
run_of [] = end
run_of (q ∷ qs) = plain q (run_of qs)

-- the chunks of the stamp, and those of the event number, in word order
pub record Stamp : Type 0 where
  pub chunk0 : ℕ
  pub chunk1 : ℕ
  pub chunk2 : ℕ
  pub chunk3 : ℕ

pub record Number : Type 0 where
  pub chunk0 : ℕ
  pub chunk1 : ℕ
  pub chunk2 : ℕ

pub record Event : Type 0 where
  pub stamp : Stamp
  pub number : Number
  pub run : Run

-- Tags. Those of the event, of its first and second packet, and of the inner packets:
abbrev pub event_tag : ℕ
event_tag = 0x5800

abbrev pub stamp_tag : ℕ
stamp_tag = 0x5803

abbrev pub number_tag : ℕ
number_tag = 0x5804

abbrev pub energies_tag : ℕ
energies_tag = 0x5821

abbrev pub samples_tag : ℕ
samples_tag = 0x5841

abbrev pub anode_tag : ℕ
anode_tag = 0x5845

-- and those of the other packets
abbrev pub tag : Form → ℕ
tag trigger = 0x5801
tag time_of_flight = 0x5802
tag scintillator = 0x5810
tag ion_chamber = 0x5820
tag crdc = 0x5840
tag hodoscope = 0x58b0
tag object_pin = 0x58a0
tag vme_adc = 0x58c0
tag (opaque focal_plane_time) = 0x5830
tag (opaque intermediate_crdc) = 0x5850
tag (opaque target_pin) = 0x5860
tag (opaque intermediate_track) = 0x5870
tag (opaque intermediate_ppac) = 0x5880
tag (opaque object_scintillator) = 0x5890

abbrev pub opaques : List Opaque
opaques = focal_plane_time ∷ intermediate_crdc ∷ target_pin ∷ intermediate_track ∷ intermediate_ppac ∷ object_scintillator ∷ []

abbrev forms : List Form
forms = trigger ∷ time_of_flight ∷ scintillator ∷ ion_chamber ∷ crdc ∷ hodoscope ∷ object_pin ∷ vme_adc ∷ map opaque opaques

-- the form of a tag; where no form has it, one whose own tag is another
abbrev pub form_of : ℕ → Form
form_of t = look_up tag trigger forms t

-- the id of a hodoscope's hits; those of its energies are below
abbrev pub hits_id : ℕ
hits_id = 2

-- the largest id; 0 also where the packet has none (the channel of its own row)
abbrev pub largest_id : Form → ℕ
largest_id trigger = 0
largest_id time_of_flight = 0
largest_id scintillator = 0
largest_id ion_chamber = 0
largest_id crdc = 1
largest_id hodoscope = hits_id
largest_id object_pin = 0
largest_id vme_adc = 3
largest_id (opaque k) = 0

abbrev pub id_of : (f : Form) → Content f → ℕ
id_of trigger c = 0
id_of time_of_flight c = 0
id_of scintillator c = 0
id_of ion_chamber c = 0
id_of crdc c = c.id
id_of hodoscope (energies id xs) = id
id_of hodoscope (hits h) = hits_id
id_of object_pin c = 0
id_of vme_adc c = c.id
id_of (opaque k) c = 0

-- the trigger pattern: bits 5-15 are zero
abbrev pub pattern_bound : ℕ
pattern_bound = 2 ^ 5

-- Channel words: the channel above, the number in the bits below.
pub record ChannelFormat : Type 0 where
  pub bits : ℕ
  pub allowed : List ℕ

-- n numbers from a on
abbrev from : ℕ → ℕ → List ℕ
from a zero = []
from a (suc n) = a ∷ from (suc a) n

-- channel 8 to 11
abbrev pub trigger_time : ChannelFormat
trigger_time = record { bits = 12; allowed = from 8 4 }

-- channel 4 to 7 or 12 to 15
abbrev pub flight_time : ChannelFormat
flight_time = record { bits = 12; allowed = from 4 4 ++ from 12 4 }

-- channel 0 to 5
abbrev pub pair_energy : ChannelFormat
pair_energy = record { bits = 12; allowed = from 0 6 }

-- channel 0 to 15, all that bits 15-12 can say
abbrev pub energy16 : ChannelFormat
energy16 = record { bits = 12; allowed = from 0 16 }

-- channel in bits 15-13, energy in bits 12-0
abbrev pub adc_energy : ChannelFormat
adc_energy = record { bits = 13; allowed = from 0 8 }
