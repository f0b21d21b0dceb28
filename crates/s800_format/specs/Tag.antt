-- The tags of the code, as numbers.
-- Assumes nothing.
use Rattle.std.specs.Prelude.{ℕ, cond, eqb, List, [], ◌∷◌, Option, Some, None}
use Rattle.s800_layout.specs.Event.{trigger, time_of_flight, scintillator, ion_chamber, crdc, hodoscope, object_pin, vme_adc, opaque, focal_plane_time, intermediate_crdc, target_pin}
use Rattle.s800_layout.specs.Event.{intermediate_track, intermediate_ppac, object_scintillator, tag, event_tag, stamp_tag, number_tag, energies_tag, samples_tag, anode_tag}
use Rattle.s800_format.specs.declared.tag.Tag.{Tag}
use Rattle.s800_format.specs.declared.tag.Tag.TheVariants as is

abbrev pub number : Tag → ℕ
number is.Event = event_tag
number is.Trigger = tag trigger
number is.TimeOfFlight = tag time_of_flight
number is.Timestamp = stamp_tag
number is.EventNumber = number_tag
number is.Scintillator = tag scintillator
number is.IonChamber = tag ion_chamber
number is.IonChamberEnergies = energies_tag
number is.FocalPlaneTime = tag (opaque focal_plane_time)
number is.Crdc = tag crdc
number is.CrdcSamples = samples_tag
number is.CrdcAnode = anode_tag
number is.IntermediateCrdc = tag (opaque intermediate_crdc)
number is.TargetPin = tag (opaque target_pin)
number is.IntermediateTrack = tag (opaque intermediate_track)
number is.IntermediatePpac = tag (opaque intermediate_ppac)
number is.ObjectScintillator = tag (opaque object_scintillator)
number is.ObjectPin = tag object_pin
number is.Hodoscope = tag hodoscope
number is.VmeAdc = tag vme_adc

abbrev pub tags : List Tag
tags =
    is.Event ∷ is.Trigger ∷ is.TimeOfFlight ∷ is.Timestamp ∷ is.EventNumber ∷ is.Scintillator ∷ is.IonChamber ∷ is.IonChamberEnergies ∷ is.FocalPlaneTime ∷ is.Crdc ∷ is.CrdcSamples
    ∷ is.CrdcAnode ∷ is.IntermediateCrdc ∷ is.TargetPin ∷ is.IntermediateTrack ∷ is.IntermediatePpac ∷ is.ObjectScintillator ∷ is.ObjectPin ∷ is.Hodoscope ∷ is.VmeAdc ∷ []

-- the tag of a number, among those of a list
abbrev pub first : List Tag → ℕ → Option Tag
first [] n = None
first (t ∷ ts) n = cond (eqb n (number t)) (Some t) (first ts n)

-- and among all; most numbers are no tag's
unfoldable pub tag_of : ℕ → Option Tag
tag_of n = first tags n
