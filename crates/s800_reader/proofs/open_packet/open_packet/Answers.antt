-- `open_packet::open_packet` meets its contract. Assumes nothing.
use Prim.Native.Nat.{ℕ, ◌-◌, ◌≤◌}
use mathlib.Core.Path.{◌≡◌, refl, ap, ◌∙◌}
use mathlib.Core.Bool.{false}
use mathlib.Core.List.{List}
use mathlib.Core.Logic.{◌⊎◌, ⊎_elim}
use lib.Dec.{eqb}
use lib.ListN.{length}
use borrow.Author.Rules.{rules}
use borrow.Author.Tests.{ne_eqb}
use Rattle.s800_layout.specs.Event.{Form, trigger, time_of_flight, scintillator, ion_chamber, crdc, hodoscope, object_pin, vme_adc, Opaque, opaque, tag, form_of}
use Rattle.s800_layout.specs.Event.{focal_plane_time, intermediate_crdc, target_pin, intermediate_track, intermediate_ppac, object_scintillator}
use Rattle.s800_format.specs.declared.tag.Tag.{Tag}
use Rattle.s800_format.specs.declared.tag.Tag.TheVariants as is
use Rattle.s800_format.specs.Tag.{number}
use Rattle.s800_format.proofs.Tags.{number_of_tag, no_number}
use Rattle.s800_reader.specs.Opening.{OpenAnswer, OpensAs, OpensPacket}
use Rattle.s800_reader.proofs.Packets.{packet_unknown, packet_known}
use Rattle.s800_reader.proofs.open_packet.open_packet.Goals.{In-Some}
use Rattle.s800_reader.proofs.open_packet.open_packet.Goals as goal

known : (c : In-Some) (f : Form) {r : OpenAnswer} {after : List ℕ} → number c.in-Some.tag ≡ tag f → OpensAs f c.args.words.now c.args.start c.word.result c.args.count c.args.rows.now after r
    → OpensPacket c.args.words.now c.args.start c.args.count c.args.rows.now after r
known c f {r} e o =
    let n : (2 ≤ c.word.result) × (c.word.result ≤ length c.args.words.now - c.args.start) = search rules in
    packet_known _ _ c.requires.0 c.word.ensures.0 n.0 n.1 c.word-2.ensures.0 f r (number_of_tag c.word-2.result c.in-Some.ensures ∙ e) o

pub returns-in_default : goal.returns-in_default
returns-in_default c =
    let n : (2 ≤ c.word.result) × (c.word.result ≤ length c.args.words.now - c.args.start) = search rules in
    packet_unknown _ _ c.requires.0 c.word.ensures.0 n.0 n.1 c.word-2.ensures.0 (ne_eqb c.word-2.result (tag (form_of c.word-2.result)) (never (form_of c.word-2.result))) c.refuse-in_default.ensures
  where
    none : (t : Tag) → c.word-2.result ≡ number t → ⊥
    none = no_number c.word-2.result c.in_default.ensures

    never : (f : Form) → c.word-2.result ≡ tag f → ⊥
    never trigger = none is.Trigger
    never time_of_flight = none is.TimeOfFlight
    never scintillator = none is.Scintillator
    never ion_chamber = none is.IonChamber
    never crdc = none is.Crdc
    never hodoscope = none is.Hodoscope
    never object_pin = none is.ObjectPin
    never vme_adc = none is.VmeAdc
    never (opaque focal_plane_time) = none is.FocalPlaneTime
    never (opaque intermediate_crdc) = none is.IntermediateCrdc
    never (opaque target_pin) = none is.TargetPin
    never (opaque intermediate_track) = none is.IntermediateTrack
    never (opaque intermediate_ppac) = none is.IntermediatePpac
    never (opaque object_scintillator) = none is.ObjectScintillator

pub returns-in-Trigger : goal.returns-in-Trigger
returns-in-Trigger c = known (goal.at.returns-in-Trigger c).In-Some trigger (ap number c.in-Trigger.is) c.open_trigger.ensures

pub returns-in-TimeOfFlight : goal.returns-in-TimeOfFlight
returns-in-TimeOfFlight c = known (goal.at.returns-in-TimeOfFlight c).In-Some time_of_flight (ap number c.in-TimeOfFlight.is) c.open_time_of_flight.ensures

pub returns-in-Scintillator : goal.returns-in-Scintillator
returns-in-Scintillator c = known (goal.at.returns-in-Scintillator c).In-Some scintillator (ap number c.in-Scintillator.is) c.open_scintillator.ensures

pub returns-in-IonChamber : goal.returns-in-IonChamber
returns-in-IonChamber c = known (goal.at.returns-in-IonChamber c).In-Some ion_chamber (ap number c.in-IonChamber.is) c.open_ion_chamber.ensures

pub returns-in-Crdc : goal.returns-in-Crdc
returns-in-Crdc c = known (goal.at.returns-in-Crdc c).In-Some crdc (ap number c.in-Crdc.is) c.open_crdc.ensures

pub returns-in-Hodoscope : goal.returns-in-Hodoscope
returns-in-Hodoscope c = known (goal.at.returns-in-Hodoscope c).In-Some hodoscope (ap number c.in-Hodoscope.is) c.open_hodoscope.ensures

pub returns-in-ObjectPin : goal.returns-in-ObjectPin
returns-in-ObjectPin c = known (goal.at.returns-in-ObjectPin c).In-Some object_pin (ap number c.in-ObjectPin.is) c.open_object_pin.ensures

pub returns-in-VmeAdc : goal.returns-in-VmeAdc
returns-in-VmeAdc c = known (goal.at.returns-in-VmeAdc c).In-Some vme_adc (ap number c.in-VmeAdc.is) c.open_vme_adc.ensures

pub returns-in-FocalPlaneTime : goal.returns-in-FocalPlaneTime
returns-in-FocalPlaneTime c =
    ⊎_elim (λ e. opened focal_plane_time e refl)
    (⊎_elim (λ e. opened intermediate_crdc e refl)
    (⊎_elim (λ e. opened target_pin e refl)
    (⊎_elim (λ e. opened intermediate_track e refl)
    (⊎_elim (λ e. opened intermediate_ppac e refl)
    (λ e. opened object_scintillator e refl))))) c.in-FocalPlaneTime.is
  where
    opened : (k : Opaque) {t : Tag} → c.in-Some.tag ≡ t → number t ≡ tag (opaque k)
        → OpensPacket c.args.words.now c.args.start c.args.count c.args.rows.now c.open_opaque.new.rows c.open_opaque.result
    opened k e n = known (goal.at.returns-in-FocalPlaneTime c).In-Some (opaque k) (ap number e ∙ n) (c.open_opaque.ensures k (ap number e ∙ n))

pub returns-in-Event : goal.returns-in-Event
returns-in-Event c =
    let n : (2 ≤ c.word.result) × (c.word.result ≤ length c.args.words.now - c.args.start) = search rules in
    packet_unknown _ _ c.requires.0 c.word.ensures.0 n.0 n.1 c.word-2.ensures.0 (barred c.in-Event.is) c.refuse-in-Event.ensures
  where
    its : c.word-2.result ≡ number c.in-Some.tag
    its = number_of_tag c.word-2.result c.in-Some.ensures

    barred : (c.in-Some.tag ≡ is.Event) ⊎ (c.in-Some.tag ≡ is.Timestamp) ⊎ (c.in-Some.tag ≡ is.EventNumber) ⊎ (c.in-Some.tag ≡ is.IonChamberEnergies) ⊎ (c.in-Some.tag ≡ is.CrdcSamples)
        ⊎ (c.in-Some.tag ≡ is.CrdcAnode) → eqb c.word-2.result (tag (form_of c.word-2.result)) ≡ false
    barred =
        ⊎_elim (λ e. rw (its, e))
        (⊎_elim (λ e. rw (its, e))
        (⊎_elim (λ e. rw (its, e))
        (⊎_elim (λ e. rw (its, e))
        (⊎_elim (λ e. rw (its, e))
        (λ e. rw (its, e))))))
