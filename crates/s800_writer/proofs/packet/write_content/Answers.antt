-- `packet::write_content` meets its contract. Assumes nothing.
use mathlib.Core.Path.{sym, ap, ◌∙◌}
use Rattle.s800_layout.specs.Event.{tag}
use Rattle.s800_writer.proofs.Headers.{an_opaque}
use Rattle.s800_writer.proofs.packet.write_content.Goals as goal

pub returns-in-Trigger : goal.returns-in-Trigger
returns-in-Trigger c = rw c.in-Trigger.is c.write_trigger.ensures

pub returns-in-TimeOfFlight : goal.returns-in-TimeOfFlight
returns-in-TimeOfFlight c = rw c.in-TimeOfFlight.is c.write_time_of_flight.ensures

pub returns-in-Scintillator : goal.returns-in-Scintillator
returns-in-Scintillator c = rw c.in-Scintillator.is c.write_scintillator.ensures

pub returns-in-IonChamber : goal.returns-in-IonChamber
returns-in-IonChamber c = rw c.in-IonChamber.is c.write_ion_chamber.ensures

pub returns-in-Crdc : goal.returns-in-Crdc
returns-in-Crdc c = rw c.in-Crdc.is c.write_crdc.ensures

pub write_hodoscope-requires : goal.write_hodoscope-requires
write_hodoscope-requires c = rw c.in-Hodoscope.is at c.requires.1

pub returns-in-Hodoscope : goal.returns-in-Hodoscope
returns-in-Hodoscope c = rw c.in-Hodoscope.is c.write_hodoscope.ensures

pub returns-in-ObjectPin : goal.returns-in-ObjectPin
returns-in-ObjectPin c = rw c.in-ObjectPin.is c.write_object_pin.ensures

pub write_vme_adc-requires : goal.write_vme_adc-requires
write_vme_adc-requires c = rw c.in-VmeAdc.is at c.requires.1

pub returns-in-VmeAdc : goal.returns-in-VmeAdc
returns-in-VmeAdc c = rw c.in-VmeAdc.is c.write_vme_adc.ensures

pub returns-in_default : goal.returns-in_default
returns-in_default c =
    let o = an_opaque c.args.tag (record { not_trigger = c.in_default.not-Trigger; not_time_of_flight = c.in_default.not-TimeOfFlight; not_scintillator = c.in_default.not-Scintillator; not_ion_chamber = c.in_default.not-IonChamber; not_crdc = c.in_default.not-Crdc; not_hodoscope = c.in_default.not-Hodoscope; not_object_pin = c.in_default.not-ObjectPin; not_vme_adc = c.in_default.not-VmeAdc }) c.requires.0 in
    rw o.1 (c.write_opaque.ensures o.0 (sym c.requires.0 ∙ ap tag o.1))
