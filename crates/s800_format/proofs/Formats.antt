-- The channel format that the code's `Format` stands for is the layout's own.
-- Assumes nothing.
use Prim.Native.Nat.{ℕ}
use mathlib.Core.Path.{◌≡◌, refl}
use Rattle.event.specs.Channels.{present, others}
use Rattle.s800_layout.specs.Event.{trigger_time, flight_time, pair_energy, energy16, adc_energy}
use Rattle.s800_format.specs.declared.Format.{Format}
use Rattle.s800_format.specs.Format.{format_of, times_of, energies_of}

pub trigger_format : format_of (times_of trigger_time) ≡ trigger_time
unfolding present others
trigger_format = refl

pub flight_format : format_of (times_of flight_time) ≡ flight_time
unfolding present others
flight_format = refl

pub energies_format : (base : ℕ) → format_of (energies_of base energy16) ≡ energy16
unfolding present others
energies_format base = refl

pub adc_format : (base : ℕ) → format_of (energies_of base adc_energy) ≡ adc_energy
unfolding present others
adc_format base = refl

abbrev pub pair_format : Format
pair_format = energies_of 0 pair_energy

pub pair_format_lem : format_of pair_format ≡ pair_energy
unfolding present others
pair_format_lem = refl
