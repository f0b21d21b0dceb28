-- The code's `Format` of a channel format of the layout, and back.
-- Assumes nothing.
use Rattle.std.specs.Prelude.{ℕ, zero, suc, ◌+◌, ◌^◌, cond, List, eqb}
use Rattle.event.specs.Channels.{others}
use Rattle.event.specs.Parser.{member}
use Rattle.s800_layout.specs.Event.{ChannelFormat, adc_energy}
use Rattle.s800_format.specs.declared.Format.{Format}

abbrev pub bits_of : Format → ℕ
bits_of m = cond m.wide 13 12

abbrev pub format_of : Format → ChannelFormat
format_of m = record { bits = bits_of m; allowed = others 0 16 m.barred }

-- of the n channels from c on, those that are not in a list, as a set of bits
abbrev without : (c n : ℕ) → List ℕ → ℕ
without c zero xs = 0
without c (suc n) xs = cond (member c xs) 0 (2 ^ c) + without (suc c) n xs

-- a channel format of the layout, for rows of a kind; `base` is the row channel of channel 0, and what is not allowed of channels 0 to 15 is barred
abbrev format_for : (kind base : ℕ) → ChannelFormat → Format
format_for kind base f = record { kind = kind; base = base; wide = eqb f.bits adc_energy.bits; barred = without 0 16 f.allowed }

-- times (kind 5), and energies (kind 6)
abbrev pub times_of : ChannelFormat → Format
times_of = format_for 5 0

abbrev pub energies_of : (base : ℕ) → ChannelFormat → Format
energies_of = format_for 6
