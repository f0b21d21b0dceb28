-- The code's view of a packet's words, and of runs of them. (The contracts of private functions.)
-- Assumes nothing.
use Rattle.std.specs.Prelude.{ℕ, ◌/◌, ◌%◌, ◌^◌, ◌≤◌, cond, List, [], ◌∷◌, Ok, Err}
use Rattle.event.specs.declared.Row.{Row}
use Rattle.event.specs.Channels.{present}
use Rattle.event.specs.Refusal.{Answer}
use Rattle.event.specs.Rows.{row}
use Rattle.s800_layout.specs.Event.{Datum, Pair, Anode, pair_energy}
use Rattle.s800_layout.specs.Layout.{datum_row, anode_row}
use Rattle.s800_layout.specs.Reading.{datum_of}
use Rattle.s800_format.specs.declared.Format.{Format}
use Rattle.s800_format.specs.Format.{bits_of}

-- Channel words.

abbrev pub channel_of : Format → ℕ → ℕ
channel_of m w = w / 2 ^ bits_of m

abbrev pub value_of : Format → ℕ → ℕ
value_of m w = w % 2 ^ bits_of m

-- the refusal that the word w meets where `blocked` holds the channels that are barred and those seen, 0 for none
unfoldable pub fault_of : Format → ℕ → ℕ → ℕ
fault_of m blocked w = cond (present blocked (channel_of m w)) (cond (present m.barred (channel_of m w)) 10 11) 0

abbrev pub channel_row : Format → Datum → Row
channel_row m d = datum_row m.kind m.base d

-- Rows of one item of a run.

abbrev pub channel_rows : Format → Datum → List Row
channel_rows m d = channel_row m d ∷ []

abbrev pub opaque_rows : ℕ → List Row
opaque_rows w = row 11 0 0 w ∷ []

abbrev pub anode_rows : Anode → List Row
anode_rows a = anode_row a ∷ []

-- a pair of two words
abbrev pub pair_of : ℕ → ℕ → Pair
pair_of energy time = record { energy = datum_of pair_energy energy; time = time % 2 ^ pair_energy.bits }

-- no more rows than words up to `end`
abbrev pub NoMore : ℕ → Answer → Type 0
NoMore end (Ok k) = k ≤ end
NoMore end (Err r) = Unit {0}
