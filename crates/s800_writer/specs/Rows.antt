-- The refusal that one row meets, as the code finds it (the contracts of private functions).
-- Assumes nothing.
use Rattle.std.specs.Prelude.{ℕ, ◌-◌, ◌^◌, cond, ◌&&◌, List, [], ◌∷◌, eqb, ltb, leb}
use Rattle.event.specs.declared.Row.{Row}
use Rattle.event.specs.Channels.{present}
use Rattle.event.specs.Parser.{fault_in}
use Rattle.event.specs.Writing.{row_tests, of_kind}
use Rattle.s800_layout.specs.Event.{Datum, Pair, SampleHead, SampleDatum, pair_energy}
use Rattle.s800_layout.specs.Layout.{datum_word, sample_datum_word, sample_datum_row, sample_datum_checks}
use Rattle.s800_layout.specs.Writing.{datum_of, sample_datum_of}
use Rattle.s800_format.specs.declared.Format.{Format}
use Rattle.s800_format.specs.Format.{bits_of, format_of}

-- 21: not of this kind; 22: a field above its largest number; 0 for none
unfoldable pub limits_fault : (kind unit channel datum : ℕ) → Row → ℕ
limits_fault kind unit channel datum r = cond (eqb kind r.kind) (cond ((leb r.unit unit && leb r.channel channel) && leb r.datum datum) 0 22) 21

-- a time or an energy after the channels of a set: 21 its kind; 22 its unit, its channel (not allowed, or seen), its number; 0 for none
unfoldable pub datum_fault : Format → (set : ℕ) → Row → ℕ
datum_fault m set r =
    cond (eqb m.kind r.kind)
    (cond (leb m.base r.channel)
    (cond ((eqb r.unit 0 && ltb (r.channel - m.base) 16) && ltb r.datum (2 ^ bits_of m))
    (cond (present set (r.channel - m.base)) 22 0)
    22)
    22)
    21

-- the time of a pair, of the energy's channel: 21 its kind; 22 its unit, its channel, its number; 0 for none
unfoldable pub time_fault : (channel : ℕ) → Row → ℕ
time_fault channel r = cond (eqb 5 r.kind) (cond ((eqb r.unit 0 && eqb r.channel channel) && ltb r.datum (2 ^ pair_energy.bits)) 0 22) 21

-- a row of kind 12 under its head: what the layout's tests of it find
unfoldable pub sample_datum_fault : SampleHead → (least : ℕ) → Row → ℕ
sample_datum_fault h least r = fault_in (row_tests (of_kind 12) sample_datum_of (sample_datum_row h) (sample_datum_checks 22 least) r)

abbrev pub sample_datum_words : SampleDatum → List ℕ
sample_datum_words d = sample_datum_word d ∷ []

-- the words of one datum
abbrev pub datum_words : Format → Datum → List ℕ
datum_words m d = datum_word (format_of m) d ∷ []

-- a pair of two rows
abbrev pub pair_of : (energy time : Row) → Pair
pair_of e t = record { energy = datum_of 0 e; time = t.datum }
