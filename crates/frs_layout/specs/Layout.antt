-- Dialect F: the longwords and the rows of an event, and the rules that a valid one keeps (documents 01 and 02).
-- Assumes nothing.
use Rattle.std.specs.Prelude.{ℕ, suc, ◌+◌, ◌*◌, ◌^◌, not, List, [], ◌∷◌, ◌++◌, map, ltb, leb, eqb, length}
use Rattle.event.specs.declared.Row.{Row}
use Rattle.event.specs.Parser.{Test, test, Passed, Goods, All, each, if_any, IfAny, fresh}
use Rattle.event.specs.Words.{halves, below_checks}
use Rattle.event.specs.Rows.{row}
use Rattle.event.specs.Demands.{Sized}
use Rattle.frs_layout.specs.Event.{Stamp, PatternUnit, Value, Module, empty, with_data, Event, geo_of, scaler_geo, pattern_geo, stamp_identifier, word1_identifier, word2_identifier, word3_identifier, scaler_end, pattern_header, register_identifier, multiplicity_identifier, pattern_end}

-- Longwords.

-- GEO in bits 31-27, flag in bits 26-24
abbrev pub longword : (geo flag low : ℕ) → ℕ
longword geo flag low = geo * 2 ^ 27 + flag * 2 ^ 24 + low

-- a datum has bits 14-0 (document 02, #106)
abbrev pub datum_bits : ℕ
datum_bits = 15

-- a data longword: flag 0, bits 23-21 zero, channel in bits 20-16, bit 15 zero, the datum below
abbrev pub value_word : (geo : ℕ) → Value → ℕ
value_word geo v = longword geo 0 (v.channel * 2 ^ 16 + v.datum)

abbrev pub stamp_words : Stamp → List ℕ
stamp_words s = stamp_identifier ∷ halves word1_identifier s.word1 ∷ halves word2_identifier s.word2 ∷ halves word3_identifier s.word3 ∷ []

-- a header: flag 2 over the count of the longwords that follow
abbrev pub header_word : (geo count : ℕ) → ℕ
header_word geo count = longword geo 2 count

-- a module's footer: flag 4 over the event counter
abbrev pub footer_word : (geo counter : ℕ) → ℕ
footer_word geo counter = longword geo 4 counter

-- an empty module: flag 6
abbrev pub empty_word : (geo : ℕ) → ℕ
empty_word geo = longword geo 6 0

abbrev pub scaler_words : List ℕ → List ℕ
scaler_words vs = header_word scaler_geo (length vs) ∷ (vs ++ (scaler_end ∷ []))

abbrev pub pattern_words : PatternUnit → List ℕ
pattern_words p = pattern_header ∷ halves register_identifier p.register ∷ halves multiplicity_identifier p.multiplicity ∷ pattern_end ∷ []

abbrev pub module_words : Module → List ℕ
module_words (empty geo) = empty_word geo ∷ []
module_words (with_data geo vs counter) = header_word geo (length vs) ∷ (map (value_word geo) vs ++ (footer_word geo counter ∷ []))

abbrev pub words : Event → List ℕ
words e = stamp_words e.stamp ++ (scaler_words e.scalers ++ (if_any pattern_words e.pattern ++ each module_words e.modules))

-- Rows.

abbrev pub stamp_row : Stamp → Row
stamp_row s = row 16 s.word1 s.word2 s.word3

abbrev pub scaler_block_row : (count : ℕ) → Row
scaler_block_row count = row 17 scaler_geo count 0

-- one scaler; the index counts from 0
abbrev pub scaler_row : (index value : ℕ) → Row
scaler_row index value = row 18 scaler_geo index value

abbrev pub scaler_rows_from : (index : ℕ) → List ℕ → List Row
scaler_rows_from i [] = []
scaler_rows_from i (v ∷ vs) = scaler_row i v ∷ scaler_rows_from (suc i) vs

abbrev pub scaler_rows : List ℕ → List Row
scaler_rows vs = scaler_block_row (length vs) ∷ scaler_rows_from 0 vs

abbrev pub pattern_row : PatternUnit → Row
pattern_row p = row 19 pattern_geo p.multiplicity p.register

abbrev pub pattern_rows : PatternUnit → List Row
pattern_rows p = pattern_row p ∷ []

abbrev pub empty_row : (geo : ℕ) → Row
empty_row geo = row 20 geo 0 0

abbrev pub module_row : (geo count counter : ℕ) → Row
module_row geo count counter = row 21 geo count counter

abbrev pub value_row : (geo : ℕ) → Value → Row
value_row geo v = row 22 geo v.channel v.datum

-- row 21 before its values
abbrev pub module_rows : Module → List Row
module_rows (empty geo) = empty_row geo ∷ []
module_rows (with_data geo vs counter) = module_row geo (length vs) counter ∷ map (value_row geo) vs

abbrev pub rows : Event → List Row
rows e = stamp_row e.stamp ∷ (scaler_rows e.scalers ++ (if_any pattern_rows e.pattern ++ each module_rows e.modules))

-- Rules. `n` is the refusal number of a field out of range, `m` that of a repeated channel or GEO.

abbrev pub stamp_checks : ℕ → Stamp → List Test
stamp_checks n s = test n (ltb s.word1 (2 ^ 16)) ∷ test n (ltb s.word2 (2 ^ 16)) ∷ test n (ltb s.word3 (2 ^ 16)) ∷ []

-- a count is 1 to 32
abbrev pub count_checks : ℕ → ℕ → List Test
count_checks n k = test n (leb 1 k) ∷ test n (leb k 32) ∷ []

abbrev pub scaler_checks : ℕ → ℕ → List Test
scaler_checks n v = below_checks n (2 ^ 32) v

abbrev pub pattern_checks : ℕ → PatternUnit → List Test
pattern_checks n p = test n (ltb p.register (2 ^ 16)) ∷ test n (ltb p.multiplicity (2 ^ 16)) ∷ []

-- any GEO but the scaler's and the pattern unit's, each GEO once
abbrev pub geo_checks : ℕ → ℕ → List ℕ → ℕ → List Test
geo_checks n m seen g = test n (ltb g (2 ^ 5)) ∷ test n (not (eqb g pattern_geo)) ∷ test n (not (eqb g scaler_geo)) ∷ test m (fresh g seen) ∷ []

-- no channel twice in a module
abbrev pub value_checks : ℕ → ℕ → List ℕ → Value → List Test
value_checks n m seen v = test n (ltb v.channel (2 ^ 5)) ∷ test n (ltb v.datum (2 ^ datum_bits)) ∷ test m (fresh v.channel seen) ∷ []

abbrev pub counter_checks : ℕ → ℕ → List Test
counter_checks n c = below_checks n (2 ^ 16) c

-- the channels, and the GEOs, before are the state
abbrev pub channels : List ℕ → Value → List ℕ
channels seen v = v.channel ∷ seen

abbrev pub geos : List ℕ → Module → List ℕ
geos seen m = geo_of m ∷ seen

abbrev pub ValidScalers : List ℕ → Type 0
ValidScalers vs = Passed (count_checks 0 (length vs)) × All (λ v. Passed (scaler_checks 0 v)) vs

abbrev pub ValidValue : List ℕ → Value → Type 0
ValidValue seen v = Passed (value_checks 0 0 seen v)

abbrev ValidBody : Module → Type 0
ValidBody (empty geo) = Unit {0}
ValidBody (with_data geo vs counter) = Passed (count_checks 0 (length vs)) × Goods ValidValue channels [] vs × Passed (counter_checks 0 counter)

abbrev pub ValidModule : List ℕ → Module → Type 0
ValidModule seen m = Passed (geo_checks 0 0 seen (geo_of m)) × ValidBody m

-- an event has 7 to 1,062 longwords (that it has 7 follows from its stamp and its scaler)
abbrev pub smallest_event : ℕ
smallest_event = 7

abbrev pub largest_event : ℕ
largest_event = 1062

-- Every rule but the number of longwords.
pub record Formed (e : Event) : Type 0 where
  pub stamp : Passed (stamp_checks 0 e.stamp)
  pub scalers : ValidScalers e.scalers
  pub pattern : IfAny (λ p. Passed (pattern_checks 0 p)) e.pattern
  pub modules : Goods ValidModule geos [] e.modules

abbrev pub Valid : Event → Type 0
Valid = Sized Formed words largest_event
