-- Dialect F as data: one FRS VME event, before any longword or row is written (documents 004 and 01).
-- Assumes nothing.
use Rattle.std.specs.Prelude.{ℕ, List}
use Rattle.std.proofs.Math.Option.{Option}

-- the data bits of the three stamp words
pub record Stamp : Type 0 where
  pub word1 : ℕ
  pub word2 : ℕ
  pub word3 : ℕ

pub record PatternUnit : Type 0 where
  pub register : ℕ
  pub multiplicity : ℕ

-- one datum of a module's channel
pub record Value : Type 0 where
  pub channel : ℕ
  pub datum : ℕ

-- a module without data, and one with values and an event counter
pub data Module : Type 0 where
  empty : (geo : ℕ) → Module
  with_data : (geo : ℕ) → (values : List Value) → (counter : ℕ) → Module

-- the scalers stand in the order of their index
pub record Event : Type 0 where
  pub stamp : Stamp
  pub scalers : List ℕ
  pub pattern : Option PatternUnit
  pub modules : List Module

abbrev pub geo_of : Module → ℕ
geo_of (empty geo) = geo
geo_of (with_data geo values counter) = geo

-- The GEOs of the scaler and of the pattern unit; a module has neither.
abbrev pub scaler_geo : ℕ
scaler_geo = 6

abbrev pub pattern_geo : ℕ
pattern_geo = 5

-- The longwords and the upper halves that document 01 prints: of the stamp,
abbrev pub stamp_identifier : ℕ
stamp_identifier = 0x00000200

abbrev pub word1_identifier : ℕ
word1_identifier = 0x00f7

abbrev pub word2_identifier : ℕ
word2_identifier = 0x01f7

abbrev pub word3_identifier : ℕ
word3_identifier = 0x02f7

-- of the scaler,
abbrev pub scaler_end : ℕ
scaler_end = 0x34000000

-- of the pattern unit.
abbrev pub pattern_header : ℕ
pattern_header = 0x2a000002

abbrev pub register_identifier : ℕ
register_identifier = 0x2800

abbrev pub multiplicity_identifier : ℕ
multiplicity_identifier = 0x2801

abbrev pub pattern_end : ℕ
pattern_end = 0x2c000000
