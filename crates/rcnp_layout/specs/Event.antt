-- Dialect R as data: one event of RCNP regions, before any word or row is written (documents 003 and 02, #101).
-- Assumes nothing.
use Rattle.std.specs.Prelude.{ℕ, List, [], ◌∷◌, map}
use Rattle.event.specs.Parser.{look_up}

-- a word of a VDC region: a module's header, with its bits 13-11 (event number) and 10-8 (the edges and the resolution, `le` and `res` of document 003), or a datum of the
-- module before it
pub data VdcWord : Type 0 where
  head : (moduleId eventNumber mode : ℕ) → VdcWord
  datum : (channel time : ℕ) → VdcWord

-- the regions whose words stay opaque (names of document 003)
pub data Opaque : Type 0 where
  adc tdc pcos adc_las tdc_las fera feret : Opaque

-- the forms of a region before the check sum
pub data Form : Type 0 where
  input_register scaler vdc : Form
  opaque : Opaque → Form

-- what a region of each form holds; scalers are 24-bit values
abbrev pub Content : Form → Type 0
Content input_register = ℕ
Content scaler = List ℕ
Content vdc = List VdcWord
Content (opaque k) = List ℕ

pub record Region : Type 0 where
  pub form : Form
  pub content : Content form

-- the regions, then the word of the check sum region, which ends the event
pub record Event : Type 0 where
  pub regions : List Region
  pub sum : ℕ

-- Ids; 0, 1, 5, 8 and 9 are refused.
abbrev pub id_of : Form → ℕ
id_of input_register = 2
id_of scaler = 6
id_of vdc = 7
id_of (opaque adc) = 3
id_of (opaque tdc) = 4
id_of (opaque pcos) = 10
id_of (opaque adc_las) = 11
id_of (opaque tdc_las) = 12
id_of (opaque fera) = 13
id_of (opaque feret) = 14

abbrev pub sum_id : ℕ
sum_id = 15

abbrev opaques : List Opaque
opaques = adc ∷ tdc ∷ pcos ∷ adc_las ∷ tdc_las ∷ fera ∷ feret ∷ []

abbrev pub forms : List Form
forms = input_register ∷ scaler ∷ vdc ∷ map opaque opaques

-- the form of an id; where no form has it, one whose own id is another
abbrev pub form_of : ℕ → Form
form_of id = look_up id_of input_register forms id
