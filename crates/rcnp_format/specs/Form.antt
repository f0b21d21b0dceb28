-- The forms of the code are the layout's.
-- Assumes nothing.
use Rattle.std.specs.Prelude.{ℕ, cond, eqb, List, [], ◌∷◌, Option, Some, None}
use Rattle.rcnp_layout.specs.Event.{adc, tdc, pcos, adc_las, tdc_las, fera, feret, input_register, scaler, vdc, opaque, id_of}
use Rattle.rcnp_layout.specs.Event as layout
use Rattle.rcnp_format.specs.declared.Form.{Form}
use Rattle.rcnp_format.specs.declared.Form.TheVariants as is

abbrev pub form : Form → layout.Form
form is.InputRegister = input_register
form is.Adc = opaque adc
form is.Tdc = opaque tdc
form is.Scaler = scaler
form is.Vdc = vdc
form is.Pcos = opaque pcos
form is.AdcLas = opaque adc_las
form is.TdcLas = opaque tdc_las
form is.Fera = opaque fera
form is.Feret = opaque feret

abbrev pub forms : List Form
forms = is.InputRegister ∷ is.Adc ∷ is.Tdc ∷ is.Scaler ∷ is.Vdc ∷ is.Pcos ∷ is.AdcLas ∷ is.TdcLas ∷ is.Fera ∷ is.Feret ∷ []

-- the form with an id, among those of a list
abbrev pub first : List Form → ℕ → Option Form
first [] id = None
first (f ∷ fs) id = cond (eqb id (id_of (form f))) (Some f) (first fs id)

-- and among all; none has an id that is refused
unfoldable pub form_with_id : ℕ → Option Form
form_with_id id = first forms id
