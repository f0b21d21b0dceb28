-- The form with an id: a form's id has that form, an id with a form is its id, and an id without one is no form's; and the layout's form of an id.
-- Assumes nothing.
use Prim.Native.Nat.{ℕ}
use mathlib.Core.Path.{◌≡◌, refl, ap, ◌∙◌}
use mathlib.Core.Bool.{Bool, true, false, cond}
use mathlib.Core.List.{List, [], ◌∷◌}
use lib.Dec.{eqb}
use borrow.Author.Tests.{eq-eqb, ne_eqb, eqb-true}
use Rattle.std.specs.Prelude.{Option, Some, None, is_some}
use Rattle.event.proofs.Impossible.{impossible}
use Rattle.rcnp_layout.specs.Event.{adc, tdc, pcos, adc_las, tdc_las, fera, feret, input_register, scaler, vdc, opaque, id_of, form_of}
use Rattle.rcnp_layout.specs.Event as layout
use Rattle.rcnp_layout.proofs.Sizes.{form_back}
use Rattle.rcnp_format.specs.declared.Form.{Form}
use Rattle.rcnp_format.specs.declared.Form.TheVariants as is
use Rattle.rcnp_format.specs.Form.{form, forms, first, form_with_id}

pub form_with_own_id : (f : Form) → form_with_id (id_of (form f)) ≡ Some f
unfolding form_with_id
form_with_own_id is.InputRegister = refl
form_with_own_id is.Adc = refl
form_with_own_id is.Tdc = refl
form_with_own_id is.Scaler = refl
form_with_own_id is.Vdc = refl
form_with_own_id is.Pcos = refl
form_with_own_id is.AdcLas = refl
form_with_own_id is.TdcLas = refl
form_with_own_id is.Fera = refl
form_with_own_id is.Feret = refl

first_id : (f : Form) (fs : List Form) (id : ℕ) → Some f ≡ first fs id → id ≡ id_of (form f)
first_id f [] id e = impossible cc
first_id f (x ∷ fs) id e = go (eqb id (id_of (form x))) refl (first_id f fs id) e
  where
    go : (b : Bool) → eqb id (id_of (form x)) ≡ b → (Some f ≡ first fs id → id ≡ id_of (form f)) → Some f ≡ cond b (Some x) (first fs id) → id ≡ id_of (form f)
    go true h others e = let same : x ≡ f = cc in eqb-true id (id_of (form x)) h ∙ ap (λ (g : Form). id_of (form g)) same
    go false h others e = others e

pub id_of_form : (id : ℕ) {f : Form} → Some f ≡ form_with_id id → id ≡ id_of (form f)
unfolding form_with_id
id_of_form id {f} e = first_id f forms id e

-- the code's form of one of the layout
of_layout : (f : layout.Form) → (g : Form) × (f ≡ form g)
of_layout input_register = (is.InputRegister, refl)
of_layout (opaque adc) = (is.Adc, refl)
of_layout (opaque tdc) = (is.Tdc, refl)
of_layout scaler = (is.Scaler, refl)
of_layout vdc = (is.Vdc, refl)
of_layout (opaque pcos) = (is.Pcos, refl)
of_layout (opaque adc_las) = (is.AdcLas, refl)
of_layout (opaque tdc_las) = (is.TdcLas, refl)
of_layout (opaque fera) = (is.Fera, refl)
of_layout (opaque feret) = (is.Feret, refl)

pub no_id : (id : ℕ) → None ≡ form_with_id id → (f : layout.Form) → id ≡ id_of f → ⊥
no_id id none f e =
    let g = of_layout f in
    let same : None ≡ Some g.0 = none ∙ ap form_with_id (e ∙ ap id_of g.1) ∙ form_with_own_id g.0 in
    impossible cc

no_form : (id : ℕ) → ((f : layout.Form) → id ≡ id_of f → ⊥) → form_of id ≡ input_register
no_form id none =
    rw (
      ne_eqb id 2 (none input_register),
      ne_eqb id 6 (none scaler),
      ne_eqb id 7 (none vdc),
      ne_eqb id 3 (none (opaque adc)),
      ne_eqb id 4 (none (opaque tdc)),
      ne_eqb id 10 (none (opaque pcos)),
      ne_eqb id 11 (none (opaque adc_las)),
      ne_eqb id 12 (none (opaque tdc_las)),
      ne_eqb id 13 (none (opaque fera)),
      ne_eqb id 14 (none (opaque feret)),
    )

pub none_there : (id : ℕ) → None ≡ form_with_id id → form_of id ≡ input_register
none_there id none = no_form id (no_id id none)

-- the layout has a form of an id exactly where the code has one
pub form_there : (id : ℕ) → is_some (form_with_id id) ≡ eqb id (id_of (form_of id))
form_there id = go (form_with_id id) refl
  where
    go : (o : Option Form) → o ≡ form_with_id id → is_some o ≡ eqb id (id_of (form_of id))
    go None e = rw (none_there id e, ne_eqb id 2 (no_id id e input_register))
    go (Some f) e = rw (id_of_form id e, form_back (form f), eq-eqb (id_of (form f)) (id_of (form f)) refl)
