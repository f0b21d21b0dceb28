-- What follows from the tables: an id names one form, is not the check sum's and fits its bits, and a content has a size that its id allows.
-- Assumes nothing.
use Prim.Native.Nat.{◌%◌, ◌^◌, ◌<◌}
use native.Mathlib.Omega.{arith}
use mathlib.Core.Path.{◌≡◌, refl}
use mathlib.Core.Bool.{false}
use lib.Dec.{T, eqb}
use lib.ListN.{length}
use borrow.Author.Tests.{eq-eqb}
use Rattle.event.specs.Parser.{All, each}
use Rattle.event.proofs.Elements.{each_length}
use Rattle.rcnp_layout.specs.Event.{adc, tdc, pcos, adc_las, tdc_las, fera, feret, Form, input_register, scaler, vdc, opaque, Content, Region, id_of, sum_id, forms, form_of}
use Rattle.rcnp_layout.specs.Layout.{scaler_words, content_words, size_of, allowed_size}
use Rattle.rcnp_layout.specs.Reading.{Header}

-- what a region's header says
abbrev pub header_in : Region → Header
header_in g = record { form = g.form; size = size_of g }

-- every form stands in the table
every : (P : Form → Type 0) → All P forms → (f : Form) → P f
every P a input_register = a.0
every P a scaler = a.1.0
every P a vdc = a.1.1.0
every P a (opaque adc) = a.1.1.1.0
every P a (opaque tdc) = a.1.1.1.1.0
every P a (opaque pcos) = a.1.1.1.1.1.0
every P a (opaque adc_las) = a.1.1.1.1.1.1.0
every P a (opaque tdc_las) = a.1.1.1.1.1.1.1.0
every P a (opaque fera) = a.1.1.1.1.1.1.1.1.0
every P a (opaque feret) = a.1.1.1.1.1.1.1.1.1.0

pub form_back : (f : Form) → form_of (id_of f) ≡ f
form_back = every (λ f. form_of (id_of f) ≡ f) (refl, (refl, (refl, (refl, (refl, (refl, (refl, (refl, (refl, (refl, tt))))))))))

pub not_sum : (f : Form) → eqb sum_id (id_of f) ≡ false
not_sum = every (λ f. eqb sum_id (id_of f) ≡ false) (refl, (refl, (refl, (refl, (refl, (refl, (refl, (refl, (refl, (refl, tt))))))))))

pub id_fits : (f : Form) → id_of f < 2 ^ 4
id_fits = every (λ f. id_of f < 2 ^ 4) (omega arith)

pub size_allowed : (f : Form) (c : Content f) → T (allowed_size f (length (content_words f c)))
size_allowed input_register w = tt
size_allowed scaler vs = rw (eq-eqb (length (each scaler_words vs) % 2) 0 (omega (arith, each_length scaler_words 2 (λ v. refl) vs))) tt
size_allowed vdc xs = tt
size_allowed (opaque k) ws = tt
