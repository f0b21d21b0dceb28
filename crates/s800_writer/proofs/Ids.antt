-- How many ids the packet of a tag may have, as the code looks it up.
-- Assumes nothing.
use Prim.Native.Nat.{ℕ, suc, ◌+◌, ◌*◌, ◌/◌, ◌%◌, ◌<◌}
use native.Mathlib.Omega.{arith}
use mathlib.Core.Path.{◌≡◌, refl, sym, ap, ◌∙◌}
use mathlib.Core.Logic.{◌⊎◌, inl, inr}
use mathlib.Core.List.{List, [], ◌∷◌}
use lib.Dec.{eqb, eqb→eq}
use lib.ListN.{get_or}
use borrow.Author.Tests.{eq-eqb, ne_eqb}
use Rattle.event.proofs.Tables.{holds_below, holds_below_lem}
use Rattle.s800_layout.specs.Event.{focal_plane_time, intermediate_crdc, target_pin, intermediate_track, intermediate_ppac, object_scintillator, Form, trigger, time_of_flight, scintillator, ion_chamber, crdc, hodoscope, object_pin, vme_adc, opaque, form_of, tag, largest_id}
use Rattle.s800_layout.proofs.Lengths.{form_back}
use Rattle.s800_writer.specs.Packets.{id_count}

-- the tag of a form, and of none
pub count_known : (f : Form) {t : ℕ} → t ≡ tag f → suc (largest_id f) ≡ id_count t
unfolding id_count
count_known f e = rw (e, form_back f, eq-eqb (tag f) (tag f) refl)

count_none : (t : ℕ) → ((f : Form) → t ≡ tag f → ⊥) → 0 ≡ id_count t
unfolding id_count
count_none t z = rw (ne_eqb (tag (form_of t)) t (λ e. z (form_of t) (sym e)))

-- by x, for tag 0x58x0
abbrev ids : List ℕ
ids = 0 ∷ 1 ∷ 1 ∷ 1 ∷ 2 ∷ 1 ∷ 1 ∷ 1 ∷ 1 ∷ 1 ∷ 1 ∷ 3 ∷ 4 ∷ 0 ∷ 0 ∷ 0 ∷ []

ids_right : (x : ℕ) → x < 16 → get_or ids x 0 ≡ id_count (0x5800 + 16 * x)
unfolding id_count holds_below
ids_right x h = eqb→eq (get_or ids x 0) (id_count (0x5800 + 16 * x)) (holds_below_lem 16 (λ n. eqb (get_or ids n 0) (id_count (0x5800 + 16 * n))) tt x h)

pub count_looked_up : (t : ℕ) → t / 256 ≡ 0x58 → t % 16 ≡ 0 → get_or ids (t / 16 % 16) 0 ≡ id_count t
count_looked_up t h l =
    let whole : 0x5800 + 16 * (t / 16 % 16) ≡ t = omega arith in
    ids_right (t / 16 % 16) (omega arith) ∙ ap id_count whole

-- every tag is 0x58x0, 0x5801 or 0x5802
shape : (f : Form) → (tag f / 256 ≡ 0x58) × ((tag f % 16 ≡ 0) ⊎ ((tag f ≡ 0x5801) ⊎ (tag f ≡ 0x5802)))
shape trigger = (refl, inr (inl refl))
shape time_of_flight = (refl, inr (inr refl))
shape scintillator = (refl, inl refl)
shape ion_chamber = (refl, inl refl)
shape crdc = (refl, inl refl)
shape hodoscope = (refl, inl refl)
shape object_pin = (refl, inl refl)
shape vme_adc = (refl, inl refl)
shape (opaque focal_plane_time) = (refl, inl refl)
shape (opaque intermediate_crdc) = (refl, inl refl)
shape (opaque target_pin) = (refl, inl refl)
shape (opaque intermediate_track) = (refl, inl refl)
shape (opaque intermediate_ppac) = (refl, inl refl)
shape (opaque object_scintillator) = (refl, inl refl)

pub count_elsewhere : (t : ℕ) → (t / 256 ≡ 0x58 → ⊥) → 0 ≡ id_count t
count_elsewhere t z = count_none t (λ f e. z (ap (◌/ 256) e ∙ (shape f).0))

pub count_between : (t : ℕ) → (t % 16 ≡ 0 → ⊥) → (t ≡ 0x5801 → ⊥) → (t ≡ 0x5802 → ⊥) → 0 ≡ id_count t
count_between t low first second = count_none t (λ f e. go f e (shape f).1)
  where
    go : (f : Form) → t ≡ tag f → (tag f % 16 ≡ 0) ⊎ ((tag f ≡ 0x5801) ⊎ (tag f ≡ 0x5802)) → ⊥
    go f e (inl q) = low (ap (◌% 16) e ∙ q)
    go f e (inr (inl q)) = first (e ∙ q)
    go f e (inr (inr q)) = second (e ∙ q)
