-- A packet's own row: the refusal that the code finds, and the packet after it. Over plain values.
-- Assumes nothing.
use Prim.Native.Nat.{ℕ, suc, ◌≤◌}
use native.Mathlib.Omega.{arith}
use mathlib.Core.Path.{◌≡◌, refl, sym, ◌∙◌}
use mathlib.Core.Bool.{Bool, true, false, cond, ◌&&◌}
use mathlib.Core.List.{List}
use lib.Dec.{eqb, ltb, leb}
use lib.ListN.{get_or, drop}
use borrow.Author.Tests.{eq-eqb, eqb-true, leb-true, leb-false, ltb-true, ltb-false}
use Rattle.event.specs.declared.Row.{Row}
use Rattle.event.specs.Scanning.{Writes}
use Rattle.event.specs.Writing.{is_same_row, no_row}
use Rattle.event.proofs.RowJudged.{row_taken}
use Rattle.event.proofs.WritingTurns.{writes_refused}
use Rattle.s800_layout.specs.Event.{Opaque, Form, trigger, time_of_flight, scintillator, ion_chamber, crdc, hodoscope, object_pin, vme_adc, opaque, form_of, tag, largest_id, focal_plane_time, intermediate_crdc, target_pin, intermediate_track, intermediate_ppac, object_scintillator}
use Rattle.s800_layout.specs.Layout.{packet_words, id_checks}
use Rattle.s800_layout.specs.Writing.{of_tag, header_of, header_row, packet}
use Rattle.s800_writer.specs.Packets.{id_count, header_fault, WritesPacket}
use Rattle.event.specs.Refusal.{PartAnswer}
use Rattle.std.specs.Prelude.{Err}
use Rattle.event.specs.declared.refusal.Refusal.{Refusal}
use Rattle.event.specs.Refusal.{PartAnswer}
use Rattle.event.proofs.Answers.{Failed}
use Rattle.s800_writer.proofs.Failures.{row_failed, refused_first}
use Rattle.s800_format.specs.declared.tag.Tag.{Tag}
use Rattle.s800_format.specs.declared.tag.Tag.TheVariants as is
use Rattle.s800_format.specs.Tag.{number}

-- none of the tags of the forms that have words of their own
pub record Remaining (t : Tag) : Type 0 where
  pub not_trigger : t ≡ is.Trigger → ⊥
  pub not_time_of_flight : t ≡ is.TimeOfFlight → ⊥
  pub not_scintillator : t ≡ is.Scintillator → ⊥
  pub not_ion_chamber : t ≡ is.IonChamber → ⊥
  pub not_crdc : t ≡ is.Crdc → ⊥
  pub not_hodoscope : t ≡ is.Hodoscope → ⊥
  pub not_object_pin : t ≡ is.ObjectPin → ⊥
  pub not_vme_adc : t ≡ is.VmeAdc → ⊥

-- is an opaque form's, where it is one of a form
pub an_opaque : (t : Tag) → Remaining t → tag (form_of (number t)) ≡ number t → (k : Opaque) × (form_of (number t) ≡ opaque k)
an_opaque is.Event n e = absurd (omega arith)
an_opaque is.Trigger n e = absurd (n.not_trigger refl)
an_opaque is.TimeOfFlight n e = absurd (n.not_time_of_flight refl)
an_opaque is.Timestamp n e = absurd (omega arith)
an_opaque is.EventNumber n e = absurd (omega arith)
an_opaque is.Scintillator n e = absurd (n.not_scintillator refl)
an_opaque is.IonChamber n e = absurd (n.not_ion_chamber refl)
an_opaque is.IonChamberEnergies n e = absurd (omega arith)
an_opaque is.FocalPlaneTime n e = (focal_plane_time, refl)
an_opaque is.Crdc n e = absurd (n.not_crdc refl)
an_opaque is.CrdcSamples n e = absurd (omega arith)
an_opaque is.CrdcAnode n e = absurd (omega arith)
an_opaque is.IntermediateCrdc n e = (intermediate_crdc, refl)
an_opaque is.TargetPin n e = (target_pin, refl)
an_opaque is.IntermediateTrack n e = (intermediate_track, refl)
an_opaque is.IntermediatePpac n e = (intermediate_ppac, refl)
an_opaque is.ObjectScintillator n e = (object_scintillator, refl)
an_opaque is.ObjectPin n e = absurd (n.not_object_pin refl)
an_opaque is.Hodoscope n e = absurd (n.not_hodoscope refl)
an_opaque is.VmeAdc n e = absurd (n.not_vme_adc refl)

-- a form's tag is a tag
pub some_tag : (f : Form) → (t : Tag) × (tag f ≡ number t)
some_tag trigger = (is.Trigger, refl)
some_tag time_of_flight = (is.TimeOfFlight, refl)
some_tag scintillator = (is.Scintillator, refl)
some_tag ion_chamber = (is.IonChamber, refl)
some_tag crdc = (is.Crdc, refl)
some_tag hodoscope = (is.Hodoscope, refl)
some_tag object_pin = (is.ObjectPin, refl)
some_tag vme_adc = (is.VmeAdc, refl)
some_tag (opaque focal_plane_time) = (is.FocalPlaneTime, refl)
some_tag (opaque intermediate_crdc) = (is.IntermediateCrdc, refl)
some_tag (opaque target_pin) = (is.TargetPin, refl)
some_tag (opaque intermediate_track) = (is.IntermediateTrack, refl)
some_tag (opaque intermediate_ppac) = (is.IntermediatePpac, refl)
some_tag (opaque object_scintillator) = (is.ObjectScintillator, refl)

module _ (r : Row) where
  module _ (same : r.kind ≡ 1) where
    pub header_unknown : {n : ℕ} → n ≡ id_count r.unit → n ≡ 0 → 21 ≡ header_fault r
    unfolding id_count
    header_unknown e z = go (eqb (tag (form_of r.unit)) r.unit) refl (sym z ∙ e)
      where
        go : (b : Bool) → eqb (tag (form_of r.unit)) r.unit ≡ b → 0 ≡ cond b (suc (largest_id (form_of r.unit))) 0 → 21 ≡ header_fault r
        go true p q = absurd (omega arith)
        go false p q = rw (eq-eqb 1 r.kind (sym same), p)

    -- a tag of a form: then the id and the datum
    module _ {n : ℕ} (e : n ≡ id_count r.unit) (z : n ≡ 0 → ⊥) where
      known : (eqb (tag (form_of r.unit)) r.unit ≡ true) × (n ≡ suc (largest_id (form_of r.unit)))
      unfolding id_count
      known = go (eqb (tag (form_of r.unit)) r.unit) e
        where
          go : (b : Bool) → n ≡ cond b (suc (largest_id (form_of r.unit))) 0 → (b ≡ true) × (n ≡ suc (largest_id (form_of r.unit)))
          go true p = (refl, p)
          go false p = absurd (z p)

      as_header : header_fault r ≡ cond (ltb r.channel n && eqb r.datum 0) 0 22
      as_header =
          let k = known.0 in
          let t = eqb-true (tag (form_of r.unit)) r.unit k in
          rw (eq-eqb 1 r.kind (sym same), k, eq-eqb r.kind 1 same, eq-eqb r.unit (tag (form_of r.unit)) (sym t), eq-eqb r.channel r.channel refl, known.1)
          (go (eqb r.datum 0) (leb r.channel (largest_id (form_of r.unit))) refl (ltb r.channel (suc (largest_id (form_of r.unit)))) refl)
        where
          go : (a b : Bool) → leb r.channel (largest_id (form_of r.unit)) ≡ b → (c : Bool) → ltb r.channel (suc (largest_id (form_of r.unit))) ≡ c
              → ◌≡◌ {A = ℕ} (cond a (cond b 0 22) 22) (cond (c && a) 0 22)
          go true true p true q = refl
          go true true p false q = absurd (omega (arith, leb-true r.channel (largest_id (form_of r.unit)) p, ltb-false r.channel (suc (largest_id (form_of r.unit))) q))
          go true false p true q = absurd (omega (arith, leb-false r.channel (largest_id (form_of r.unit)) p, ltb-true r.channel (suc (largest_id (form_of r.unit))) q))
          go true false p false q = refl
          go false b p true q = refl
          go false b p false q = refl

      pub header_good : ltb r.channel n && eqb r.datum 0 ≡ true → 0 ≡ header_fault r
      header_good h = sym (as_header ∙ rw h)

      pub header_bad : ltb r.channel n && eqb r.datum 0 ≡ false → 22 ≡ header_fault r
      header_bad h = sym (as_header ∙ rw h)

-- a row without a fault: its tag is its form's, and its id one of the form's
module _ (rs : List Row) (i : ℕ) {r : Row} (e : r ≡ get_or rs i no_row) where
  pub own_refused : {b after : List ℕ} {refused : Refusal} → Failed (header_fault r) i refused → Writes 16 packet_words (packet i (drop i rs)) rs 0 b (Err refused) after
  own_refused t =
      writes_refused 16 packet_words (refused_first _ (row_failed (λ r. of_tag (tag (form_of r.unit)) r) header_of header_row (λ h. id_checks 22 h.form h.id) refl (λ h. (tt, tt)) rs i e refl t)) refl

  module _ (f : 0 ≡ header_fault r) where
    pub own_known : (tag (form_of r.unit) ≡ r.unit) × (r.channel ≤ largest_id (form_of r.unit))
    own_known = go (eqb 1 r.kind) (eqb (tag (form_of r.unit)) r.unit) refl (is_same_row r (header_row (header_of r))) (leb r.channel (largest_id (form_of r.unit))) refl f
      where
        go : (a b : Bool) → eqb (tag (form_of r.unit)) r.unit ≡ b → (s c : Bool) → leb r.channel (largest_id (form_of r.unit)) ≡ c
            → ◌≡◌ {A = ℕ} 0 (cond (a && b) (cond s (cond c 0 22) 22) 21) → (tag (form_of r.unit) ≡ r.unit) × (r.channel ≤ largest_id (form_of r.unit))
        go true true p true true q h = (eqb-true (tag (form_of r.unit)) r.unit p, leb-true r.channel (largest_id (form_of r.unit)) q)
        go true true p true false q h = absurd (omega arith)
        go true true p false c q h = absurd (omega arith)
        go true false p s c q h = absurd (omega arith)
        go false b p s c q h = absurd (omega arith)

    pub own_taken : {b after : List ℕ} {p : PartAnswer} → WritesPacket (form_of r.unit) r.channel rs i b p after → Writes 16 packet_words (packet i (drop i rs)) rs 0 b p after
    own_taken s = rw (row_taken (λ r. of_tag (tag (form_of r.unit)) r) header_of header_row (λ h. id_checks 22 h.form h.id) refl (λ h. (tt, tt)) rs i e f).1 s
