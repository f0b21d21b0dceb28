-- A row of kind 12 under its head: the refusal that it meets, by one test of the code; and where such rows end.
-- Assumes nothing.
use Prim.Native.Nat.{ℕ, zero, suc, ◌+◌, ◌/◌, ◌%◌, ◌≤◌, ◌<◌}
use native.Mathlib.Omega.{arith}
use mathlib.Core.Path.{◌≡◌, refl, sym}
use mathlib.Core.Bool.{Bool, true, false, not, ◌&&◌}
use mathlib.Core.List.{List, [], ◌∷◌}
use lib.Dec.{T, eqb, leb, eqb→eq, ltb→lt, lt→ltb, leb→le, le→leb}
use lib.ListN.{length, get_or, drop}
use borrow.Author.Tests.{eq-eqb, ne_eqb}
use Rattle.event.specs.declared.Row.{Row}
use Rattle.event.specs.Parser.{ok, fault_in}
use Rattle.event.specs.Writing.{row_tests, of_kind, no_row}
use Rattle.event.proofs.RowFaults.{Judged, judged, Tested, tested, each_of, three}
use Rattle.event.proofs.RowJudged.{row_taken}
use Rattle.s800_layout.specs.Event.{SampleHead}
use Rattle.s800_layout.specs.Layout.{sample_datum_row, sample_datum_checks}
use Rattle.s800_layout.specs.Writing.{sample_datum_of, sample_datum, after_data}
use Rattle.s800_writer.specs.Rows.{sample_datum_fault}
use Rattle.event.specs.declared.refusal.Refusal.{Refusal}
use Rattle.event.specs.Scanning.{RefusedAs}
use Rattle.event.proofs.Answers.{Failed}
use Rattle.s800_writer.proofs.Failures.{row_failed}

ruleset tests = (arith, ltb→lt, lt→ltb, leb→le, le→leb)

module _ (h : SampleHead) (least : ℕ) (r : Row) where
  abbrev Keeps : Type 0
  Keeps = (r.unit ≡ h.sample) × (r.channel % 64 ≡ h.channel) × (r.channel ≤ 255) × (r.datum ≤ 1023) × (least ≤ r.channel / 64)

  judgment : Judged (fault_in (row_tests (of_kind 12) sample_datum_of (sample_datum_row h) (sample_datum_checks 22 least) r)) r.kind 12 Keeps
  judgment = judged 12 sample_datum_of (sample_datum_row h) (sample_datum_checks 22 least) r (refl, (refl, (refl, tt)))
      (λ p. (p.0.1, omega (arith, p.0.2), omega (tests, p.1.0), omega (tests, p.1.1.0), omega (tests, p.1.1.1.0)))
      (λ k p. ((k, p.0, omega (arith, p.1), refl), omega (tests, p)))

  pub datum_tested : Tested (sample_datum_fault h least r) r.kind 12
      ((((eqb r.unit h.sample && eqb (r.channel % 64) h.channel) && leb r.channel 255) && leb r.datum 1023) && leb least (r.channel / 64))
  unfolding sample_datum_fault
  datum_tested = tested judgment ((same && small) && last) to from
    where
      same : Bool
      same = (eqb r.unit h.sample && eqb (r.channel % 64) h.channel) && leb r.channel 255

      small : Bool
      small = leb r.datum 1023

      last : Bool
      last = leb least (r.channel / 64)

      to : T ((same && small) && last) → Keeps
      to t =
          let x = each_of same small last t in
          let y = each_of (eqb r.unit h.sample) (eqb (r.channel % 64) h.channel) (leb r.channel 255) x.0 in
          (eqb→eq r.unit h.sample y.0, eqb→eq (r.channel % 64) h.channel y.1, leb→le r.channel 255 y.2, leb→le r.datum 1023 x.1, leb→le least (r.channel / 64) x.2)

      from : Keeps → T ((same && small) && last)
      from p = three same small last
          (three (eqb r.unit h.sample) (eqb (r.channel % 64) h.channel) (leb r.channel 255)
          (rw (eq-eqb r.unit h.sample p.0) tt) (rw (eq-eqb (r.channel % 64) h.channel p.1) tt) (le→leb r.channel 255 p.2))
          (le→leb r.datum 1023 p.3) (le→leb least (r.channel / 64) p.4)

  pub datum_bounds : 0 ≡ sample_datum_fault h least r → (r.channel ≤ 255) × (r.datum ≤ 1023)
  unfolding sample_datum_fault
  datum_bounds e = let p = judgment.kept e in (p.2, p.3)

  module _ (rs : List Row) (i : ℕ) (e : r ≡ get_or rs i no_row) where
    pub datum_taken : 0 ≡ sample_datum_fault h least r → (i < length rs) × (sample_datum h least i (drop i rs) ≡ ok (sample_datum_of r) (i + 1) (drop (i + 1) rs))
    unfolding sample_datum_fault
    datum_taken f = row_taken (of_kind 12) sample_datum_of (sample_datum_row h) (sample_datum_checks 22 least) refl (λ a. (tt, (tt, (tt, tt)))) rs i e f

    pub datum_refused : {refused : Refusal} → Failed (sample_datum_fault h least r) i refused → RefusedAs (sample_datum h least i (drop i rs)) refused
    unfolding sample_datum_fault
    datum_refused = row_failed (of_kind 12) sample_datum_of (sample_datum_row h) (sample_datum_checks 22 least) refl (λ a. (tt, (tt, (tt, tt)))) rs i e refl

-- where the rows of kind 12 end
after_at : (rs : List Row) (i : ℕ) → after_data (drop i rs) ≡ not (of_kind 12 (get_or rs i no_row))
after_at [] zero = refl
after_at [] (suc i) = refl
after_at (r ∷ rs) zero = refl
after_at (r ∷ rs) (suc i) = after_at rs i

module _ (rs : List Row) (i : ℕ) {r : Row} (e : r ≡ get_or rs i no_row) where
  pub data_over : (r.kind ≡ 12 → ⊥) → false ≡ not (after_data (drop i rs))
  data_over n = rw (after_at rs i, ← e, ne_eqb 12 r.kind (λ k. n (sym k)))

  pub data_going : r.kind ≡ 12 → true ≡ not (after_data (drop i rs))
  data_going k = rw (after_at rs i, ← e, eq-eqb 12 r.kind (sym k))
