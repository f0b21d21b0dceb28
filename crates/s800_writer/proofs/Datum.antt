-- A time or an energy after the channels of a set: the refusal that the code finds is the one of the row's tests.
-- Assumes nothing.
use Prim.Native.Nat.{ℕ, ◌+◌, ◌-◌, ◌^◌, ◌<◌}
use native.Mathlib.Omega.{arith}
use mathlib.Core.Path.{◌≡◌, refl, sym, ap, ◌∙◌}
use mathlib.Core.Bool.{Bool, true, false, cond, not, ◌&&◌, ◌||◌}
use mathlib.Core.List.{List}
use lib.Dec.{T, eqb, ltb, leb, eqb→eq, ltb→lt, leb→le}
use borrow.Author.Tests.{eq-eqb, lt-ltb, le-leb}
use Rattle.event.specs.declared.Row.{Row}
use Rattle.event.specs.Parser.{Test, Passed, fault_in, fresh, member}
use Rattle.event.specs.Channels.{present, others, Blocked}
use Rattle.event.specs.Writing.{row_tests, of_kind}
use Rattle.event.proofs.ChannelLaws.{among, others_below}
use Rattle.event.proofs.Codes.{T_true}
use Rattle.event.proofs.Elements.{both}
use Rattle.event.proofs.RowCodes.{SameFields}
use Rattle.event.proofs.RowFaults.{judged, tested, test_number}
use Rattle.s800_layout.specs.Layout.{datum_row, datum_checks}
use Rattle.s800_layout.specs.Writing.{datum_of}
use Rattle.s800_format.specs.declared.Format.{Format}
use Rattle.s800_format.specs.Format.{bits_of, format_of}
use Rattle.s800_writer.specs.Rows.{datum_fault}

nested : (a b c : Bool) → ◌≡◌ {A = ℕ} (cond a (cond b (cond c 22 0) 22) 22) (cond (a && (b && not c)) 0 22)
nested true true true = refl
nested true true false = refl
nested true false c = refl
nested false b c = refl

-- barred, or seen
split : (a b : Bool) → not (a || not b) ≡ not a && b
split true b = refl
split false true = refl
split false false = refl

module _ (m : Format) {set : ℕ} {seen : List ℕ} (s : Blocked m.barred set seen) (r : Row) where
  abbrev channel : ℕ
  channel = r.channel - m.base

  abbrev fields : Bool
  fields = (eqb r.unit 0 && ltb channel 16) && ltb r.datum (2 ^ bits_of m)

  abbrev checks : List Test
  checks = datum_checks 22 22 (format_of m) seen (datum_of m.base r)

  free : channel < 16 → not (present set channel) ≡ member channel (others 0 16 m.barred) && fresh channel seen
  free h = ap not (s.holds channel) ∙ split (present m.barred channel) (fresh channel seen) ∙ ap (◌&& fresh channel seen) (sym (among m.barred 0 16 channel (omega arith) (omega arith)))

  abbrev Free : Type 0
  Free = T (leb m.base r.channel && (fields && not (present set channel)))

  abbrev Rules : Type 0
  Rules = SameFields r (datum_row m.kind m.base (datum_of m.base r)) × Passed checks

  to : r.kind ≡ m.kind → Free → Rules
  to same t =
      let a = both (leb m.base r.channel) _ t in
      let b = both fields _ a.1 in
      let c = both (eqb r.unit 0 && ltb channel 16) _ b.0 in
      let d = both (eqb r.unit 0) _ c.0 in
      let low = ltb→lt channel 16 d.1 in
      let f = both (member channel (others 0 16 m.barred)) (fresh channel seen) (rw (free low) at b.1) in
      let e : r.channel ≡ m.base + channel = let l = leb→le m.base r.channel a.0 in omega arith in
      ((same, eqb→eq r.unit 0 d.0, e, refl), (f.0, (c.1, (f.1, tt))))

  from : Rules → Free
  from h =
      let p = h.1 in
      let low : channel < 0 + 16 = others_below m.barred 0 16 channel p.0 in
      let low' : channel < 16 = omega arith in
      rw (le-leb m.base r.channel (omega (arith, h.0.2)), eq-eqb r.unit 0 h.0.1, lt-ltb channel 16 low', T_true (ltb r.datum (2 ^ bits_of m)) p.1.0, free low', T_true (member channel (others 0 16 m.barred)) p.0) p.1.1.0

  pub datum_fault_lem : fault_in (row_tests (of_kind m.kind) (datum_of m.base) (datum_row m.kind m.base) (datum_checks 22 22 (format_of m) seen) r) ≡ datum_fault m set r
  unfolding datum_fault
  datum_fault_lem =
      test_number (tested (judged m.kind (datum_of m.base) (datum_row m.kind m.base) (datum_checks 22 22 (format_of m) seen) r (refl, (refl, (refl, tt))) from to)
      (leb m.base r.channel && (fields && not (present set channel))) (λ t. t) (λ t. t))
      ∙ ap (λ (n : ℕ). cond (eqb m.kind r.kind) n 21) (sym (nested (leb m.base r.channel) fields (present set channel)))
