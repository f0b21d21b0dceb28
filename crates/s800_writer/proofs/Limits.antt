-- The refusal that the code finds for a row is the one of the row's tests, kind by kind; and where the next packet begins.
-- Assumes nothing.
use Prim.Native.Nat.{ℕ, suc, ◌/◌, ◌^◌, ◌≤◌, ◌<◌}
use native.Mathlib.Omega.{arith}
use mathlib.Core.Path.{◌≡◌, refl, sym}
use mathlib.Core.Bool.{Bool, true, false, cond, not, ◌&&◌}
use mathlib.Core.List.{List}
use lib.Dec.{eqb, leb, ltb→lt, leb→le, lt→ltb, le→leb}
use lib.ListN.{length, drop}
use borrow.Author.Tests.{eqb-true}
use Rattle.event.specs.declared.Row.{Row}
use Rattle.event.specs.declared.StampOrder.{StampOrder}
use Rattle.event.specs.declared.StampOrder.TheVariants.{Crossed, Rising}
use Rattle.event.specs.Parser.{Test, Passed, fault_in}
use Rattle.event.specs.Rows.{row}
use Rattle.event.specs.Words.{below_checks}
use Rattle.event.specs.Writing.{row_tests, of_kind, at_kind, rows_in, row_at}
use Rattle.event.proofs.Codes.{true_T}
use Rattle.event.proofs.RowCodes.{SameFields}
use Rattle.event.proofs.RowFaults.{OfField, judged, tested, test_number, each_of, three, datum_tested}
use Rattle.event.proofs.RowsIn.{rows_count}
use Rattle.event.proofs.RowJudged.{rows_from_lem, rows_over}
use Rattle.s800_layout.specs.Layout.{anode_row, register_row, stamp_row, number_row, anode_checks, register_checks, stamp_checks, number_checks, sample_head_row, sample_head_checks}
use Rattle.s800_layout.specs.Writing.{anode_of, registers_of, stamp_of, number_of, sample_head_of}
use Rattle.s800_writer.specs.Rows.{limits_fault, time_fault}

-- a row of another kind, or the end of the rows
pub other_there : (xs : List ℕ) (i k : ℕ) {r : Row} → i < length xs / 4 → r ≡ row_at xs i → not (eqb k r.kind) ≡ not (at_kind k (drop i (rows_in xs)))
other_there xs i k h e = rw (rows_from_lem (rows_in xs) i (rw (rows_count xs) h), e)

pub rows_ended : (xs : List ℕ) (i k : ℕ) → length xs / 4 ≤ i → false ≡ not (at_kind k (drop i (rows_in xs)))
rows_ended xs i k h = rw (rows_over (rows_in xs) i (rw (rows_count xs) h)).0

-- a row of which each field has a largest number
module _ {A : Type 0} (k u c d : ℕ) (fields : Row → A) (print : A → Row) (checks : A → List Test) (r : Row) where
  abbrev Within : Type 0
  Within = (r.unit ≤ u) × (r.channel ≤ c) × (r.datum ≤ d)

  abbrev Rules : Type 0
  Rules = SameFields r (print (fields r)) × Passed (checks (fields r))

  by_limits : OfField (checks (fields r)) → (Rules → Within) → (r.kind ≡ k → Within → Rules) → fault_in (row_tests (of_kind k) fields print checks r) ≡ limits_fault k u c d r
  unfolding limits_fault
  by_limits all to from = test_number (tested (judged k fields print checks r all to from) ((leb r.unit u && leb r.channel c) && leb r.datum d)
      (λ t.
      let x = each_of (leb r.unit u) (leb r.channel c) (leb r.datum d) t in
      (leb→le r.unit u x.0, leb→le r.channel c x.1, leb→le r.datum d x.2))
      (λ y. three (leb r.unit u) (leb r.channel c) (leb r.datum d) (le→leb r.unit u y.0) (le→leb r.channel c y.1) (le→leb r.datum d y.2)))

-- what a row without a fault has
pub record Bounded (k u c d : ℕ) (r : Row) : Type 0 where
  pub kind : r.kind ≡ k
  pub unit : r.unit ≤ u
  pub channel : r.channel ≤ c
  pub datum : r.datum ≤ d

pub bounded : (k u c d : ℕ) (r : Row) → 0 ≡ limits_fault k u c d r → Bounded k u c d r
unfolding limits_fault
bounded k u c d r = go (eqb k r.kind) refl ((leb r.unit u && leb r.channel c) && leb r.datum d) refl
  where
    go : (a : Bool) → eqb k r.kind ≡ a → (b : Bool) → (leb r.unit u && leb r.channel c) && leb r.datum d ≡ b → ◌≡◌ {A = ℕ} 0 (cond a (cond b 0 22) 21) → Bounded k u c d r
    go true p true q e =
        let x = each_of (leb r.unit u) (leb r.channel c) (leb r.datum d) (true_T _ q) in
        record { kind = sym (eqb-true k r.kind p); unit = leb→le r.unit u x.0; channel = leb→le r.channel c x.1; datum = leb→le r.datum d x.2 }
    go true p false q e = absurd (omega arith)
    go false p b q e = absurd (omega arith)

ruleset tests = (arith, ltb→lt, lt→ltb, leb→le, le→leb)

-- a row of which only the datum is free
pub plain_fault : (k bound : ℕ) (r : Row) → fault_in (row_tests (of_kind k) (λ r. r.datum) (row k 0 0) (below_checks 22 (suc bound)) r) ≡ limits_fault k 0 0 bound r
plain_fault k bound r = by_limits k 0 0 bound (λ r. r.datum) (row k 0 0) (below_checks 22 (suc bound)) r (refl, tt)
    (λ p. omega tests) (λ e h. ((e, omega arith, omega arith, refl), omega tests))

pub head_fault_lem : (r : Row) → fault_in (row_tests (of_kind 8) sample_head_of sample_head_row (sample_head_checks 22) r) ≡ limits_fault 8 511 63 0 r
head_fault_lem r = by_limits 8 511 63 0 sample_head_of sample_head_row (sample_head_checks 22) r (refl, (refl, tt)) (λ p. omega tests) (λ e h. ((e, refl, refl, omega arith), omega tests))

pub anode_fault : (r : Row) → fault_in (row_tests (of_kind 9) anode_of anode_row (anode_checks 22) r) ≡ limits_fault 9 0 65535 65535 r
anode_fault r = by_limits 9 0 65535 65535 anode_of anode_row (anode_checks 22) r (refl, (refl, tt)) (λ p. omega tests) (λ e h. ((e, omega arith, refl, refl), omega tests))

pub hits_fault : (r : Row) → fault_in (row_tests (of_kind 10) registers_of register_row (register_checks 22) r) ≡ limits_fault 10 65535 65535 65535 r
hits_fault r = by_limits 10 65535 65535 65535 registers_of register_row (register_checks 22) r (refl, (refl, (refl, tt))) (λ p. omega tests) (λ e h. ((e, refl, refl, refl), omega tests))

pub stamp_fault_lem : (o : StampOrder) (r : Row) → fault_in (row_tests (of_kind 2) (stamp_of o) (stamp_row o) (stamp_checks 22) r) ≡ limits_fault 2 0 0xffffffff 0xffffffff r
stamp_fault_lem Crossed r = by_limits 2 0 0xffffffff 0xffffffff (stamp_of Crossed) (stamp_row Crossed) (stamp_checks 22) r (refl, (refl, (refl, (refl, tt))))
    (λ p. omega tests) (λ e h. ((e, omega arith, omega arith, omega arith), omega tests))
stamp_fault_lem Rising r = by_limits 2 0 0xffffffff 0xffffffff (stamp_of Rising) (stamp_row Rising) (stamp_checks 22) r (refl, (refl, (refl, (refl, tt))))
    (λ p. omega tests) (λ e h. ((e, omega arith, omega arith, omega arith), omega tests))

pub number_fault : (r : Row) → fault_in (row_tests (of_kind 3) number_of number_row (number_checks 22) r) ≡ limits_fault 3 0 65535 0xffffffff r
number_fault r = by_limits 3 0 65535 0xffffffff number_of number_row (number_checks 22) r (refl, (refl, (refl, tt))) (λ p. omega tests) (λ e h. ((e, omega arith, refl, omega arith), omega tests))

-- the time of a pair
pub time_fault_lem : (channel : ℕ) (r : Row) → fault_in (row_tests (of_kind 5) (λ r. r.datum) (row 5 0 channel) (below_checks 22 (2 ^ 12)) r) ≡ time_fault channel r
unfolding time_fault
time_fault_lem channel r = test_number (datum_tested 5 0 channel (2 ^ 12) r)
