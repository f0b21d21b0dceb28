-- A module's first row: the refusal that it meets, by its kind.
-- Assumes nothing.
use Prim.Native.Nat.{ℕ, ◌%◌, ◌^◌, ◌≤◌, ◌<◌}
use native.Mathlib.Omega.{arith}
use mathlib.Core.Path.{◌≡◌, refl, sym, ◌∙◌}
use mathlib.Core.Bool.{Bool, true, false, cond, not}
use mathlib.Core.Logic.{◌⊎◌, ⊎_elim}
use mathlib.Core.List.{List, [], ◌∷◌, ◌++◌}
use lib.Dec.{eqb, ltb, ltb→lt, leb→le}
use borrow.Author.Tests.{eq-eqb, ne_eqb, eqb-true, eqb-false, lt-ltb, le-leb}
use Rattle.event.specs.declared.Row.{Row}
use Rattle.event.specs.Parser.{Test, test, fault_in}
use Rattle.event.specs.Channels.{present, Blocked}
use Rattle.event.specs.Writing.{is_same_row, row_tests, of_kind}
use Rattle.event.proofs.RowCodes.{same_fields, fields_same}
use Rattle.event.proofs.RowFaults.{one_fails, all_hold}
use Rattle.frs_layout.specs.Event.{scaler_geo, pattern_geo}
use Rattle.frs_layout.specs.Layout.{empty_row, module_row, count_checks, counter_checks, geo_checks}
use Rattle.frs_layout.specs.Writing.{starts_module, header_of, first_row, header_checks}
use Rattle.frs_writer.specs.Faults.{header_field_fault, unless_seen, header_fault}
use Rattle.frs_writer.proofs.RowFaults.{geo_fault}
use Rattle.frs_writer.proofs.Faults.{found, found_none, found_first, seen_last}

module _ (r : Row) where
  -- the tests after the kind
  abbrev empty_tests : List Test
  empty_tests = test 22 (is_same_row r (empty_row r.unit)) ∷ geo_checks 22 22 [] r.unit

  abbrev data_tests : List Test
  data_tests = test 22 (is_same_row r (module_row r.unit r.channel r.datum)) ∷ (count_checks 22 r.channel ++ (counter_checks 22 r.datum ++ geo_checks 22 22 [] r.unit))

  pub no_module : (r.kind ≡ 20 → ⊥) → (r.kind ≡ 21 → ⊥) → 21 ≡ header_field_fault r
  unfolding header_field_fault
  no_module m n = rw (ne_eqb 20 r.kind (λ e. m (sym e)), ne_eqb 21 r.kind (λ e. n (sym e)))

  module _ (e : r.kind ≡ 20) where
    by_empty : fault_in empty_tests ≡ header_field_fault r
    unfolding header_field_fault
    by_empty = rw (eq-eqb 20 r.kind (sym e))

    pub empty_wrong : ((r.channel ≡ 0) × (r.datum ≡ 0) → ⊥) → 22 ≡ header_field_fault r
    empty_wrong h = one_fails empty_tests (refl, (refl, (refl, (refl, (refl, tt))))) (λ p. let q = same_fields r (empty_row r.unit) p.0 in h (q.2, q.3)) ∙ by_empty

    pub empty_geo : {n : ℕ} → r.channel ≡ 0 → r.datum ≡ 0 → n ≡ geo_fault r.unit → n ≡ header_field_fault r
    unfolding geo_fault
    empty_geo c d f = f ∙ rw (fields_same r (empty_row r.unit) (e, refl, c, d)) at by_empty

    empty_fields : 0 ≡ header_field_fault r → r.unit < 2 ^ 5
    empty_fields f = let p = all_hold empty_tests (tt, (tt, (tt, (tt, (tt, tt))))) (f ∙ sym by_empty) in omega (arith, ltb→lt)

  module _ (e : r.kind ≡ 21) where
    by_data : fault_in data_tests ≡ header_field_fault r
    unfolding header_field_fault
    by_data = rw (ne_eqb 20 r.kind (λ z. omega arith), eq-eqb 21 r.kind (sym e))

    pub data_wrong : ((1 ≤ r.channel) × (r.channel ≤ 32) × (r.datum < 2 ^ 16) → ⊥) → 22 ≡ header_field_fault r
    data_wrong h = one_fails data_tests (refl, (refl, (refl, (refl, (refl, (refl, (refl, (refl, tt)))))))) (λ p. h (omega (arith, ltb→lt, leb→le))) ∙ by_data

    pub data_geo : {n : ℕ} → 1 ≤ r.channel → r.channel ≤ 32 → r.datum < 2 ^ 16 → n ≡ geo_fault r.unit → n ≡ header_field_fault r
    unfolding geo_fault
    data_geo a b d f = f ∙ rw (fields_same r (module_row r.unit r.channel r.datum) (e, refl, refl, refl), le-leb 1 r.channel a, le-leb r.channel 32 b, lt-ltb r.datum (2 ^ 16) d) at by_data

    data_fields : 0 ≡ header_field_fault r → (r.unit < 2 ^ 5) × (1 ≤ r.channel) × (r.channel ≤ 32) × (r.datum < 2 ^ 16)
    data_fields f = let p = all_hold data_tests (tt, (tt, (tt, (tt, (tt, (tt, (tt, (tt, tt)))))))) (f ∙ sym by_data) in omega (arith, ltb→lt, leb→le)

  -- what stands beside the GEO
  abbrev pub Own : Type 0
  Own = ((r.kind ≡ 20) × (r.channel ≡ 0) × (r.datum ≡ 0)) ⊎ ((r.kind ≡ 21) × (1 ≤ r.channel) × (r.channel ≤ 32) × (r.datum < 2 ^ 16))

  own_geo : {n : ℕ} → Own → n ≡ geo_fault r.unit → n ≡ header_field_fault r
  own_geo o f = ⊎_elim (λ p. empty_geo p.0 p.1 p.2 f) (λ p. data_geo p.0 p.1 p.2 p.3 f) o

  -- the refusals in their order
  module _ (set : ℕ) where
    pub header_other : (r.kind ≡ 20 → ⊥) → (r.kind ≡ 21 → ⊥) → 21 ≡ header_fault set r
    unfolding header_fault
    header_other m n = found set r.unit (no_module m n) (λ e. omega arith)

    pub header_wrong : 22 ≡ header_field_fault r → 22 ≡ header_fault set r
    unfolding header_fault
    header_wrong e = found set r.unit e (λ e. omega arith)

    pub header_geo : Own → 22 ≡ geo_fault r.unit → 22 ≡ header_fault set r
    header_geo o f = header_wrong (own_geo o f)

    pub header_new : {b : Bool} → Own → 0 ≡ geo_fault r.unit → b ≡ present set (r.unit % 32) → cond b 22 0 ≡ header_fault set r
    unfolding header_fault
    header_new o f p = found_none set r.unit (own_geo o f) p

  -- what a row without fault keeps
  module _ (set : ℕ) (f : 0 ≡ header_fault set r) where
    pub fields_kept : 0 ≡ header_field_fault r
    unfolding header_fault
    fields_kept = found_first (header_field_fault r) set r.unit f

    pub empty_keeps : r.kind ≡ 20 → r.unit < 2 ^ 5
    empty_keeps e = empty_fields e fields_kept

    pub data_keeps : (r.kind ≡ 20 → ⊥) → (r.unit < 2 ^ 5) × (1 ≤ r.channel) × (r.channel ≤ 32) × (r.datum < 2 ^ 16)
    data_keeps n = go (eqb r.kind 21) refl
      where
        go : (x : Bool) → eqb r.kind 21 ≡ x → (r.unit < 2 ^ 5) × (1 ≤ r.channel) × (r.channel ≤ 32) × (r.datum < 2 ^ 16)
        go true p = data_fields (eqb-true r.kind 21 p) fields_kept
        go false p = let z = no_module n (eqb-false r.kind 21 p) in absurd (omega (arith, fields_kept))

  -- the GEOs before
  pub header_seen : {set : ℕ} {seen : List ℕ} → Blocked 0 set seen → header_fault set r ≡ fault_in (row_tests starts_module header_of first_row (header_checks seen) r)
  unfolding header_fault header_field_fault
  header_seen {set} {seen} s = go (of_kind 20 r) refl
    where
      geo_tests : List Test
      geo_tests = test 22 (ltb r.unit (2 ^ 5)) ∷ test 22 (not (eqb r.unit pattern_geo)) ∷ test 22 (not (eqb r.unit scaler_geo)) ∷ []

      go : (b : Bool) → of_kind 20 r ≡ b → unless_seen (fault_in (row_tests starts_module header_of first_row (header_checks []) r)) set r.unit
          ≡ fault_in (row_tests starts_module header_of first_row (header_checks seen) r)
      go true e = rw e (seen_last s r.unit (test 21 true ∷ test 22 (is_same_row r (empty_row r.unit)) ∷ geo_tests) (tt, (tt, (tt, (tt, (tt, tt))))) (λ p. ltb→lt r.unit (2 ^ 5) p.1.1.0))
      go false e = rw e (seen_last s r.unit
          (test 21 (of_kind 21 r) ∷ test 22 (is_same_row r (module_row r.unit r.channel r.datum)) ∷ (count_checks 22 r.channel ++ (counter_checks 22 r.datum ++ geo_tests)))
          (tt, (tt, (tt, (tt, (tt, (tt, (tt, (tt, tt)))))))) (λ p. ltb→lt r.unit (2 ^ 5) p.1.1.1.1.1.0))
