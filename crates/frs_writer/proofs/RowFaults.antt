-- The rules of each kind of row, as the code tests them.
-- Assumes nothing.
use Prim.Native.Nat.{ℕ, ◌^◌, ◌≤◌, ◌<◌}
use native.Mathlib.Omega.{arith}
use mathlib.Core.Path.{◌≡◌, refl}
use mathlib.Core.List.{List, [], ◌∷◌}
use lib.Dec.{ltb, leb→le, le→leb, ltb→lt, lt→ltb}
use borrow.Author.Tests.{lt-ltb, ne_eqb}
use Rattle.event.specs.declared.Row.{Row}
use Rattle.event.specs.Parser.{test, fault_in}
use Rattle.event.specs.Channels.{Blocked}
use Rattle.event.specs.Writing.{is_same_row, row_tests, of_kind}
use Rattle.event.proofs.RowFaults.{one_fails, Judged, judged, datum_judged}
use Rattle.frs_layout.specs.Event.{scaler_geo, pattern_geo}
use Rattle.frs_layout.specs.Layout.{datum_bits, stamp_row, scaler_block_row, pattern_row, value_row, stamp_checks, count_checks, pattern_checks, geo_checks, value_checks}
use Rattle.frs_layout.specs.Writing.{stamp_of, pattern_of, value_of}
use Rattle.frs_writer.specs.Faults.{stamp_fault, block_fault, scaler_fault, pattern_fault, value_field_fault, value_fault}
use Rattle.frs_writer.proofs.Faults.{found_first, seen_last}

ruleset tests = (arith, ltb→lt, lt→ltb, leb→le, le→leb)

abbrev pub StampKeeps : Row → Type 0
StampKeeps r = (r.unit < 2 ^ 16) × (r.channel < 2 ^ 16) × (r.datum < 2 ^ 16)

pub stamp_judged : (r : Row) → Judged (stamp_fault r) r.kind 16 (StampKeeps r)
unfolding stamp_fault
stamp_judged r = judged 16 stamp_of stamp_row (stamp_checks 22) r (refl, (refl, (refl, tt))) (λ p. omega tests) (λ e f. ((e, refl, refl, refl), omega tests))

abbrev pub BlockKeeps : Row → Type 0
BlockKeeps r = (r.unit ≡ scaler_geo) × (1 ≤ r.channel) × (r.channel ≤ 32) × (r.datum ≡ 0)

pub block_judged : (r : Row) → Judged (block_fault r) r.kind 17 (BlockKeeps r)
unfolding block_fault
block_judged r = judged 17 (λ r. r.channel) scaler_block_row (count_checks 22) r (refl, (refl, tt)) (λ p. omega tests) (λ e f. ((e, f.0, refl, f.3), omega tests))

abbrev pub ScalerKeeps : (index : ℕ) → Row → Type 0
ScalerKeeps index r = (r.unit ≡ scaler_geo) × (r.channel ≡ index) × (r.datum < 2 ^ 32)

pub scaler_judged : (index : ℕ) (r : Row) → Judged (scaler_fault index r) r.kind 18 (ScalerKeeps index r)
unfolding scaler_fault
scaler_judged index r = datum_judged 18 scaler_geo index (2 ^ 32) r

abbrev pub PatternKeeps : Row → Type 0
PatternKeeps r = (r.unit ≡ pattern_geo) × (r.channel < 2 ^ 16) × (r.datum < 2 ^ 16)

pub pattern_judged : (r : Row) → Judged (pattern_fault r) r.kind 19 (PatternKeeps r)
unfolding pattern_fault
pattern_judged r = judged 19 pattern_of pattern_row (pattern_checks 22) r (refl, (refl, tt)) (λ p. omega tests) (λ e f. ((e, f.0, refl, refl), omega tests))

abbrev pub ValueKeeps : (g : ℕ) → Row → Type 0
ValueKeeps g r = (r.unit ≡ g) × (r.channel < 2 ^ 5) × (r.datum < 2 ^ datum_bits)

pub field_judged : (g : ℕ) (r : Row) → Judged (value_field_fault g r) r.kind 22 (ValueKeeps g r)
unfolding value_field_fault
field_judged g r = judged 22 value_of (value_row g) (value_checks 22 22 []) r (refl, (refl, (refl, tt))) (λ p. omega tests) (λ e f. ((e, f.0, refl, refl), omega tests))

pub value_seen : (g : ℕ) (r : Row) {set : ℕ} {seen : List ℕ} → Blocked 0 set seen → value_fault g set r ≡ fault_in (row_tests (of_kind 22) value_of (value_row g) (value_checks 22 22 seen) r)
unfolding value_fault value_field_fault
value_seen g r s = seen_last s r.channel
    (test 21 (of_kind 22 r) ∷ test 22 (is_same_row r (value_row g (value_of r))) ∷ test 22 (ltb r.channel (2 ^ 5)) ∷ test 22 (ltb r.datum (2 ^ datum_bits)) ∷ [])
    (tt, (tt, (tt, (tt, tt)))) (λ p. ltb→lt r.channel (2 ^ 5) p.1.1.0)

pub value_fields : (g set : ℕ) (r : Row) → 0 ≡ value_fault g set r → ValueKeeps g r
unfolding value_fault
value_fields g set r e = (field_judged g r).kept (found_first (value_field_fault g r) set r.channel e)

-- a GEO, where none was before
unfoldable pub geo_fault : ℕ → ℕ
geo_fault g = fault_in (geo_checks 22 22 [] g)

pub geo_barred : (g : ℕ) → ((g ≤ 31) × (g ≡ pattern_geo → ⊥) × (g ≡ scaler_geo → ⊥) → ⊥) → 22 ≡ geo_fault g
unfolding geo_fault
geo_barred g h = one_fails (geo_checks 22 22 [] g) (refl, (refl, (refl, (refl, tt)))) (λ p. h (omega (arith, ltb→lt, p.0), (λ e. absurd (rw e at p.1.0)), (λ e. absurd (rw e at p.1.1.0))))

pub geo_free : (g : ℕ) → g ≤ 31 → (g ≡ pattern_geo → ⊥) → (g ≡ scaler_geo → ⊥) → 0 ≡ geo_fault g
unfolding geo_fault
geo_free g l p s = rw (lt-ltb g 32 (omega arith), ne_eqb g pattern_geo p, ne_eqb g scaler_geo s)
