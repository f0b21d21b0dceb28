-- The refusal that a row meets: the first of its tests that fails (the contracts of private functions).
-- Assumes nothing.
use Rattle.std.specs.Prelude.{◌≡◌, ℕ, ◌+◌, ◌<◌, ◌≤◌, Bool, true, false, cond, List, [], length, nat_lt, slice_index_or}
use Rattle.event.specs.declared.Row.{Row}
use Rattle.event.specs.Parser.{fault_in}
use Rattle.event.specs.Rows.{row}
use Rattle.event.specs.Words.{below_checks}
use Rattle.event.specs.Writing.{row_tests, of_kind, no_row}
use Rattle.rcnp_layout.specs.Event.{sum_id}
use Rattle.rcnp_layout.specs.Layout.{region_row, vdc_row, vdc_checks}
use Rattle.rcnp_layout.specs.Writing.{vdc_of, vdc_stands, header_of, header_row, header_checks}

unfoldable pub header_fault : Row → ℕ
header_fault r = fault_in (row_tests (of_kind 32) header_of header_row header_checks r)

unfoldable pub sum_fault : Row → ℕ
sum_fault r = fault_in (row_tests (of_kind 32) (λ r. tt {0}) (λ u. region_row sum_id 1) (λ u. []) r)

-- a word's row, or a scaler's, by its kind, its channel and the bound of its datum
unfoldable pub datum_fault : (k channel bound : ℕ) → Row → ℕ
datum_fault k channel bound r = fault_in (row_tests (of_kind k) (λ r. r.datum) (row k 0 channel) (below_checks 22 bound) r)

unfoldable pub vdc_fault : (begun : Bool) → Row → ℕ
vdc_fault begun r = fault_in (row_tests (vdc_stands begun) vdc_of vdc_row (vdc_checks 22 begun) r)

-- the last kind that may stand in a VDC region
abbrev pub last_kind : (begun : Bool) → ℕ
last_kind begun = cond begun 36 35

-- whether a row of a VDC region breaks no rule, by the last kind that may stand there; of a row between the kinds, that it breaks one of its fields
pub record VdcRight (r : Row) (most : ℕ) (right : Bool) : Type 0 where
  pub kept : right ≡ true → (begun : Bool) → most ≡ last_kind begun → 0 ≡ vdc_fault begun r
  pub broken : right ≡ false → (begun : Bool) → most ≡ last_kind begun → 35 ≤ r.kind → r.kind ≤ most → 22 ≡ vdc_fault begun r

-- the n rows of a VDC region from `first` on are there and break no rule
pub record ChamberRight (rs : List Row) (first n : ℕ) : Type 0 where
  pub inside : first + n ≤ length rs
  pub each : (k : ℕ) → k < n → 0 ≡ vdc_fault (nat_lt 0 k) (slice_index_or rs (first + k) no_row)
