-- The refusal that a row meets, as the code finds it: a set of bits holds the GEOs, or the channels, before (the contracts of private functions).
-- Assumes nothing.
use Rattle.std.specs.Prelude.{ℕ, ◌%◌, cond, [], eqb}
use Rattle.event.specs.declared.Row.{Row}
use Rattle.event.specs.Parser.{fault_in}
use Rattle.event.specs.Channels.{present}
use Rattle.event.specs.Writing.{row_tests, of_kind}
use Rattle.frs_layout.specs.Layout.{stamp_row, scaler_block_row, scaler_row, pattern_row, value_row, stamp_checks, count_checks, scaler_checks, pattern_checks, value_checks}
use Rattle.frs_layout.specs.Writing.{stamp_of, pattern_of, value_of, starts_module, header_of, first_row, header_checks}

-- the first rule of a row that fails
unfoldable pub stamp_fault : Row → ℕ
stamp_fault r = fault_in (row_tests (of_kind 16) stamp_of stamp_row (stamp_checks 22) r)

unfoldable pub block_fault : Row → ℕ
block_fault r = fault_in (row_tests (of_kind 17) (λ r. r.channel) scaler_block_row (count_checks 22) r)

unfoldable pub scaler_fault : (index : ℕ) → Row → ℕ
scaler_fault index r = fault_in (row_tests (of_kind 18) (λ r. r.datum) (scaler_row index) (scaler_checks 22) r)

unfoldable pub pattern_fault : Row → ℕ
pattern_fault r = fault_in (row_tests (of_kind 19) pattern_of pattern_row (pattern_checks 22) r)

-- the rule that a GEO, or a channel, is new stands last: here none was before
unfoldable pub header_field_fault : Row → ℕ
header_field_fault r = fault_in (row_tests starts_module header_of first_row (header_checks []) r)

unfoldable pub value_field_fault : (geo : ℕ) → Row → ℕ
value_field_fault g r = fault_in (row_tests (of_kind 22) value_of (value_row g) (value_checks 22 22 []) r)

-- a refusal found, else 22 for a GEO, or a channel, that is in the set
unfoldable pub unless_seen : (number seen key : ℕ) → ℕ
unless_seen n seen k = cond (eqb n 0) (cond (present seen (k % 32)) 22 0) n

unfoldable pub header_fault : (seen : ℕ) → Row → ℕ
header_fault seen r = unless_seen (header_field_fault r) seen r.unit

unfoldable pub value_fault : (geo seen : ℕ) → Row → ℕ
value_fault g seen r = unless_seen (value_field_fault g r) seen r.channel
