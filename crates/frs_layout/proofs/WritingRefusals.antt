-- Every refusal of a writing of dialect F has a number of document 01, 20 to 23, and its place: 0; a row's index, or for 21 the row count; more longwords than the largest event has.
-- Assumes nothing.
use Prim.Native.Nat.{ℕ, ◌/◌}
use native.Mathlib.Omega.{arith}
use mathlib.Core.Path.{◌≡◌}
use mathlib.Core.List.{List, []}
use lib.Dec.{T}
use lib.ListN.{length}
use Rattle.event.specs.declared.Row.{Row}
use Rattle.event.specs.Parser.{ended, optionally, All}
use Rattle.event.specs.Words.{between}
use Rattle.event.specs.Outcome.{refused}
use Rattle.event.specs.Writing.{row_tests, of_kind, RefusedAt}
use Rattle.event.proofs.Refusals.{keeps_give, keeps_left, keeps_bind, keeps_map, keeps_next, keeps_optionally}
use Rattle.event.proofs.WritingRefusals.{Writes, Takes, takes_row, writes_times, writes_many, writing_refused}
use Rattle.frs_layout.specs.Layout.{stamp_row, scaler_block_row, scaler_row, pattern_row, value_row, stamp_checks, count_checks, scaler_checks, pattern_checks, value_checks, words, largest_event, channels, geos}
use Rattle.frs_layout.specs.Writing.{stamp_of, pattern_of, value_of, scaler_at, next_index, scaler, pattern_unit, at_pattern, Header, empty_header, data_header, first_row, starts_module, header_of, header_checks, value, body, one_module, event_rows_up_to, writing}

-- a header's checks hang on its case; those of the other rows have their numbers as they stand
header_numbers : (seen : List ℕ) (h : Header) → All (λ t. T (between 21 22 t.number)) (header_checks seen h)
header_numbers seen (empty_header g) = omega arith
header_numbers seen (data_header g n c) = omega arith

module _ {count : ℕ} where
  takes_scaler : (s : List Row) → Takes count s scaler
  takes_scaler s = keeps_next (λ r. r.channel) (row_tests (of_kind 17) (λ r. r.channel) scaler_block_row (count_checks 22)) (omega arith) λ n r e. keeps_left
      (writes_times scaler_at next_index (λ i s. takes_row (λ r. r.datum) (row_tests (of_kind 18) (λ r. r.datum) (scaler_row i) (scaler_checks 22)) (omega arith)) n 0 r) (λ r₁ l. omega arith)

  writes_pattern : (s : List Row) → Writes count s (optionally at_pattern pattern_unit)
  writes_pattern s = keeps_optionally at_pattern pattern_unit
      (λ t. keeps_left (takes_row pattern_of (row_tests (of_kind 19) pattern_of pattern_row (pattern_checks 22)) (omega arith)) (λ r l. omega arith)) (λ t. omega arith)

  writes_body : (h : Header) (s : List Row) → Writes count s (body h)
  writes_body (empty_header g) s = keeps_give (omega arith)
  writes_body (data_header g n c) s = keeps_map _
      (writes_times (value g) channels (λ seen s. takes_row value_of (row_tests (of_kind 22) value_of (value_row g) (value_checks 22 22 seen)) (omega arith)) n [] s)

  takes_module : (seen : List ℕ) (s : List Row) → Takes count s (one_module seen)
  takes_module seen s = keeps_next header_of (row_tests starts_module header_of first_row (header_checks seen)) (tt, (λ r. (tt, (tt, header_numbers seen (header_of r)))), omega arith) λ h r e.
      keeps_left (writes_body h r) (λ r₁ l. omega arith)

  writes_event : (s : List Row) → Writes count s (event_rows_up_to ended)
  writes_event s = keeps_next stamp_of (row_tests (of_kind 16) stamp_of stamp_row (stamp_checks 22)) (omega arith) λ st r e. keeps_bind (takes_scaler r) λ vs r₁ l₁.
      keeps_bind (writes_pattern r₁) λ p r₂ l₂. keeps_left
      (keeps_map _ (writes_many one_module geos ended tt takes_module [] r₂))
      (λ r₃ l₃. omega arith)

pub writing_refusals : (xs : List ℕ) (n k : ℕ) → writing xs ≡ refused n k → RefusedAt largest_event (length xs / 4) n k
writing_refusals = writing_refused words largest_event (λ rs. writes_event rs)
