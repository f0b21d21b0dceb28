-- Every refusal of a writing of dialect R has a number of document 01, 20 to 23, and its place: 0; a row's index, or for 21 the row count; more words than the largest event has.
-- Assumes nothing.
use Prim.Native.Nat.{ℕ, ◌/◌}
use native.Mathlib.Omega.{arith}
use mathlib.Core.Path.{◌≡◌}
use mathlib.Core.Bool.{false}
use mathlib.Core.List.{List, []}
use lib.ListN.{length}
use Rattle.event.specs.declared.Row.{Row}
use Rattle.event.specs.Parser.{finish, lastly, alone}
use Rattle.event.specs.Outcome.{refused}
use Rattle.event.specs.Writing.{row_tests, of_kind, RefusedAt}
use Rattle.event.proofs.Refusals.{keeps_left, keeps_map, keeps_next}
use Rattle.event.proofs.WritingRefusals.{Writes, Takes, takes_row, writes_times, writes_many, writing_refused}
use Rattle.rcnp_layout.specs.Event.{Form, input_register, scaler, vdc, opaque, sum_id}
use Rattle.rcnp_layout.specs.Layout.{words, summed, region_row, word_row, scaler_row, next_index, vdc_row, word_checks, scaler_checks, vdc_checks, begins, largest_event}
use Rattle.rcnp_layout.specs.Writing.{word, scaler_at, vdc_of, vdc_stands, vdc_value, content, header_of, header_row, header_checks, region, sum_region, at_sum, parts_with, writing}
use Rattle.rcnp_layout.proofs.Event.{keeps_event}

module _ {count : ℕ} where
  takes_word : (s : List Row) → Takes count s word
  takes_word s = takes_row (λ r. r.datum) (row_tests (of_kind 33) (λ r. r.datum) word_row (word_checks 22)) (omega arith)

  writes_content : (f : Form) (n : ℕ) (s : List Row) → Writes count s (content f n)
  writes_content input_register n s = keeps_left (takes_word s) (λ r l. omega arith)
  writes_content scaler n s = writes_times scaler_at next_index (λ i s. takes_row (λ r. r.datum) (row_tests (of_kind 34) (λ r. r.datum) (scaler_row i) (scaler_checks 22)) (omega arith)) (n / 2) 0 s
  writes_content vdc n s = writes_times vdc_value begins (λ begun s. takes_row vdc_of (row_tests (vdc_stands begun) vdc_of vdc_row (vdc_checks 22 begun)) (omega arith)) n false s
  writes_content (opaque k) n s = writes_times (λ u. word) alone (λ u s. takes_word s) n tt s

  takes_region : (s : List Row) → Takes count s region
  takes_region s = keeps_next header_of (row_tests (of_kind 32) header_of header_row header_checks) (omega arith) λ h r e.
      keeps_left (keeps_map _ (writes_content h.form h.size r)) (λ r₁ l. omega arith)

  takes_sum : (s : List Row) → Takes count s sum_region
  takes_sum s = keeps_next (λ r. tt) (row_tests (of_kind 32) (λ r. tt {0}) (λ u. region_row sum_id 1) (λ u. [])) (omega arith) λ u r e. keeps_left (takes_word r) (λ r₁ l. omega arith)

-- the sum's row is one of them
writes_event : (s : List Row) → Writes (length s) s (lastly summed 22 (parts_with (finish 21)))
writes_event s = keeps_left
    (keeps_event 22 21 tt tt (λ h. h) (writes_many (λ u. region) alone at_sum tt (λ u s. takes_region s) tt s) takes_sum)
    (λ r z. omega arith)

pub writing_refusals : (xs : List ℕ) (n k : ℕ) → writing xs ≡ refused n k → RefusedAt largest_event (length xs / 4) n k
writing_refusals = writing_refused words largest_event (λ rs. writes_event rs)
