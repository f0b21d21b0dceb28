-- `groups::write_data` meets its contract. Assumes nothing.
use Prim.Native.Nat.{◌<◌}
use native.Mathlib.Omega.{arith}
use mathlib.Core.Path.{◌≡◌}
use lib.ListN.{length}
use Rattle.event.specs.Parser.{Passed}
use Rattle.event.specs.Writing.{rows_in}
use Rattle.event.proofs.Answers.{passed_test, failed_test}
use Rattle.event.proofs.RowsIn.{rows_count}
use Rattle.s800_layout.specs.Layout.{sample_head_checks}
use Rattle.s800_layout.specs.Writing.{sample_head_of}
use Rattle.s800_writer.specs.Rows.{sample_datum_fault}
use Rattle.s800_writer.proofs.Failures.{handed_on}
use Rattle.s800_writer.proofs.GroupTurns.{data_end, data_stop, data_step, head_checks}
use Rattle.s800_writer.proofs.SampleRows.{datum_bounds, datum_taken}
use Rattle.s800_writer.proofs.groups.write_data.Goals as goal

pub returns-then-row : goal.returns-then-row
returns-then-row c =
    let good : Passed (sample_head_checks 0 (sample_head_of c.args.head)) = head_checks c.args.head c.requires.0 c.requires.1 in
    data_end (sample_head_of c.args.head) good c.loop-head.invariant c.row_at-row.ensures c.if-row.true

pub returns-in_err-check_sample_datum : goal.returns-in_err-check_sample_datum
returns-in_err-check_sample_datum c =
    let good : Passed (sample_head_checks 0 (sample_head_of c.args.head)) = head_checks c.args.head c.requires.0 c.requires.1 in
    let failed = failed_test (sample_datum_fault (sample_head_of c.args.head) c.loop-head.least c.row_at-row.result) c.loop-head.i c.in_err-check_sample_datum.ensures in
    rw (handed_on c.from_residual.result c.from_residual.ensures.1)
    (data_stop (sample_head_of c.args.head) good c.loop-head.invariant c.row_at-row.ensures c.if-row.false c.loop-head.words failed)

pub store_datum-requires : goal.store_datum-requires
store_datum-requires c =
    let faultless : 0 ≡ sample_datum_fault (sample_head_of c.args.head) c.loop-head.least c.row_at-row.result = passed_test _ c.loop-head.i c.in_ok-check_sample_datum.ensures in
    datum_bounds (sample_head_of c.args.head) c.loop-head.least c.row_at-row.result faultless

pub overflow_add-least : goal.overflow_add-least
overflow_add-least c =
    let faultless : 0 ≡ sample_datum_fault (sample_head_of c.args.head) c.loop-head.least c.row_at-row.result = passed_test _ c.loop-head.i c.in_ok-check_sample_datum.ensures in
    omega (arith, datum_bounds (sample_head_of c.args.head) c.loop-head.least c.row_at-row.result faultless)

pub overflow_add-at : goal.overflow_add-at
overflow_add-at c =
    let faultless : 0 ≡ sample_datum_fault (sample_head_of c.args.head) c.loop-head.least c.row_at-row.result = passed_test _ c.loop-head.i c.in_ok-check_sample_datum.ensures in
    let inside : c.loop-head.i < length (rows_in c.args.run.rows.now) = (datum_taken (sample_head_of c.args.head) c.loop-head.least c.row_at-row.result (rows_in c.args.run.rows.now) c.loop-head.i
    c.row_at-row.ensures faultless).0 in
    omega (arith, c.loop-head.invariant.few, rows_count c.args.run.rows.now, inside)

pub overflow_add-i : goal.overflow_add-i
overflow_add-i c =
    let faultless : 0 ≡ sample_datum_fault (sample_head_of c.args.head) c.loop-head.least c.row_at-row.result = passed_test _ c.loop-head.i c.in_ok-check_sample_datum.ensures in
    let inside : c.loop-head.i < length (rows_in c.args.run.rows.now) = (datum_taken (sample_head_of c.args.head) c.loop-head.least c.row_at-row.result (rows_in c.args.run.rows.now) c.loop-head.i
    c.row_at-row.ensures faultless).0 in
    omega (arith, rows_count c.args.run.rows.now, inside)

pub loop-head-smaller : goal.loop-head-smaller
loop-head-smaller c =
    let faultless : 0 ≡ sample_datum_fault (sample_head_of c.args.head) c.loop-head.least c.row_at-row.result = passed_test _ c.loop-head.i c.in_ok-check_sample_datum.ensures in
    let inside : c.loop-head.i < length (rows_in c.args.run.rows.now) = (datum_taken (sample_head_of c.args.head) c.loop-head.least c.row_at-row.result (rows_in c.args.run.rows.now) c.loop-head.i
    c.row_at-row.ensures faultless).0 in
    omega (arith, inside)

pub loop-head-preserved : goal.loop-head-preserved
loop-head-preserved c =
    let good : Passed (sample_head_checks 0 (sample_head_of c.args.head)) = head_checks c.args.head c.requires.0 c.requires.1 in
    let faultless : 0 ≡ sample_datum_fault (sample_head_of c.args.head) c.loop-head.least c.row_at-row.result = passed_test _ c.loop-head.i c.in_ok-check_sample_datum.ensures in
    data_step (sample_head_of c.args.head) good c.loop-head.invariant c.row_at-row.ensures c.if-row.false faultless c.store_datum.ensures c.store_datum.auto.words
