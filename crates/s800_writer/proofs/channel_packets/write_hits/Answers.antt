-- `channel_packets::write_hits` meets its contract. Assumes nothing.
use native.Mathlib.Omega.{arith}
use mathlib.Core.Path.{refl}
use Rattle.s800_writer.specs.Rows.{limits_fault}
use Rattle.event.proofs.Answers.{passed_test, failed_test}
use Rattle.event.proofs.WritingTurns.{writes_refused}
use Rattle.s800_writer.proofs.Failures.{handed_on}
use Rattle.s800_writer.proofs.Packets.{hits_refused, hits_inside, hits_taken}
use Rattle.event.specs.Writing.{rows_in}
use Rattle.event.proofs.RowsIn.{rows_count}
use Rattle.s800_layout.specs.Layout.{register_words}
use Rattle.s800_writer.proofs.channel_packets.write_hits.Goals as goal

pub returns-in_err-check_limits : goal.returns-in_err-check_limits
returns-in_err-check_limits c =
    let failed = failed_test (limits_fault 10 65535 65535 65535 c.row_at-row.result) c.args.run.from c.in_err-check_limits.ensures in
    rw (handed_on c.from_residual.result c.from_residual.ensures.1)
    (writes_refused 16 register_words (hits_refused (rows_in c.args.run.rows.now) c.args.run.from c.row_at-row.ensures failed) refl)

pub overflow_add-run : goal.overflow_add-run
overflow_add-run c =
    let passed = passed_test (limits_fault 10 65535 65535 65535 c.row_at-row.result) c.args.run.from c.in_ok-check_limits.ensures in
    omega (arith, rows_count c.args.run.rows.now, c.args.run.few, hits_inside (rows_in c.args.run.rows.now) c.args.run.from c.row_at-row.ensures passed)

pub overflow_add-run-2 : goal.overflow_add-run-2
overflow_add-run-2 c =
    let passed = passed_test (limits_fault 10 65535 65535 65535 c.row_at-row.result) c.args.run.from c.in_ok-check_limits.ensures in
    omega (arith, rows_count c.args.run.rows.now, c.args.run.few, hits_inside (rows_in c.args.run.rows.now) c.args.run.from c.row_at-row.ensures passed)

pub overflow_add-result : goal.overflow_add-result
overflow_add-result c =
    let passed = passed_test (limits_fault 10 65535 65535 65535 c.row_at-row.result) c.args.run.from c.in_ok-check_limits.ensures in
    omega (arith, rows_count c.args.run.rows.now, c.args.run.few, hits_inside (rows_in c.args.run.rows.now) c.args.run.from c.row_at-row.ensures passed)

pub overflow_add-result-2 : goal.overflow_add-result-2
overflow_add-result-2 c =
    let passed = passed_test (limits_fault 10 65535 65535 65535 c.row_at-row.result) c.args.run.from c.in_ok-check_limits.ensures in
    omega (arith, rows_count c.args.run.rows.now, c.args.run.few, hits_inside (rows_in c.args.run.rows.now) c.args.run.from c.row_at-row.ensures passed)

pub returns : goal.returns
returns c =
    let passed = passed_test (limits_fault 10 65535 65535 65535 c.row_at-row.result) c.args.run.from c.in_ok-check_limits.ensures in
    hits_taken (rows_in c.args.run.rows.now) c.args.run.from c.row_at-row.ensures passed c.args.run.few c.store_word.ensures c.store_word-2.ensures c.store_word-3.ensures
