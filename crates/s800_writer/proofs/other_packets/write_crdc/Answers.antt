-- `other_packets::write_crdc` meets its contract. Assumes nothing.
use Prim.Native.Nat.{◌+◌}
use native.Mathlib.Omega.{arith}
use Rattle.s800_writer.specs.Rows.{limits_fault}
use Rattle.event.proofs.Answers.{passed_test, failed_test}
use Rattle.s800_writer.proofs.Packets.{packet_closed, packet_refused, content_refused}
use Rattle.s800_writer.proofs.Crdc.{threshold_refused, threshold_inside, samples_refused, crdc_content}
use Rattle.s800_writer.proofs.Failures.{handed_on}
use Rattle.event.specs.Writing.{rows_in}
use Rattle.s800_layout.specs.Event.{crdc}
use Rattle.event.proofs.RowsIn.{rows_count}
use Rattle.s800_writer.proofs.other_packets.write_crdc.Goals as goal

pub returns-in_err-check_limits : goal.returns-in_err-check_limits
returns-in_err-check_limits c =
    let failed = failed_test (limits_fault 7 0 0 65535 c.row_at-threshold.result) (c.args.own.at + 1) c.in_err-check_limits.ensures in
    rw (handed_on c.from_residual.result c.from_residual.ensures.1)
    (packet_refused crdc c.args.id (rows_in c.args.own.rows.now) c.args.own.at (threshold_refused c.args.id (rows_in c.args.own.rows.now) c.args.own.at c.row_at-threshold.ensures failed))

pub overflow_add-own-3 : goal.overflow_add-own-3
overflow_add-own-3 c =
    let passed = passed_test (limits_fault 7 0 0 65535 c.row_at-threshold.result) (c.args.own.at + 1) c.in_ok-check_limits.ensures in
    omega (arith, rows_count c.args.own.rows.now, threshold_inside c.args.id (rows_in c.args.own.rows.now) c.args.own.at c.row_at-threshold.ensures passed)

pub invariant_of-write_samples : goal.invariant_of-write_samples
invariant_of-write_samples c =
    let passed = passed_test (limits_fault 7 0 0 65535 c.row_at-threshold.result) (c.args.own.at + 1) c.in_ok-check_limits.ensures in
    record { inside = omega (arith, threshold_inside c.args.id (rows_in c.args.own.rows.now) c.args.own.at c.row_at-threshold.ensures passed); few = omega arith }

pub returns-in_err-samples : goal.returns-in_err-samples
returns-in_err-samples c =
    let passed = passed_test (limits_fault 7 0 0 65535 c.row_at-threshold.result) (c.args.own.at + 1) c.in_ok-check_limits.ensures in
    rw (handed_on c.from_residual-in_err-samples.result c.from_residual-in_err-samples.ensures.1)
    (packet_refused crdc c.args.id (rows_in c.args.own.rows.now) c.args.own.at (samples_refused c.args.id (rows_in c.args.own.rows.now) c.args.own.at c.row_at-threshold.ensures passed c.store_word.new.words c.store_word-2.ensures c.in_err-samples.ensures))

pub returns-in_err-anode : goal.returns-in_err-anode
returns-in_err-anode c =
    let passed = passed_test (limits_fault 7 0 0 65535 c.row_at-threshold.result) (c.args.own.at + 1) c.in_ok-check_limits.ensures in
    rw (handed_on c.from_residual-in_err-anode.result c.from_residual-in_err-anode.ensures.1)
    (content_refused crdc c.args.id (rows_in c.args.own.rows.now) c.args.own.at (crdc_content c.args.id (rows_in c.args.own.rows.now) c.args.own.at c.row_at-threshold.ensures passed c.store_word.new.words c.store_word-2.ensures c.in_ok-samples.ensures c.close.ensures c.store_word.ensures c.in_err-anode.ensures))

pub returns : goal.returns
returns c =
    let passed = passed_test (limits_fault 7 0 0 65535 c.row_at-threshold.result) (c.args.own.at + 1) c.in_ok-check_limits.ensures in
    packet_closed crdc c.args.id (rows_in c.args.own.rows.now) c.args.own.at (crdc_content c.args.id (rows_in c.args.own.rows.now) c.args.own.at c.row_at-threshold.ensures passed c.store_word.new.words c.store_word-2.ensures c.in_ok-samples.ensures c.close.ensures c.store_word.ensures c.in_ok-anode.ensures) c.close-2.ensures
