-- `channel_packets::write_trigger` meets its contract. Assumes nothing.
use Prim.Native.Nat.{◌+◌}
use native.Mathlib.Omega.{arith}
use Rattle.s800_writer.specs.Rows.{limits_fault}
use Rattle.event.proofs.Answers.{passed_test, failed_test}
use Rattle.s800_layout.specs.Event.{trigger}
use Rattle.s800_writer.proofs.Failures.{handed_on}
use Rattle.s800_writer.proofs.Packets.{packet_closed, packet_refused, content_refused, pattern_refused, pattern_inside, trigger_content}
use Rattle.event.specs.Writing.{rows_in}
use Rattle.event.proofs.RowsIn.{rows_count}
use Rattle.s800_writer.proofs.channel_packets.write_trigger.Goals as goal

pub returns-in_err-check_limits : goal.returns-in_err-check_limits
returns-in_err-check_limits c =
    let failed = failed_test (limits_fault 4 0 0 31 c.row_at-pattern.result) (c.args.own.at + 1) c.in_err-check_limits.ensures in
    rw (handed_on c.from_residual.result c.from_residual.ensures.1)
    (packet_refused trigger 0 (rows_in c.args.own.rows.now) c.args.own.at (pattern_refused (rows_in c.args.own.rows.now) c.args.own.at c.row_at-pattern.ensures failed))

pub overflow_add-own-3 : goal.overflow_add-own-3
overflow_add-own-3 c =
    let passed = passed_test (limits_fault 4 0 0 31 c.row_at-pattern.result) (c.args.own.at + 1) c.in_ok-check_limits.ensures in
    omega (arith, rows_count c.args.own.rows.now, pattern_inside (rows_in c.args.own.rows.now) c.args.own.at c.row_at-pattern.ensures passed)

pub invariant_of-write_channels : goal.invariant_of-write_channels
invariant_of-write_channels c =
    let passed = passed_test (limits_fault 4 0 0 31 c.row_at-pattern.result) (c.args.own.at + 1) c.in_ok-check_limits.ensures in
    record { inside = omega (arith, pattern_inside (rows_in c.args.own.rows.now) c.args.own.at c.row_at-pattern.ensures passed); few = omega arith }

pub write_channels-requires : goal.write_channels-requires
write_channels-requires c = rw c.trigger_times.ensures (omega arith)

pub returns-in_err-times : goal.returns-in_err-times
returns-in_err-times c =
    let passed = passed_test (limits_fault 4 0 0 31 c.row_at-pattern.result) (c.args.own.at + 1) c.in_ok-check_limits.ensures in
    rw (handed_on c.from_residual-in_err-times.result c.from_residual-in_err-times.ensures.1)
    (content_refused trigger 0 (rows_in c.args.own.rows.now) c.args.own.at (trigger_content (rows_in c.args.own.rows.now) c.args.own.at c.row_at-pattern.ensures passed c.trigger_times.ensures c.store_word.ensures c.in_err-times.ensures))

pub returns : goal.returns
returns c =
    let passed = passed_test (limits_fault 4 0 0 31 c.row_at-pattern.result) (c.args.own.at + 1) c.in_ok-check_limits.ensures in
    packet_closed trigger 0 (rows_in c.args.own.rows.now) c.args.own.at (trigger_content (rows_in c.args.own.rows.now) c.args.own.at c.row_at-pattern.ensures passed c.trigger_times.ensures c.store_word.ensures c.in_ok-times.ensures) c.close.ensures
