-- `whole::write_stamp` meets its contract. Assumes nothing.
use Rattle.s800_writer.specs.Rows.{limits_fault}
use Rattle.event.proofs.Answers.{passed_test, failed_test}
use Rattle.s800_layout.specs.Event.{stamp_tag}
use Rattle.s800_writer.specs.Packets.{own_fault}
use Rattle.s800_writer.proofs.Heads.{stamp_own, stamp_refused, stamp_written}
use Rattle.s800_writer.proofs.Failures.{handed_on}
use Rattle.event.specs.Writing.{rows_in}
use Rattle.s800_writer.proofs.whole.write_stamp.Goals as goal

pub returns-in_err-check_own : goal.returns-in_err-check_own
returns-in_err-check_own c =
    let failed = failed_test (own_fault stamp_tag c.row_at.result) 0 c.in_err-check_own.ensures in
    rw (handed_on c.from_residual.result c.from_residual.ensures.1)
    (stamp_own c.args.order (rows_in c.args.rows.now) c.row_at.ensures failed)

pub returns-in_err-check_limits : goal.returns-in_err-check_limits
returns-in_err-check_limits c =
    let owned = passed_test (own_fault stamp_tag c.row_at.result) 0 c.in_ok-check_own.ensures in
    let failed = failed_test (limits_fault 2 0 0xffffffff 0xffffffff c.row_at-row.result) 1 c.in_err-check_limits.ensures in
    rw (handed_on c.from_residual-in_err-check_limits.result c.from_residual-in_err-check_limits.ensures.1)
    (stamp_refused c.args.order (rows_in c.args.rows.now) c.row_at.ensures owned c.row_at-row.ensures failed)

pub returns : goal.returns
returns c =
    let owned = passed_test (own_fault stamp_tag c.row_at.result) 0 c.in_ok-check_own.ensures in
    let passed = passed_test (limits_fault 2 0 0xffffffff 0xffffffff c.row_at-row.result) 1 c.in_ok-check_limits.ensures in
    stamp_written c.args.order (rows_in c.args.rows.now) c.row_at.ensures owned c.row_at-row.ensures passed c.store_stamp.ensures c.close.ensures
