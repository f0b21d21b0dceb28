-- `whole::write_number` meets its contract. Assumes nothing.
use Rattle.s800_writer.specs.Rows.{limits_fault}
use Rattle.event.proofs.Answers.{passed_test, failed_test}
use Rattle.s800_layout.specs.Event.{number_tag}
use Rattle.s800_writer.specs.Packets.{own_fault}
use Rattle.s800_writer.proofs.Heads.{number_own, number_refused, number_written}
use Rattle.s800_writer.proofs.Failures.{handed_on}
use Rattle.event.specs.Writing.{rows_in}
use Rattle.s800_writer.proofs.whole.write_number.Goals as goal

pub returns-in_err-check_own : goal.returns-in_err-check_own
returns-in_err-check_own c =
    let failed = failed_test (own_fault number_tag c.row_at.result) 2 c.in_err-check_own.ensures in
    rw (handed_on c.from_residual.result c.from_residual.ensures.1)
    (number_own (rows_in c.args.rows.now) c.row_at.ensures failed)

pub returns-in_err-check_limits : goal.returns-in_err-check_limits
returns-in_err-check_limits c =
    let owned = passed_test (own_fault number_tag c.row_at.result) 2 c.in_ok-check_own.ensures in
    let failed = failed_test (limits_fault 3 0 65535 0xffffffff c.row_at-row.result) 3 c.in_err-check_limits.ensures in
    rw (handed_on c.from_residual-in_err-check_limits.result c.from_residual-in_err-check_limits.ensures.1)
    (number_refused (rows_in c.args.rows.now) c.row_at.ensures owned c.row_at-row.ensures failed)

pub returns : goal.returns
returns c =
    let owned = passed_test (own_fault number_tag c.row_at.result) 2 c.in_ok-check_own.ensures in
    let passed = passed_test (limits_fault 3 0 65535 0xffffffff c.row_at-row.result) 3 c.in_ok-check_limits.ensures in
    number_written (rows_in c.args.rows.now) c.row_at.ensures owned c.row_at-row.ensures passed c.store_word.ensures c.store_word-2.ensures c.store_word-3.ensures c.close.ensures
