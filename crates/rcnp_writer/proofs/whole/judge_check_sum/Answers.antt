-- `whole::judge_check_sum` meets its contract. Assumes nothing.
use Rattle.std.proofs.Common.{arith}
use Rattle.std.proofs.lemmas.Result.{err_from_is_err_and}
use Rattle.event.specs.Writing.{rows_in}
use Rattle.event.proofs.Answers.{passed_test, failed_test}
use Rattle.event.proofs.RowsIn.{rows_count}
use Rattle.rcnp_writer.proofs.CheckSum.{own_refused, own_there, sum_refused, word_there, followed, sum_taken}
use Rattle.rcnp_writer.proofs.whole.judge_check_sum.Goals as goal

pub returns-in_err-check_sum_header : goal.returns-in_err-check_sum_header
returns-in_err-check_sum_header c =
    let p = err_from_is_err_and c.from_residual.result c.from_residual.ensures.1 in
    rw (p.1, p.2) (own_refused (rows_in c.args.rows.now) c.args.at c.row_at.ensures (failed_test _ _ c.in_err-check_sum_header.ensures))

pub overflow_add-at : goal.overflow_add-at
overflow_add-at c = omega (arith, own_there (rows_in c.args.rows.now) c.args.at c.row_at.ensures (passed_test _ _ c.in_ok-check_sum_header.ensures), rows_count c.args.rows.now)

pub overflow_add-at-2 : goal.overflow_add-at-2
overflow_add-at-2 c = omega (arith, own_there (rows_in c.args.rows.now) c.args.at c.row_at.ensures (passed_test _ _ c.in_ok-check_sum_header.ensures), rows_count c.args.rows.now)

pub returns-in_err-check_datum : goal.returns-in_err-check_datum
returns-in_err-check_datum c =
    let p = err_from_is_err_and c.from_residual-in_err-check_datum.result c.from_residual-in_err-check_datum.ensures.1 in
    rw (p.1, p.2) (sum_refused (rows_in c.args.rows.now) c.args.at c.row_at.ensures (passed_test _ _ c.in_ok-check_sum_header.ensures) c.row_at-2.ensures
    (failed_test _ _ c.in_err-check_datum.ensures))

pub overflow_add-at-3 : goal.overflow_add-at-3
overflow_add-at-3 c =
    let h = word_there (rows_in c.args.rows.now) c.args.at c.row_at.ensures (passed_test _ _ c.in_ok-check_sum_header.ensures) c.row_at-2.ensures (passed_test _ _ c.in_ok-check_datum.ensures) in
    omega (arith, h, rows_count c.args.rows.now)

pub overflow_add-result : goal.overflow_add-result
overflow_add-result c =
    let h = word_there (rows_in c.args.rows.now) c.args.at c.row_at.ensures (passed_test _ _ c.in_ok-check_sum_header.ensures) c.row_at-2.ensures (passed_test _ _ c.in_ok-check_datum.ensures) in
    omega (arith, h, rows_count c.args.rows.now)

pub returns-then-at-rows : goal.returns-then-at-rows
returns-then-at-rows c = rw c.refuse.ensures
    (followed (rows_in c.args.rows.now) c.args.at c.row_at.ensures (passed_test _ _ c.in_ok-check_sum_header.ensures) c.row_at-2.ensures (passed_test _ _ c.in_ok-check_datum.ensures)
    (omega (arith, c.if-at-rows.true, rows_count c.args.rows.now)))

pub returns : goal.returns
returns c = sum_taken (rows_in c.args.rows.now) c.args.at c.row_at.ensures (passed_test _ _ c.in_ok-check_sum_header.ensures) c.row_at-2.ensures (passed_test _ _ c.in_ok-check_datum.ensures)
    (omega (arith, c.if-at-rows.false, rows_count c.args.rows.now))
