-- `region::judge_region` meets its contract. Assumes nothing.
use Rattle.std.proofs.Common.{arith}
use Rattle.std.proofs.lemmas.Result.{err_from_is_err_and}
use Rattle.event.specs.Writing.{rows_in}
use Rattle.event.proofs.Answers.{passed_test, failed_test}
use Rattle.event.proofs.RowsIn.{rows_count}
use Rattle.rcnp_writer.proofs.OneRegion.{header_refused, content_there, region_judged}
use Rattle.rcnp_writer.proofs.region.judge_region.Goals as goal

pub returns-in_err-check_header : goal.returns-in_err-check_header
returns-in_err-check_header c =
    let p = err_from_is_err_and c.from_residual.result c.from_residual.ensures.1 in
    rw (p.1, p.2) (header_refused (rows_in c.args.rows.now) c.args.at c.row_at-row.ensures (failed_test _ _ c.in_err-check_header.ensures))

pub overflow_add-at : goal.overflow_add-at
overflow_add-at c =
    let there = content_there (rows_in c.args.rows.now) c.args.at c.row_at-row.ensures (passed_test _ _ c.in_ok-check_header.ensures) in
    omega (arith, there.inside, rows_count c.args.rows.now)

pub judge_content-requires : goal.judge_content-requires
judge_content-requires c = content_there (rows_in c.args.rows.now) c.args.at c.row_at-row.ensures (passed_test _ _ c.in_ok-check_header.ensures)

pub returns : goal.returns
returns c = region_judged (rows_in c.args.rows.now) c.args.at c.row_at-row.ensures (passed_test _ _ c.in_ok-check_header.ensures) c.judge_content.ensures
