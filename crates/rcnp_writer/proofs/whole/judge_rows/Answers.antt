-- `whole::judge_rows` meets its contract. Assumes nothing.
use Rattle.std.proofs.Common.{arith}
use Rattle.std.proofs.lemmas.Result.{err_from_is_err_and}
use Rattle.event.proofs.RowsIn.{rows_count}
use Rattle.rcnp_writer.proofs.Event.{regions_refused, last_refused, event_few, event_judged}
use Rattle.rcnp_writer.proofs.whole.judge_rows.Goals as goal

pub returns-in_err-regions : goal.returns-in_err-regions
returns-in_err-regions c =
    let p = err_from_is_err_and c.from_residual.result c.from_residual.ensures.1 in
    rw (p.1, p.2) (regions_refused c.in_err-regions.ensures)

pub returns-in_err-last : goal.returns-in_err-last
returns-in_err-last c =
    let p = err_from_is_err_and c.from_residual-in_err-last.result c.from_residual-in_err-last.ensures.1 in
    rw (p.1, p.2) (last_refused c.in_ok-regions.ensures c.in_err-last.ensures)

pub overflow_add-result : goal.overflow_add-result
overflow_add-result c = omega (arith, event_few c.in_ok-regions.ensures c.in_ok-last.ensures, rows_count c.args.rows.now)

pub returns : goal.returns
returns c = event_judged c.in_ok-regions.ensures c.in_ok-last.ensures
