-- `whole::count_words` meets its contract. Assumes nothing.
use Rattle.std.proofs.lemmas.Result.{err_from_is_err_and}
use Rattle.event.specs.Writing.{rows_in}
use Rattle.event.proofs.RowsIn.{rows_count}
use Rattle.rcnp_writer.proofs.Event.{count_refused, count_taken, taken_runs, sum_wrong, sum_right}
use Rattle.rcnp_writer.proofs.whole.count_words.Goals as goal

pub returns-in_err-count : goal.returns-in_err-count
returns-in_err-count c =
    let p = err_from_is_err_and c.from_residual.result c.from_residual.ensures.1 in
    rw (p.1, p.2) (count_refused (rows_in c.args.rows.now) c.in_err-count.ensures)

pub row_sum-requires : goal.row_sum-requires
row_sum-requires c = taken_runs (rows_in c.args.rows.now) (count_taken (rows_in c.args.rows.now) c.in_ok-count.ensures)

pub returns-then-row_sum-ne0 : goal.returns-then-row_sum-ne0
returns-then-row_sum-ne0 c =
    let taken = count_taken (rows_in c.args.rows.now) c.in_ok-count.ensures in
    rw (c.refuse.ensures, ← rows_count c.args.rows.now) (sum_wrong (rows_in c.args.rows.now) taken c.row_sum.ensures c.if-row_sum-ne0.true)

pub returns : goal.returns
returns c = sum_right (rows_in c.args.rows.now) (count_taken (rows_in c.args.rows.now) c.in_ok-count.ensures) c.row_sum.ensures c.if-row_sum-ne0.false
