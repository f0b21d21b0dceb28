-- `sum::row_sum` meets its contract. Assumes nothing.
use Rattle.std.proofs.Common.{◌+◌, ◌<◌, length, refl, arith}
use Rattle.event.specs.Writing.{rows_in}
use Rattle.event.proofs.RowsIn.{rows_count}
use Rattle.rcnp_writer.specs.Parts.{of_run, RunAt}
use Rattle.rcnp_writer.proofs.RowTotals.{sum_next, summed_up}
use Rattle.rcnp_writer.proofs.RunsOfRows.{run_at}
use Rattle.rcnp_writer.proofs.sum.row_sum.Goals as goal

pub loop-i-preserved : goal.loop-i-preserved
loop-i-preserved c =
    let below : c.loop-i.i < length (rows_in c.args.rows.now) = omega (arith, c.loop-i-test.true, rows_count c.args.rows.now) in
    let run : RunAt (of_run c.row_at-row.result) (rows_in c.args.rows.now) (c.loop-i.i + 1) c.run_words-n.result = run_at c.row_at-row.result c.requires below c.row_at-row.ensures
    c.run_words-n.ensures in
    let l = c.loop-i in (
      omega (arith, run.inside),
      sum_next (rows_in c.args.rows.now) l.i l.sum c.run_words-n.result below l.invariant.1 c.row_at-row.ensures c.row_total.ensures
          c.sum_run-run.ensures refl refl,
    )

pub returns : goal.returns
returns c =
    let l = c.loop-i in
    let xs = c.args.rows.now in
    summed_up (rows_in xs) l.i l.sum l.invariant.1 (omega (arith, c.loop-i-test.false, rows_count xs))
