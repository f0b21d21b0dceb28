-- `whole::judge_regions` meets its contract. Assumes nothing.
use Rattle.std.proofs.Common.{sym, ◌∙◌, arith}
use Rattle.std.proofs.lemmas.Result.{err_from_is_err_and}
use Rattle.event.proofs.RowsIn.{rows_count}
use Rattle.rcnp_writer.proofs.Regions.{regions_done, region_refused, region_within, region_taken}
use Rattle.rcnp_writer.proofs.whole.judge_regions.Goals as goal

pub returns-in_err-judged : goal.returns-in_err-judged
returns-in_err-judged c =
    let p = err_from_is_err_and c.from_residual.result c.from_residual.ensures.1 in
    rw (p.1, p.2) (region_refused c.loop-i.invariant (sym c.loop-i-test.true ∙ c.before_sum.ensures) c.in_err-judged.ensures)

pub overflow_add-at : goal.overflow_add-at
overflow_add-at c = omega (arith, region_within c.loop-i.invariant (sym c.loop-i-test.true ∙ c.before_sum.ensures) c.in_ok-judged.ensures, rows_count c.args.rows.now)

pub loop-i-smaller : goal.loop-i-smaller
loop-i-smaller c = omega (arith, region_within c.loop-i.invariant (sym c.loop-i-test.true ∙ c.before_sum.ensures) c.in_ok-judged.ensures)

pub loop-i-preserved : goal.loop-i-preserved
loop-i-preserved c = region_taken c.loop-i.invariant (sym c.loop-i-test.true ∙ c.before_sum.ensures) c.in_ok-judged.ensures

pub returns : goal.returns
returns c = regions_done c.loop-i.invariant (sym c.loop-i-test.false ∙ c.before_sum.ensures)
