-- `whole::write_modules` meets its contract. Assumes nothing.
use native.Mathlib.Omega.{arith}
use Rattle.event.proofs.RowsIn.{rows_count}
use Rattle.frs_writer.proofs.Modules.{modules_done, module_refused, module_within, module_taken}
use Rattle.std.proofs.lemmas.Result.{err_from_is_err_and}
use Rattle.frs_writer.proofs.whole.write_modules.Goals as goal

pub returns-in_err-module : goal.returns-in_err-module
returns-in_err-module c =
    let p = err_from_is_err_and c.from_residual.result c.from_residual.ensures.1 in
    rw (p.1, p.2) (module_refused {written = c.loop-written.written} c.loop-written.invariant (omega (arith, c.loop-written-test.true, rows_count c.args.rows.now)) c.part_start-start.ensures _ c.in_err-module.ensures)

pub overflow_add-written : goal.overflow_add-written
overflow_add-written c = let f = module_within {written = c.loop-written.written} c.loop-written.invariant (omega (arith, c.loop-written-test.true, rows_count c.args.rows.now)) c.part_start-start.ensures
    c.in_ok-module.ensures in omega (arith, f, rows_count c.args.rows.now)

pub loop-written-smaller : goal.loop-written-smaller
loop-written-smaller c = let f = module_within {written = c.loop-written.written} c.loop-written.invariant (omega (arith, c.loop-written-test.true, rows_count c.args.rows.now)) c.part_start-start.ensures
    c.in_ok-module.ensures in omega (arith, f)

pub loop-written-preserved : goal.loop-written-preserved
loop-written-preserved c = module_taken {written = c.loop-written.written} c.loop-written.invariant (omega (arith, c.loop-written-test.true, rows_count c.args.rows.now)) c.part_start-start.ensures
    c.in_ok-module.ensures c.row_at-row.ensures c.with_channel-seen.ensures

pub returns : goal.returns
returns c = modules_done {written = c.loop-written.written} c.loop-written.invariant (omega (arith, c.loop-written-test.false, rows_count c.args.rows.now))
