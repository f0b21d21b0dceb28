-- `begin::write_scaler` meets its contract. Assumes nothing.
use native.Mathlib.Omega.{arith}
use Rattle.event.specs.Writing.{rows_in}
use Rattle.event.proofs.Answers.{passed_test}
use Rattle.event.proofs.RowsIn.{rows_count}
use Rattle.frs_writer.proofs.RowFaults.{block_judged}
use Rattle.frs_writer.proofs.Scalers.{block_refused, scalers_there, scalers_refused, block_done}
use Rattle.std.proofs.lemmas.Result.{err_from_is_err_and}
use Rattle.frs_writer.proofs.begin.write_scaler.Goals as goal

pub returns-in_err-check_block : goal.returns-in_err-check_block
returns-in_err-check_block c =
    let p = err_from_is_err_and c.from_residual.result c.from_residual.ensures.1 in
    rw (p.1, p.2) (block_refused _ _ c.row_at-row.ensures _ c.in_err-check_block.ensures)

pub write_scalers-requires : goal.write_scalers-requires
write_scalers-requires c = (
  ((block_judged _).kept (passed_test _ _ c.in_ok-check_block.ensures)).2,
  scalers_there (rows_in c.args.rows.now) c.args.words.now c.row_at-row.ensures c.in_ok-check_block.ensures,
)

pub returns-in_err-scalers : goal.returns-in_err-scalers
returns-in_err-scalers c =
    let p = err_from_is_err_and c.from_residual-in_err-scalers.result c.from_residual-in_err-scalers.ensures.1 in
    rw (p.1, p.2) (scalers_refused _ _ c.row_at-row.ensures c.in_ok-check_block.ensures _ c.in_err-scalers.ensures)

pub overflow_add-row : goal.overflow_add-row
overflow_add-row c = omega (arith, (block_judged _).kept (passed_test _ _ c.in_ok-check_block.ensures))

pub overflow_add-result : goal.overflow_add-result
overflow_add-result c = omega (arith, c.in_ok-scalers.ensures.within, rows_count c.args.rows.now)

pub returns : goal.returns
returns c = block_done _ _ c.row_at-row.ensures c.in_ok-check_block.ensures c.in_ok-scalers.ensures c.store.ensures c.store-2.ensures
