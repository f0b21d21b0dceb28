-- `begin::begin` meets its contract. Assumes nothing.
use native.Mathlib.Omega.{arith}
use mathlib.Core.Path.{refl}
use Rattle.event.specs.Writing.{rows_in}
use Rattle.event.proofs.Answers.{passed_test}
use Rattle.event.proofs.RowsIn.{rows_count}
use Rattle.frs_writer.proofs.RowFaults.{stamp_judged}
use Rattle.frs_writer.proofs.Begun.{stamp_refused, block_there, scaler_refused, scaler_done, pattern_refused, begins}
use Rattle.std.proofs.lemmas.Result.{err_from_is_err_and}
use Rattle.frs_writer.proofs.begin.begin.Goals as goal

pub returns-in_err-check_stamp : goal.returns-in_err-check_stamp
returns-in_err-check_stamp c =
    let p = err_from_is_err_and c.from_residual.result c.from_residual.ensures.1 in
    rw (p.1, p.2) (stamp_refused _ _ c.row_at-row.ensures c.in_err-check_stamp.ensures)

pub store_stamp-requires : goal.store_stamp-requires
store_stamp-requires c = (stamp_judged _).kept (passed_test _ _ c.in_ok-check_stamp.ensures)

pub write_scaler-requires : goal.write_scaler-requires
write_scaler-requires c = block_there (rows_in c.args.rows.now) c.args.words.now c.row_at-row.ensures c.in_ok-check_stamp.ensures

pub returns-in_err-scaler : goal.returns-in_err-scaler
returns-in_err-scaler c =
    let p = err_from_is_err_and c.from_residual-in_err-scaler.result c.from_residual-in_err-scaler.ensures.1 in
    rw (p.1, p.2) (scaler_refused (rows_in c.args.rows.now) c.args.words.now c.row_at-row.ensures c.in_ok-check_stamp.ensures c.in_err-scaler.ensures)

pub overflow_add-at : goal.overflow_add-at
overflow_add-at c = omega (arith, c.in_ok-scaler.ensures.within, rows_count c.args.rows.now)

pub returns-in_err-pattern : goal.returns-in_err-pattern
returns-in_err-pattern c =
    let p = err_from_is_err_and c.from_residual-in_err-pattern.result c.from_residual-in_err-pattern.ensures.1 in
    rw (p.1, p.2) (pattern_refused (rows_in c.args.rows.now) c.args.words.now c.row_at-row.ensures c.in_ok-check_stamp.ensures
    (scaler_done (rows_in c.args.rows.now) c.args.words.now c.row_at-row.ensures c.in_ok-check_stamp.ensures c.store_stamp.ensures c.part_start-start.ensures refl c.in_ok-scaler.ensures refl)
    c.in_err-pattern.ensures)

pub overflow_add-result : goal.overflow_add-result
overflow_add-result c = omega (arith, c.in_ok-scaler.ensures.within, c.in_ok-pattern.ensures.within, rows_count c.args.rows.now)

pub returns : goal.returns
returns c =
    begins (rows_in c.args.rows.now) c.args.words.now c.row_at-row.ensures c.in_ok-check_stamp.ensures
    (scaler_done (rows_in c.args.rows.now) c.args.words.now c.row_at-row.ensures c.in_ok-check_stamp.ensures c.store_stamp.ensures c.part_start-start.ensures refl c.in_ok-scaler.ensures refl)
    c.part_start-start-2.ensures refl c.in_ok-pattern.ensures refl
