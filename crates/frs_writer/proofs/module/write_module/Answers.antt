-- `module::write_module` meets its contract. Assumes nothing.
use native.Mathlib.Omega.{arith}
use Rattle.event.specs.Writing.{rows_in}
use Rattle.event.proofs.Answers.{passed_test}
use Rattle.event.proofs.RowsIn.{rows_count}
use Rattle.frs_writer.proofs.Headers.{empty_keeps, data_keeps}
use Rattle.frs_writer.proofs.OneModule.{header_refused, there, empty_done, values_refused, data_done}
use Rattle.std.proofs.lemmas.Result.{err_from_is_err_and}
use Rattle.frs_writer.proofs.module.write_module.Goals as goal

pub returns-in_err-check_header : goal.returns-in_err-check_header
returns-in_err-check_header c =
    let p = err_from_is_err_and c.from_residual.result c.from_residual.ensures.1 in
    rw (p.1, p.2) (header_refused _ _ _ _ c.row_at-row.ensures _ c.in_err-check_header.ensures)

pub longword-requires : goal.longword-requires
longword-requires c = omega (arith, empty_keeps _ _ (passed_test _ _ c.in_ok-check_header.ensures) c.if-row.true)

pub overflow_add-result : goal.overflow_add-result
overflow_add-result c = omega (arith, c.requires, rows_count c.args.rows.now)

pub returns-then-row : goal.returns-then-row
returns-then-row c = empty_done _ _ _ _ c.row_at-row.ensures c.in_ok-check_header.ensures c.if-row.true c.longword.ensures c.store.ensures

pub overflow_add-at : goal.overflow_add-at
overflow_add-at c = omega (arith, c.requires, rows_count c.args.rows.now)

pub write_values-requires : goal.write_values-requires
write_values-requires c = omega (
  arith,
  data_keeps _ _ (passed_test _ _ c.in_ok-check_header.ensures) c.if-row.false,
  there c.args.seen (rows_in c.args.rows.now) c.args.at c.args.words.now c.row_at-row.ensures c.in_ok-check_header.ensures,
)

pub returns-in_err-values : goal.returns-in_err-values
returns-in_err-values c =
    let p = err_from_is_err_and c.from_residual-in_err-values.result c.from_residual-in_err-values.ensures.1 in
    rw (p.1, p.2) (values_refused _ _ _ _ c.row_at-row.ensures c.in_ok-check_header.ensures c.if-row.false _ c.in_err-values.ensures)

pub longword-requires-2 : goal.longword-requires-2
longword-requires-2 c = omega (arith, data_keeps _ _ (passed_test _ _ c.in_ok-check_header.ensures) c.if-row.false)

pub longword-requires-3 : goal.longword-requires-3
longword-requires-3 c = omega (arith, data_keeps _ _ (passed_test _ _ c.in_ok-check_header.ensures) c.if-row.false)

pub overflow_add-result-2 : goal.overflow_add-result-2
overflow_add-result-2 c = omega (arith, c.in_ok-values.ensures.within, rows_count c.args.rows.now)

pub returns : goal.returns
returns c = data_done _ _ _ _ c.row_at-row.ensures c.in_ok-check_header.ensures c.if-row.false c.in_ok-values.ensures c.longword-2.ensures c.store-2.ensures c.longword-3.ensures
    c.store-3.ensures
