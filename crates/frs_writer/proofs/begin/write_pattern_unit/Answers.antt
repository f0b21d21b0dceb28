-- `begin::write_pattern_unit` meets its contract. Assumes nothing.
use native.Mathlib.Omega.{arith}
use Rattle.event.proofs.Answers.{passed_test}
use Rattle.event.proofs.RowsIn.{rows_count}
use Rattle.frs_writer.proofs.RowFaults.{pattern_judged}
use Rattle.frs_writer.proofs.PatternUnit.{no_pattern, pattern_refused, pattern_done}
use Rattle.std.proofs.lemmas.Result.{err_from_is_err_and}
use Rattle.frs_writer.proofs.begin.write_pattern_unit.Goals as goal

pub returns-then-row : goal.returns-then-row
returns-then-row c = no_pattern _ _ _ c.row_at-row.ensures c.if-row.true c.requires

pub returns-in_err-check_pattern : goal.returns-in_err-check_pattern
returns-in_err-check_pattern c =
    let p = err_from_is_err_and c.from_residual.result c.from_residual.ensures.1 in
    rw (p.1, p.2) (pattern_refused _ _ _ c.row_at-row.ensures c.if-row.false _ c.in_err-check_pattern.ensures)

pub store_pattern-requires : goal.store_pattern-requires
store_pattern-requires c = let k = (pattern_judged _).kept (passed_test _ _ c.in_ok-check_pattern.ensures) in (k.1, k.2)

pub overflow_add-result : goal.overflow_add-result
overflow_add-result c = omega (arith, c.requires, rows_count c.args.rows.now)

pub returns : goal.returns
returns c = pattern_done _ _ _ c.row_at-row.ensures c.if-row.false c.in_ok-check_pattern.ensures c.store_pattern.ensures
