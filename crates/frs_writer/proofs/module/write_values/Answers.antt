-- `module::write_values` meets its contract. Assumes nothing.
use native.Mathlib.Omega.{arith}
use Rattle.event.proofs.Answers.{passed_test}
use Rattle.event.proofs.ChannelLaws.{blocked_none}
use Rattle.event.proofs.CountedRows.{counted_begin}
use Rattle.event.proofs.RowsIn.{rows_count}
use Rattle.frs_writer.proofs.RowFaults.{value_fields}
use Rattle.frs_writer.proofs.Values.{values_done, value_refused, value_taken}
use Rattle.std.proofs.lemmas.Result.{err_from_is_err_and}
use Rattle.frs_writer.proofs.module.write_values.Goals as goal

pub loop-k-init : goal.loop-k-init
loop-k-init c = counted_begin blocked_none c.requires.1 (omega (arith, c.requires.0))

pub overflow_add-first : goal.overflow_add-first
overflow_add-first c = omega (arith, c.loop-k.invariant.reached.inside, rows_count c.args.rows.now)

pub overflow_add-first-in-loop-k : goal.overflow_add-first-in-loop-k
overflow_add-first-in-loop-k c = omega (arith, c.loop-k.invariant.reached.inside, rows_count c.args.rows.now)

pub returns-in_err-check_value : goal.returns-in_err-check_value
returns-in_err-check_value c =
    let p = err_from_is_err_and c.from_residual.result c.from_residual.ensures.1 in
    rw (p.1, p.2) (value_refused _ c.loop-k.invariant c.loop-k-test.true c.row_at-row.ensures _ c.in_err-check_value.ensures)

pub overflow_mul-row : goal.overflow_mul-row
overflow_mul-row c = omega (arith, value_fields _ _ _ (passed_test _ _ c.in_ok-check_value.ensures))

pub overflow_add-row : goal.overflow_add-row
overflow_add-row c = omega (arith, value_fields _ _ _ (passed_test _ _ c.in_ok-check_value.ensures))

pub longword-requires : goal.longword-requires
longword-requires c = (c.requires.2, omega arith, omega (arith, value_fields _ _ _ (passed_test _ _ c.in_ok-check_value.ensures)))

pub loop-k-preserved : goal.loop-k-preserved
loop-k-preserved c = value_taken _ c.loop-k.invariant c.loop-k-test.true c.row_at-row.ensures c.in_ok-check_value.ensures c.longword.ensures c.store.ensures c.with_channel-seen.ensures
    c.store.auto.words

pub overflow_add-result : goal.overflow_add-result
overflow_add-result c = omega (arith, c.loop-k.invariant.reached.inside, c.loop-k-test.false, rows_count c.args.rows.now)

pub returns : goal.returns
returns c = values_done _ c.loop-k.invariant (omega (arith, c.loop-k-test.false, c.loop-k.invariant.most))
