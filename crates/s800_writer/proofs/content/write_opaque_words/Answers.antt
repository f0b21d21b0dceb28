-- `content::write_opaque_words` meets its contract. Assumes nothing.
use native.Mathlib.Omega.{arith}
use mathlib.Core.Path.{sym, ◌∙◌}
use Rattle.s800_layout.specs.Writing.{at_packet}
use Rattle.event.proofs.Answers.{passed_test, failed_test}
use Rattle.event.proofs.RowsIn.{rows_count}
use Rattle.event.proofs.WritingTurns.{run_done}
use Rattle.s800_writer.specs.Rows.{limits_fault}
use Rattle.s800_writer.proofs.Failures.{handed_on}
use Rattle.s800_writer.proofs.Singles.{opaques_stop, opaques_inside, opaques_step}
use Rattle.s800_writer.proofs.content.write_opaque_words.Goals as goal

pub returns-in_err-check_limits : goal.returns-in_err-check_limits
returns-in_err-check_limits c =
    let failed = failed_test (limits_fault 11 0 0 65535 c.row_at-row.result) c.loop-row.i c.in_err-check_limits.ensures in
    rw (handed_on c.from_residual.result c.from_residual.ensures.1)
    (opaques_stop c.loop-row.invariant (sym c.loop-row-test.true ∙ c.before_kind.ensures) c.row_at-row.ensures c.loop-row.words failed)

pub overflow_add-at : goal.overflow_add-at
overflow_add-at c =
    let passed = passed_test (limits_fault 11 0 0 65535 c.row_at-row.result) c.loop-row.i c.in_ok-check_limits.ensures in
    let inside = opaques_inside c.loop-row.invariant (sym c.loop-row-test.true ∙ c.before_kind.ensures) c.row_at-row.ensures passed in
    omega (arith, c.loop-row.invariant.few, rows_count c.args.run.rows.now)

pub overflow_add-i : goal.overflow_add-i
overflow_add-i c =
    let passed = passed_test (limits_fault 11 0 0 65535 c.row_at-row.result) c.loop-row.i c.in_ok-check_limits.ensures in
    let inside = opaques_inside c.loop-row.invariant (sym c.loop-row-test.true ∙ c.before_kind.ensures) c.row_at-row.ensures passed in
    omega (arith, rows_count c.args.run.rows.now)

pub loop-row-preserved : goal.loop-row-preserved
loop-row-preserved c =
    let passed = passed_test (limits_fault 11 0 0 65535 c.row_at-row.result) c.loop-row.i c.in_ok-check_limits.ensures in
    opaques_step c.loop-row.invariant (sym c.loop-row-test.true ∙ c.before_kind.ensures) c.row_at-row.ensures passed c.store_word.ensures c.store_word.auto.words

pub returns : goal.returns
returns c = run_done 16 at_packet c.loop-row.invariant (sym c.loop-row-test.false ∙ c.before_kind.ensures)
