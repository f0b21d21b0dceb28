-- `groups::write_samples` meets its contract. Assumes nothing.
use Prim.Native.Nat.{◌<◌}
use native.Mathlib.Omega.{arith}
use mathlib.Core.Path.{◌≡◌, sym, ◌∙◌}
use lib.ListN.{length}
use Rattle.event.specs.Writing.{rows_in, at_kind}
use Rattle.event.proofs.Answers.{passed_test, failed_test}
use Rattle.event.proofs.RowsIn.{rows_count}
use Rattle.event.proofs.WritingTurns.{run_done}
use Rattle.s800_writer.specs.Rows.{limits_fault}
use Rattle.s800_writer.proofs.Failures.{handed_on}
use Rattle.s800_writer.proofs.GroupTurns.{groups_end, groups_refused, groups_next, groups_short, groups_step, head_inside}
use Rattle.s800_writer.proofs.Limits.{Bounded, bounded}
use Rattle.s800_writer.proofs.groups.write_samples.Goals as goal

pub returns-then-before_kind : goal.returns-then-before_kind
returns-then-before_kind c =
    let failed = failed_test (limits_fault 8 511 63 0 c.row_at-head.result) c.loop-refusal.i c.in-Err.ensures in
    groups_end c.loop-refusal.invariant c.row_at-head.ensures failed (sym c.if-before_kind.true ∙ c.before_kind.ensures) c.loop-refusal.words

pub returns-in-Err : goal.returns-in-Err
returns-in-Err c = run_done 16 (at_kind 9) c.loop-refusal.invariant (sym c.if-before_kind.false ∙ c.before_kind.ensures)

pub store_head-requires : goal.store_head-requires
store_head-requires c =
    let faultless : 0 ≡ limits_fault 8 511 63 0 c.row_at-head.result = passed_test _ c.loop-refusal.i c.in_default.ensures in
    let bounds : Bounded 8 511 63 0 c.row_at-head.result = bounded 8 511 63 0 _ faultless in
    (bounds.unit, bounds.channel)

pub overflow_add-i : goal.overflow_add-i
overflow_add-i c =
    let faultless : 0 ≡ limits_fault 8 511 63 0 c.row_at-head.result = passed_test _ c.loop-refusal.i c.in_default.ensures in
    let inside : c.loop-refusal.i < length (rows_in c.args.run.rows.now) = head_inside (rows_in c.args.run.rows.now) c.loop-refusal.i c.row_at-head.ensures faultless in
    omega (arith, rows_count c.args.run.rows.now, inside)

pub overflow_add-at : goal.overflow_add-at
overflow_add-at c =
    let faultless : 0 ≡ limits_fault 8 511 63 0 c.row_at-head.result = passed_test _ c.loop-refusal.i c.in_default.ensures in
    let inside : c.loop-refusal.i < length (rows_in c.args.run.rows.now) = head_inside (rows_in c.args.run.rows.now) c.loop-refusal.i c.row_at-head.ensures faultless in
    omega (arith, c.loop-refusal.invariant.few, rows_count c.args.run.rows.now, inside)

pub invariant_of-write_data : goal.invariant_of-write_data
invariant_of-write_data c =
    let faultless : 0 ≡ limits_fault 8 511 63 0 c.row_at-head.result = passed_test _ c.loop-refusal.i c.in_default.ensures in
    let inside : c.loop-refusal.i < length (rows_in c.args.run.rows.now) = head_inside (rows_in c.args.run.rows.now) c.loop-refusal.i c.row_at-head.ensures faultless in
    let few = c.loop-refusal.invariant.few in
    record { inside = omega (arith, inside); few = omega arith }

pub write_data-requires : goal.write_data-requires
write_data-requires c =
    let faultless : 0 ≡ limits_fault 8 511 63 0 c.row_at-head.result = passed_test _ c.loop-refusal.i c.in_default.ensures in
    let bounds : Bounded 8 511 63 0 c.row_at-head.result = bounded 8 511 63 0 _ faultless in
    (bounds.unit, bounds.channel)

pub returns-in_err-data : goal.returns-in_err-data
returns-in_err-data c =
    let faultless : 0 ≡ limits_fault 8 511 63 0 c.row_at-head.result = passed_test _ c.loop-refusal.i c.in_default.ensures in
    rw (handed_on c.from_residual.result c.from_residual.ensures.1)
    (groups_refused c.loop-refusal.invariant c.row_at-head.ensures faultless c.in_err-data.ensures)

pub overflow_add-i-in-loop-refusal : goal.overflow_add-i-in-loop-refusal
overflow_add-i-in-loop-refusal c =
    let faultless : 0 ≡ limits_fault 8 511 63 0 c.row_at-head.result = passed_test _ c.loop-refusal.i c.in_default.ensures in
    let inside : c.loop-refusal.i < length (rows_in c.args.run.rows.now) = head_inside (rows_in c.args.run.rows.now) c.loop-refusal.i c.row_at-head.ensures faultless in
    omega (arith, rows_count c.args.run.rows.now, inside)

pub returns-then-data-i : goal.returns-then-data-i
returns-then-data-i c =
    let faultless : 0 ≡ limits_fault 8 511 63 0 c.row_at-head.result = passed_test _ c.loop-refusal.i c.in_default.ensures in
    rw c.refuse.ensures (groups_short c.loop-refusal.invariant c.row_at-head.ensures faultless c.in_ok-data.ensures c.if-data-i.true c.write_data.new.words)

pub loop-refusal-smaller : goal.loop-refusal-smaller
loop-refusal-smaller c =
    let faultless : 0 ≡ limits_fault 8 511 63 0 c.row_at-head.result = passed_test _ c.loop-refusal.i c.in_default.ensures in
    omega (arith, groups_next c.loop-refusal.invariant c.row_at-head.ensures faultless c.in_ok-data.ensures)

pub loop-refusal-preserved : goal.loop-refusal-preserved
loop-refusal-preserved c =
    let faultless : 0 ≡ limits_fault 8 511 63 0 c.row_at-head.result = passed_test _ c.loop-refusal.i c.in_default.ensures in
    let lengths : length c.write_data.new.words ≡ length c.loop-refusal.words = c.write_data.auto.words ∙ c.store_head.auto.words in
    groups_step c.loop-refusal.invariant c.row_at-head.ensures faultless c.in_ok-data.ensures c.if-data-i.false c.store_head.ensures lengths
