-- `content::write_pairs` meets its contract. Assumes nothing.
use Prim.Native.Nat.{◌+◌}
use native.Mathlib.Omega.{arith}
use mathlib.Core.Path.{sym, ◌∙◌}
use Rattle.s800_layout.specs.Writing.{at_packet}
use Rattle.s800_format.proofs.Formats.{pair_format}
use Rattle.event.proofs.Answers.{passed_test, failed_test}
use Rattle.event.proofs.ChannelLaws.{blocked_none}
use Rattle.event.proofs.RowsIn.{rows_count}
use Rattle.event.proofs.Turns.{begin}
use Rattle.event.proofs.WritingTurns.{run_done}
use Rattle.s800_writer.specs.Rows.{datum_fault, time_fault}
use Rattle.s800_writer.proofs.Channels.{sound}
use Rattle.s800_writer.proofs.Failures.{handed_on}
use Rattle.s800_writer.proofs.Pairs.{short_time, pairs_stop, pairs_inside, pairs_stop_2, pairs_inside_2, pairs_step}
use Rattle.s800_writer.proofs.content.write_pairs.Goals as goal

pub loop-format-init : goal.loop-format-init
loop-format-init c = (begin (rw c.pair_energies-format.ensures blocked_none) c.args.run.inside c.args.run.few, c.pair_energies-format.ensures)

pub returns-in_err-check_channel : goal.returns-in_err-check_channel
returns-in_err-check_channel c =
    let failed = failed_test (datum_fault pair_format c.loop-format.blocked c.row_at-energy.result) c.loop-format.i (rw c.loop-format.invariant.1 at c.in_err-check_channel.ensures) in
    rw (handed_on c.from_residual.result c.from_residual.ensures.1)
    (pairs_stop c.loop-format.invariant.0 (sym c.loop-format-test.true ∙ c.before_kind.ensures) c.row_at-energy.ensures c.loop-format.words failed)

pub overflow_add-i : goal.overflow_add-i
overflow_add-i c =
    let passed = passed_test (datum_fault pair_format c.loop-format.blocked c.row_at-energy.result) c.loop-format.i (rw c.loop-format.invariant.1 at c.in_ok-check_channel.ensures) in
    let inside = pairs_inside c.loop-format.invariant.0 (sym c.loop-format-test.true ∙ c.before_kind.ensures) c.row_at-energy.ensures passed in
    omega (arith, rows_count c.args.run.rows.now)

pub overflow_add-i-in-loop-format : goal.overflow_add-i-in-loop-format
overflow_add-i-in-loop-format c =
    let passed = passed_test (datum_fault pair_format c.loop-format.blocked c.row_at-energy.result) c.loop-format.i (rw c.loop-format.invariant.1 at c.in_ok-check_channel.ensures) in
    let inside = pairs_inside c.loop-format.invariant.0 (sym c.loop-format-test.true ∙ c.before_kind.ensures) c.row_at-energy.ensures passed in
    omega (arith, rows_count c.args.run.rows.now)

pub returns-in_err-check_time : goal.returns-in_err-check_time
returns-in_err-check_time c =
    let passed = passed_test (datum_fault pair_format c.loop-format.blocked c.row_at-energy.result) c.loop-format.i (rw c.loop-format.invariant.1 at c.in_ok-check_channel.ensures) in
    let failed = failed_test (time_fault c.row_at-energy.result.channel c.row_at-time.result) (c.loop-format.i + 1) c.in_err-check_time.ensures in
    rw (handed_on c.from_residual-in_err-check_time.result c.from_residual-in_err-check_time.ensures.1)
    (pairs_stop_2 c.loop-format.invariant.0 (sym c.loop-format-test.true ∙ c.before_kind.ensures) c.row_at-energy.ensures passed c.row_at-time.ensures c.loop-format.words failed)

pub store_pair-requires : goal.store_pair-requires
store_pair-requires c =
    let passed = passed_test (datum_fault pair_format c.loop-format.blocked c.row_at-energy.result) c.loop-format.i (rw c.loop-format.invariant.1 at c.in_ok-check_channel.ensures) in
    let timed = passed_test (time_fault c.row_at-energy.result.channel c.row_at-time.result) (c.loop-format.i + 1) c.in_ok-check_time.ensures in
    let inside = pairs_inside c.loop-format.invariant.0 (sym c.loop-format-test.true ∙ c.before_kind.ensures) c.row_at-energy.ensures passed in
    let s = sound pair_format c.loop-format.blocked c.row_at-energy.result passed in
    let few = c.loop-format.invariant.0.few in (
      omega (arith, rows_count c.args.run.rows.now),
      omega (arith, s.low),
      s.number,
      short_time c.row_at-energy.result.channel c.row_at-time.result timed,
    )

pub overflow_add-at : goal.overflow_add-at
overflow_add-at c =
    let passed = passed_test (datum_fault pair_format c.loop-format.blocked c.row_at-energy.result) c.loop-format.i (rw c.loop-format.invariant.1 at c.in_ok-check_channel.ensures) in
    let timed = passed_test (time_fault c.row_at-energy.result.channel c.row_at-time.result) (c.loop-format.i + 1) c.in_ok-check_time.ensures in
    let inside = pairs_inside_2 c.loop-format.invariant.0 (sym c.loop-format-test.true ∙ c.before_kind.ensures) c.row_at-energy.ensures passed c.row_at-time.ensures timed in
    omega (arith, c.loop-format.invariant.0.few, rows_count c.args.run.rows.now)

pub overflow_add-i-in-loop-format-2 : goal.overflow_add-i-in-loop-format-2
overflow_add-i-in-loop-format-2 c =
    let passed = passed_test (datum_fault pair_format c.loop-format.blocked c.row_at-energy.result) c.loop-format.i (rw c.loop-format.invariant.1 at c.in_ok-check_channel.ensures) in
    let timed = passed_test (time_fault c.row_at-energy.result.channel c.row_at-time.result) (c.loop-format.i + 1) c.in_ok-check_time.ensures in
    let inside = pairs_inside_2 c.loop-format.invariant.0 (sym c.loop-format-test.true ∙ c.before_kind.ensures) c.row_at-energy.ensures passed c.row_at-time.ensures timed in
    omega (arith, rows_count c.args.run.rows.now)

pub loop-format-preserved : goal.loop-format-preserved
loop-format-preserved c =
    let passed = passed_test (datum_fault pair_format c.loop-format.blocked c.row_at-energy.result) c.loop-format.i (rw c.loop-format.invariant.1 at c.in_ok-check_channel.ensures) in
    let timed = passed_test (time_fault c.row_at-energy.result.channel c.row_at-time.result) (c.loop-format.i + 1) c.in_ok-check_time.ensures in (
      pairs_step c.loop-format.invariant.0 (sym c.loop-format-test.true ∙ c.before_kind.ensures) c.row_at-energy.ensures passed c.row_at-time.ensures timed c.with_channel-blocked.ensures
          c.store_pair.ensures c.store_pair.auto.words,
      c.loop-format.invariant.1,
    )

pub returns : goal.returns
returns c = run_done 16 at_packet c.loop-format.invariant.0 (sym c.loop-format-test.false ∙ c.before_kind.ensures)
