-- `content::write_channels` meets its contract. Assumes nothing.
use native.Mathlib.Omega.{arith}
use mathlib.Core.Path.{refl, sym, ◌∙◌}
use Rattle.s800_layout.specs.Writing.{at_packet}
use Rattle.event.proofs.Answers.{passed_test, failed_test}
use Rattle.event.proofs.RowsIn.{rows_count}
use Rattle.event.proofs.WritingTurns.{run_done}
use Rattle.s800_writer.specs.Rows.{datum_fault}
use Rattle.s800_writer.proofs.Channels.{sound, channels_stop, channels_step, channels_inside}
use Rattle.s800_writer.proofs.Failures.{handed_on}
use Rattle.s800_writer.proofs.content.write_channels.Goals as goal

pub returns-in_err-check_channel : goal.returns-in_err-check_channel
returns-in_err-check_channel c =
    let failed = failed_test (datum_fault c.args.format c.loop-format.blocked c.row_at-row.result) c.loop-format.i c.in_err-check_channel.ensures in
    rw (handed_on c.from_residual.result c.from_residual.ensures.1)
    (channels_stop c.args.format c.loop-format.invariant c.requires (sym c.loop-format-test.true ∙ c.before_kind.ensures) c.row_at-row.ensures c.loop-format.words failed)

pub overflow_sub-channel : goal.overflow_sub-channel
overflow_sub-channel c =
    let passed = passed_test (datum_fault c.args.format c.loop-format.blocked c.row_at-row.result) c.loop-format.i c.in_ok-check_channel.ensures in
    (sound c.args.format c.loop-format.blocked c.row_at-row.result passed).base

pub channel_word-requires : goal.channel_word-requires
channel_word-requires c =
    let passed = passed_test (datum_fault c.args.format c.loop-format.blocked c.row_at-row.result) c.loop-format.i c.in_ok-check_channel.ensures in
    let s = sound c.args.format c.loop-format.blocked c.row_at-row.result passed in (s.low, s.number)

pub overflow_add-at : goal.overflow_add-at
overflow_add-at c =
    let passed = passed_test (datum_fault c.args.format c.loop-format.blocked c.row_at-row.result) c.loop-format.i c.in_ok-check_channel.ensures in
    let inside = channels_inside c.args.format c.loop-format.invariant c.requires (sym c.loop-format-test.true ∙ c.before_kind.ensures) c.row_at-row.ensures passed in
    omega (arith, c.loop-format.invariant.few, rows_count c.args.run.rows.now)

pub overflow_add-i : goal.overflow_add-i
overflow_add-i c =
    let passed = passed_test (datum_fault c.args.format c.loop-format.blocked c.row_at-row.result) c.loop-format.i c.in_ok-check_channel.ensures in
    let inside = channels_inside c.args.format c.loop-format.invariant c.requires (sym c.loop-format-test.true ∙ c.before_kind.ensures) c.row_at-row.ensures passed in
    omega (arith, rows_count c.args.run.rows.now)

pub loop-format-preserved : goal.loop-format-preserved
loop-format-preserved c =
    let passed = passed_test (datum_fault c.args.format c.loop-format.blocked c.row_at-row.result) c.loop-format.i c.in_ok-check_channel.ensures in
    channels_step c.args.format c.loop-format.invariant c.requires (sym c.loop-format-test.true ∙ c.before_kind.ensures) c.row_at-row.ensures passed refl c.with_channel-blocked.ensures
    c.channel_word.ensures c.store_word.ensures c.store_word.auto.words

pub returns : goal.returns
returns c = run_done 16 at_packet c.loop-format.invariant (sym c.loop-format-test.false ∙ c.before_kind.ensures)
