-- `channel_packets::write_object_pin` meets its contract. Assumes nothing.
use Prim.Native.Nat.{◌+◌}
use native.Mathlib.Omega.{arith}
use Rattle.event.proofs.Answers.{passed_test, failed_test}
use Rattle.s800_writer.proofs.Channels.{sound}
use Rattle.s800_writer.specs.Rows.{datum_fault}
use Rattle.s800_layout.specs.Event.{object_pin}
use Rattle.s800_writer.proofs.Failures.{handed_on}
use Rattle.event.specs.Writing.{rows_in}
use Rattle.s800_writer.proofs.Packets.{packet_closed, packet_refused, pin_refused, pin_inside, pin_content}
use Rattle.event.proofs.RowsIn.{rows_count}
use Rattle.s800_writer.proofs.channel_packets.write_object_pin.Goals as goal

pub returns-in_err-check_channel : goal.returns-in_err-check_channel
returns-in_err-check_channel c =
    let failed = failed_test (datum_fault c.energies-format.result 0 c.row_at-row.result) (c.args.own.at + 1) c.in_err-check_channel.ensures in
    rw (handed_on c.from_residual.result c.from_residual.ensures.1)
    (packet_refused object_pin 0 (rows_in c.args.own.rows.now) c.args.own.at (pin_refused (rows_in c.args.own.rows.now) c.args.own.at c.row_at-row.ensures c.energies-format.ensures failed))

pub channel_word-requires : goal.channel_word-requires
channel_word-requires c =
    let passed = passed_test (datum_fault c.energies-format.result 0 c.row_at-row.result) (c.args.own.at + 1) c.in_ok-check_channel.ensures in
    let s = sound c.energies-format.result 0 c.row_at-row.result passed in (omega (arith, rw c.energies-format.ensures at s.low), s.number)

pub overflow_add-result : goal.overflow_add-result
overflow_add-result c =
    let passed = passed_test (datum_fault c.energies-format.result 0 c.row_at-row.result) (c.args.own.at + 1) c.in_ok-check_channel.ensures in
    omega (arith, rows_count c.args.own.rows.now, pin_inside (rows_in c.args.own.rows.now) c.args.own.at c.row_at-row.ensures c.energies-format.ensures passed)

pub returns : goal.returns
returns c =
    let passed = passed_test (datum_fault c.energies-format.result 0 c.row_at-row.result) (c.args.own.at + 1) c.in_ok-check_channel.ensures in
    packet_closed object_pin 0 (rows_in c.args.own.rows.now) c.args.own.at (pin_content (rows_in c.args.own.rows.now) c.args.own.at c.row_at-row.ensures c.energies-format.ensures passed c.channel_word.ensures c.store_word.ensures) c.close.ensures
