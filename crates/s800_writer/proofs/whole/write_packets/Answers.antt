-- `whole::write_packets` meets its contract. Assumes nothing.
use native.Mathlib.Omega.{arith}
use native.Mathlib.Nat.{min-le_right}
use mathlib.Core.Path.{refl}
use lib.ListN.{length}
use Rattle.event.proofs.RowsIn.{rows_count}
use Rattle.event.proofs.Turns.{begin}
use Rattle.s800_writer.proofs.Failures.{handed_on}
use Rattle.s800_writer.proofs.Runs.{packets_done, packets_stop, packets_within, packets_step}
use Rattle.s800_writer.proofs.whole.write_packets.Goals as goal

pub loop-i-init : goal.loop-i-init
loop-i-init c = begin tt c.args.run.inside c.args.run.few

pub offset_bounds-words-start : goal.offset_bounds-words-start
offset_bounds-words-start c = omega (arith, c.part_start-start.ensures, min-le_right c.loop-i.at (length c.loop-i.words))

pub slice_bounds-write_packet-count : goal.slice_bounds-write_packet-count
slice_bounds-write_packet-count c = omega (arith, c.part_start-start.ensures, min-le_right c.loop-i.at (length c.loop-i.words))

pub slice_bounds-write_packet-start : goal.slice_bounds-write_packet-start
slice_bounds-write_packet-start c = omega (arith, c.part_start-start.ensures, min-le_right c.loop-i.at (length c.loop-i.words))

pub invariant_of-write_packet : goal.invariant_of-write_packet
invariant_of-write_packet c = record { there = omega (arith, rows_count c.args.run.rows.now, c.loop-i-test.true) }

pub returns-in_err-packet : goal.returns-in_err-packet
returns-in_err-packet c =
    rw (handed_on c.from_residual.result c.from_residual.ensures.1)
    (packets_stop c.loop-i.invariant (omega (arith, rows_count c.args.run.rows.now, c.loop-i-test.true)) c.part_start-start.ensures refl _ c.in_err-packet.ensures)

pub overflow_add-at : goal.overflow_add-at
overflow_add-at c =
    let w = packets_within c.loop-i.invariant (omega (arith, rows_count c.args.run.rows.now, c.loop-i-test.true)) c.part_start-start.ensures refl c.in_ok-packet.ensures in
    omega (arith, rows_count c.args.run.rows.now, w.0, w.2)

pub loop-i-smaller : goal.loop-i-smaller
loop-i-smaller c =
    let w = packets_within c.loop-i.invariant (omega (arith, rows_count c.args.run.rows.now, c.loop-i-test.true)) c.part_start-start.ensures refl c.in_ok-packet.ensures in
    omega (arith, w.0, w.1)

pub loop-i-preserved : goal.loop-i-preserved
loop-i-preserved c = packets_step c.loop-i.invariant (omega (arith, rows_count c.args.run.rows.now, c.loop-i-test.true)) c.part_start-start.ensures refl c.in_ok-packet.ensures refl

pub returns : goal.returns
returns c = packets_done c.loop-i.invariant (omega (arith, rows_count c.args.run.rows.now, c.loop-i-test.false))
