-- `channel_packets::write_hodoscope` meets its contract. Assumes nothing.
use native.Mathlib.Omega.{arith}
use Rattle.s800_layout.specs.Event.{hodoscope}
use Rattle.s800_writer.proofs.Failures.{handed_on}
use Rattle.s800_writer.proofs.Packets.{packet_closed, content_refused, hits_content_lem, energies_content_lem}
use Rattle.event.specs.Writing.{rows_in}
use Rattle.s800_writer.proofs.channel_packets.write_hodoscope.Goals as goal

pub returns-in_err-hits : goal.returns-in_err-hits
returns-in_err-hits c =
    rw (handed_on c.from_residual.result c.from_residual.ensures.1)
    (content_refused hodoscope c.args.id (rows_in c.args.own.rows.now) c.args.own.at (hits_content_lem (rows_in c.args.own.rows.now) c.args.own.at c.if-id-eq-HITS_ID.true c.store_word.ensures c.in_err-hits.ensures))

pub returns-then-id-eq-HITS_ID : goal.returns-then-id-eq-HITS_ID
returns-then-id-eq-HITS_ID c =
    packet_closed hodoscope c.args.id (rows_in c.args.own.rows.now) c.args.own.at (hits_content_lem (rows_in c.args.own.rows.now) c.args.own.at c.if-id-eq-HITS_ID.true c.store_word.ensures c.in_ok-hits.ensures) c.close.ensures

pub write_channels-requires : goal.write_channels-requires
write_channels-requires c = rw c.energies.ensures (omega arith)

pub returns-in_err-written : goal.returns-in_err-written
returns-in_err-written c =
    rw (handed_on c.from_residual-in_err-written.result c.from_residual-in_err-written.ensures.1)
    (content_refused hodoscope c.args.id (rows_in c.args.own.rows.now) c.args.own.at (energies_content_lem (rows_in c.args.own.rows.now) c.args.own.at c.args.id c.if-id-eq-HITS_ID.false c.energies.ensures c.store_word.ensures c.in_err-written.ensures))

pub returns : goal.returns
returns c =
    packet_closed hodoscope c.args.id (rows_in c.args.own.rows.now) c.args.own.at (energies_content_lem (rows_in c.args.own.rows.now) c.args.own.at c.args.id c.if-id-eq-HITS_ID.false c.energies.ensures c.store_word.ensures c.in_ok-written.ensures) c.close-2.ensures
