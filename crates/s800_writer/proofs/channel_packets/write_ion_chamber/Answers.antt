-- `channel_packets::write_ion_chamber` meets its contract. Assumes nothing.
use native.Mathlib.Omega.{arith}
use Rattle.s800_writer.proofs.Packets.{packet_closed, content_refused, chamber_content, chamber_refused}
use Rattle.s800_writer.proofs.Failures.{handed_on}
use Rattle.event.specs.Writing.{rows_in}
use Rattle.s800_layout.specs.Event.{ion_chamber}
use Rattle.s800_writer.proofs.channel_packets.write_ion_chamber.Goals as goal

pub write_channels-requires : goal.write_channels-requires
write_channels-requires c = rw c.energies.ensures (omega arith)

pub returns-in_err-written : goal.returns-in_err-written
returns-in_err-written c =
    rw (handed_on c.from_residual.result c.from_residual.ensures.1)
    (content_refused ion_chamber 0 (rows_in c.args.own.rows.now) c.args.own.at (chamber_refused (rows_in c.args.own.rows.now) c.args.own.at c.energies.ensures c.in_err-written.ensures))

pub returns : goal.returns
returns c =
    packet_closed ion_chamber 0 (rows_in c.args.own.rows.now) c.args.own.at (chamber_content (rows_in c.args.own.rows.now) c.args.own.at c.energies.ensures c.in_ok-written.ensures c.close.ensures) c.close-2.ensures
