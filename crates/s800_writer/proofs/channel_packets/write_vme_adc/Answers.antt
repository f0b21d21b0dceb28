-- `channel_packets::write_vme_adc` meets its contract. Assumes nothing.
use native.Mathlib.Omega.{arith}
use Rattle.s800_layout.specs.Event.{vme_adc}
use Rattle.s800_writer.proofs.Failures.{handed_on}
use Rattle.s800_writer.proofs.Packets.{packet_closed, content_refused, adc_content}
use Rattle.event.specs.Writing.{rows_in}
use Rattle.s800_writer.proofs.channel_packets.write_vme_adc.Goals as goal

pub write_channels-requires : goal.write_channels-requires
write_channels-requires c = rw c.adc_energies.ensures (omega arith)

pub returns-in_err-written : goal.returns-in_err-written
returns-in_err-written c =
    rw (handed_on c.from_residual.result c.from_residual.ensures.1)
    (content_refused vme_adc c.args.id (rows_in c.args.own.rows.now) c.args.own.at (adc_content (rows_in c.args.own.rows.now) c.args.own.at c.args.id c.adc_energies.ensures c.store_word.ensures c.in_err-written.ensures))

pub returns : goal.returns
returns c =
    packet_closed vme_adc c.args.id (rows_in c.args.own.rows.now) c.args.own.at (adc_content (rows_in c.args.own.rows.now) c.args.own.at c.args.id c.adc_energies.ensures c.store_word.ensures c.in_ok-written.ensures) c.close.ensures
