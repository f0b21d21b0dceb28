-- `channel_packets::open_object_pin` meets its contract. Assumes nothing.
use Rattle.s800_reader.proofs.Opening.{packet_at}
use Rattle.s800_reader.proofs.SinglePackets.{pin_opens}
use Rattle.s800_reader.proofs.channel_packets.open_object_pin.Goals as goal

pub returns : goal.returns
returns c =
    rw (c.channels.ensures, c.energies.ensures) (pin_opens (packet_at c.args.packet) c.if-packet-ne3.false c.store_packet.ensures)
