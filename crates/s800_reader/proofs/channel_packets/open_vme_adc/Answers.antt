-- `channel_packets::open_vme_adc` meets its contract. Assumes nothing.
use Prim.Native.Nat.{◌≤◌}
use Rattle.s800_reader.proofs.Opening.{packet_at}
use borrow.Author.Rules.{rules}
use Rattle.s800_reader.proofs.ChannelPackets.{adc_opens}
use Rattle.s800_reader.proofs.channel_packets.open_vme_adc.Goals as goal

pub returns : goal.returns
returns c =
    let n : (3 ≤ c.args.packet.size) × (c.args.packet.size ≤ 11) = search rules in
    rw (c.channels.ensures, c.adc_energies.ensures) (adc_opens (packet_at c.args.packet) n.0 c.word-id.ensures.0 n.1 c.if-id-gt3.false c.store_packet.ensures)
