-- `channel_packets::open_hodoscope` meets its contract. Assumes nothing.
use Prim.Native.Nat.{◌≤◌}
use Rattle.s800_reader.proofs.Opening.{packet_at}
use borrow.Author.Rules.{rules}
use Rattle.s800_reader.proofs.ChannelPackets.{hodoscope_opens}
use Rattle.s800_reader.proofs.channel_packets.open_hodoscope.Goals as goal

pub returns : goal.returns
returns c =
    let n : (3 ≤ c.args.packet.size) × (c.args.packet.size ≤ 19) = search rules in
    rw (c.channels.ensures, c.energies.ensures)
    (hodoscope_opens (packet_at c.args.packet) n.0 c.word-id.ensures.0 n.1 c.if-id-gt-HITS_ID.false c.if-id-eq-HITS_ID.false c.store_packet.ensures)
