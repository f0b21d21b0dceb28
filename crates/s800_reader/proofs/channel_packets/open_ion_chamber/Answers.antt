-- `channel_packets::open_ion_chamber` meets its contract. Assumes nothing.
use Prim.Native.Nat.{◌≤◌}
use Rattle.s800_reader.proofs.Opening.{packet_at}
use borrow.Author.Rules.{rules}
use Rattle.s800_reader.proofs.ChannelPackets.{chamber_tag, chamber_opens}
use Rattle.s800_reader.proofs.channel_packets.open_ion_chamber.Goals as goal

pub returns-then-word : goal.returns-then-word
returns-then-word c =
    let n : (4 ≤ c.args.packet.size) × (c.args.packet.size ≤ 20) = search rules in
    chamber_tag (packet_at c.args.packet) n.0 n.1 c.word.ensures.0 c.if-word-packet.false c.word-2.ensures.0 c.if-word.true c.refuse-then-word.ensures

pub returns : goal.returns
returns c =
    let n : (4 ≤ c.args.packet.size) × (c.args.packet.size ≤ 20) = search rules in
    rw (c.channels.ensures, c.energies.ensures)
    (chamber_opens (packet_at c.args.packet) n.0 n.1 c.word.ensures.0 c.if-word-packet.false c.word-2.ensures.0 c.if-word.false c.store_packet.ensures)
