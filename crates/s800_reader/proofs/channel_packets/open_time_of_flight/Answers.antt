-- `channel_packets::open_time_of_flight` meets its contract. Assumes nothing.
use Prim.Native.Nat.{◌≤◌}
use Rattle.s800_reader.proofs.Opening.{packet_at}
use borrow.Author.Rules.{rules}
use Rattle.s800_reader.proofs.ChannelPackets.{flight_opens}
use Rattle.s800_reader.proofs.channel_packets.open_time_of_flight.Goals as goal

pub returns : goal.returns
returns c =
    let n : c.args.packet.size ≤ 10 = search rules in
    rw (c.channels.ensures, c.flight_times.ensures) (flight_opens (packet_at c.args.packet) n c.store_packet.ensures)
