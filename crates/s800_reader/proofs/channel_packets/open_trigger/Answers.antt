-- `channel_packets::open_trigger` meets its contract. Assumes nothing.
use Prim.Native.Nat.{◌≤◌}
use mathlib.Core.Path.{◌∙◌}
use Rattle.s800_reader.proofs.Opening.{packet_at}
use borrow.Author.Rules.{rules}
use Rattle.s800_reader.proofs.ChannelPackets.{trigger_opens}
use Rattle.s800_reader.proofs.channel_packets.open_trigger.Goals as goal

pub returns : goal.returns
returns c =
    let n : (3 ≤ c.args.packet.size) × (c.args.packet.size ≤ 7) = search rules in
    rw (c.channels.ensures, c.trigger_times.ensures)
    (trigger_opens (packet_at c.args.packet) n.0 c.word-pattern.ensures.0 n.1 c.if-pattern-gt-LARGEST_PATTERN.false (c.store_datum.ensures ∙ rw c.store_packet.ensures))
