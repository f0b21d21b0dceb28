-- `channel_packets::open_hits` meets its contract. Assumes nothing.
use mathlib.Core.Path.{◌∙◌, ap}
use Rattle.s800_reader.proofs.Opening.{packet_at}
use Rattle.s800_reader.proofs.SinglePackets.{hits_opens}
use Rattle.std.specs.Prelude.{Ok}
use Rattle.s800_reader.proofs.channel_packets.open_hits.Goals as goal

pub returns : goal.returns
returns c =
    hits_opens (packet_at c.args.packet) c.requires c.if-packet-ne6.false c.word.ensures.0 c.word-2.ensures.0 c.word-3.ensures.0
    c.word.ensures.1 c.word-2.ensures.1 c.word-3.ensures.1 (c.store_row.ensures ∙ rw c.store_packet.ensures) (ap Ok c.whole.ensures)
