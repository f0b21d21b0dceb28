-- `whole_packets::open_crdc` meets its contract. Assumes nothing.
use borrow.Author.Rules.{rules}
use Rattle.s800_reader.proofs.Opening.{packet_at}
use Rattle.s800_reader.proofs.PacketsReadWhole.{crdc_length, crdc_tag}
use Rattle.s800_reader.proofs.whole_packets.open_crdc.Goals as goal

pub returns-then-word-packet : goal.returns-then-word-packet
returns-then-word-packet c = crdc_length (packet_at c.args.packet) (search rules) c.word-id.ensures.0 c.if-id-gt1.false c.word.ensures.0 c.if-word-packet.true c.refuse-then-word-packet.ensures

pub returns-then-word : goal.returns-then-word
returns-then-word c =
    crdc_tag (packet_at c.args.packet) (search rules) c.word-id.ensures.0 c.if-id-gt1.false c.word.ensures.0 c.if-word-packet.false c.word-2.ensures.0 c.if-word.true c.refuse-then-word.ensures
