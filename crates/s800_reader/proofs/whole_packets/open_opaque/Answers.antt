-- `whole_packets::open_opaque` meets its contract. Assumes nothing.
use mathlib.Core.Path.{ap}
use Rattle.std.specs.Prelude.{Ok}
use Rattle.s800_reader.proofs.Opening.{packet_at}
use Rattle.s800_reader.proofs.PacketsReadWhole.{opaque_opens}
use Rattle.s800_reader.proofs.whole_packets.open_opaque.Goals as goal

pub returns : goal.returns
returns c o e = opaque_opens (packet_at c.args.packet) o e c.store_packet.ensures c.read_opaque.ensures.1 c.read_opaque.ensures.0 (ap Ok c.whole.ensures)
