-- `whole_packets::open_scintillator` meets its contract. Assumes nothing.
use mathlib.Core.Path.{ap}
use borrow.Author.Rules.{rules}
use Rattle.std.specs.Prelude.{Ok}
use Rattle.s800_reader.proofs.Opening.{packet_at}
use Rattle.s800_reader.proofs.PacketsReadWhole.{scintillator_opens}
use Rattle.s800_reader.proofs.whole_packets.open_scintillator.Goals as goal

pub returns : goal.returns
returns c =
    scintillator_opens (packet_at c.args.packet) _ (search rules) (search rules) c.store_packet.ensures c.in_ok-count.ensures.0 c.in_ok-count.ensures.1 (ap Ok c.whole.ensures)
