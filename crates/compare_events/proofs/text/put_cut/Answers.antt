-- `text::put_cut` meets its contract. Assumes nothing.
use Rattle.hex_line.proofs.TextLaws.{placed}
use Rattle.compare_events.proofs.text.put_cut.Goals as goal

pub returns : goal.returns
returns c = placed (c.put_text.ensures.end, c.put_text.ensures.buffer) c.requires
