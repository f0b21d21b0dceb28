-- `input::read_more` meets its contract. Assumes nothing.
use Rattle.compare_events.proofs.Feeds.{more_read}
use Rattle.compare_events.proofs.input.read_more.Goals as goal

pub returns : goal.returns
returns c = rw (c.after_read.ensures, c.ok-got.ensures.value) (more_read c.requires c.read.new.buf c.read.auto.buf c.read.result c.read.ensures.bound)
