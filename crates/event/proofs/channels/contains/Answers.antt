-- `channels::contains` meets its contract. Assumes nothing.
use borrow.Author.Rules.{rules}
use Rattle.event.specs.Channels.{present}
use Rattle.event.proofs.channels.contains.Goals as goal

pub returns : goal.returns
unfolding present
returns c = search rules
