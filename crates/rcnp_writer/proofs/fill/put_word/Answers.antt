-- `fill::put_word` meets its contract. Assumes nothing.
use Rattle.std.proofs.Common.{refl}
use Rattle.event.specs.Words.{store_of}
use Rattle.rcnp_writer.proofs.fill.put_word.Goals as goal

pub returns : goal.returns
unfolding store_of
returns c = refl
