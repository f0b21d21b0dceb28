-- `check_in` meets its contract. Assumes nothing.
use mathlib.Core.Path.{◌∙◌}
use lib.Seq.{take_at}
use Rattle.host.proofs.Words.{half_as_many}
use Rattle.host.proofs.check_in.Goals as goal

pub returns : goal.returns
returns c = c.check.ensures ∙ rw (c.store_words.ensures, take_at _ _ _ (half_as_many c.args.bytes.now))
