-- `check_bytes` meets its contract. Assumes nothing.
use mathlib.Core.Path.{◌∙◌}
use native.Mathlib.Omega.{arith}
use Rattle.host.specs.Check.{words_of}
use Rattle.host.proofs.Words.{half_as_many}
use Rattle.host.proofs.Checked.{too_many}
use Rattle.host.proofs.check_bytes.Goals as goal

pub returns-then-size-gt-LARGEST_EVENT : goal.returns-then-size-gt-LARGEST_EVENT
returns-then-size-gt-LARGEST_EVENT c = let a = c.args in c.refuse.ensures ∙ rw (too_many a.order (words_of a.bytes.now) (omega (arith, half_as_many a.bytes.now)))
