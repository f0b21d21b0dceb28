-- `answer_to` meets its contract. Assumes nothing.
use mathlib.Core.Path.{◌∙◌}
use borrow.Author.Rules.{rules}
use borrow.Author.Tests.{lt-ltb, le-ltb, eq-eqb, ne_eqb}
use Rattle.host.specs.Check.{checking}
use Rattle.host.proofs.answer_to.Goals as goal

pub returns-then-order-gt1 : goal.returns-then-order-gt1
unfolding checking
returns-then-order-gt1 c = c.refuse.ensures ∙ rw (lt-ltb 1 c.args.order (search rules))

pub returns-then-bytes-ne0 : goal.returns-then-bytes-ne0
unfolding checking
returns-then-bytes-ne0 c = c.refuse-then-bytes-ne0.ensures ∙ rw (le-ltb 1 c.args.order (search rules), ne_eqb _ _ c.if-bytes-ne0.true)

pub returns : goal.returns
unfolding checking
returns c = c.check_bytes.ensures ∙ rw (c.from.ensures, le-ltb 1 c.args.order (search rules), eq-eqb _ _ c.if-bytes-ne0.false)
