-- `vectors::vector_of` meets its contract. Assumes nothing.
use mathlib.Core.Path.{sym, ◌∙◌}
use borrow.Author.Tests.{lt-ltb, le-ltb, not-true, not-false}
use Rattle.run_vectors.specs.Vectors.{vector_of}
use Rattle.std.proofs.Common.{ap, not}
use Rattle.run_vectors.proofs.vectors.vector_of.Goals as goal

pub returns-then-all-cut : goal.returns-then-all-cut
unfolding vector_of
returns-then-all-cut c = rw (lt-ltb _ _ c.if-all-cut.true)

pub returns-then-not-suits : goal.returns-then-not-suits
unfolding vector_of
returns-then-not-suits c =
    rw (le-ltb _ _ c.if-all-cut.false, ← c.from-call.ensures, ← c.from-dialect.ensures, sym c.suits.ensures ∙ not-true _ (ap not c.if-not-suits.true))

pub returns : goal.returns
unfolding vector_of
returns c =
    rw (le-ltb _ _ c.if-all-cut.false, ← c.from-call.ensures, ← c.from-dialect.ensures, ← c.from.ensures, sym c.suits.ensures ∙ not-false _ (ap not c.if-not-suits.false))
