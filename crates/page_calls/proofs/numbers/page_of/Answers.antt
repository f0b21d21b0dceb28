-- `page_of` meets its contract. Assumes nothing.
use native.Mathlib.Omega.{arith}
use Rattle.page_layout.proofs.FilledTables.{all_filled}
use Rattle.page_calls.specs.Calls.{page_of}
use Rattle.page_calls.proofs.numbers.page_of.Invariants.{stored}
use Rattle.page_calls.proofs.numbers.page_of.Goals as goal

pub returns : goal.returns
unfolding page_of
returns c =
    rw (c.number-2.ensures, c.number-3.ensures, all_filled 64 (stored c.args.numbers.now) c.loop-k.k c.loop-k.lengths (omega (arith, c.loop-k-test.false, c.loop-k.auto.k-end)) c.loop-k.invariant)
