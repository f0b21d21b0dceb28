-- `store_words` meets its contract. Assumes nothing.
use native.Mathlib.Omega.{arith}
use lib.ListN.{length-set}
use Rattle.host.proofs.Words.{one_more, all_stored}
use Rattle.host.proofs.store_words.Goals as goal

pub loop-i-preserved : goal.loop-i-preserved
loop-i-preserved c = (
  simp length-set c.loop-i.invariant.0,
  rw c.word.ensures (one_more c.args.bytes.now c.args.words.now c.loop-i.i _ (omega (arith, c.loop-i-test.true)) c.loop-i.invariant.1),
)

pub returns : goal.returns
returns c = all_stored c.args.bytes.now c.args.words.now c.loop-i.i _ (omega (arith, c.loop-i-test.false, c.loop-i.auto.i-end)) c.requires c.loop-i.invariant.1
