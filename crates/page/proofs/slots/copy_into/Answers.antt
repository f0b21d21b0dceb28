-- `slots::copy_into` meets its contract. Assumes nothing.
use native.Mathlib.Numerals.{add-one}
use native.Mathlib.Omega.{arith}
use lib.ListN.{length-set}
use lib.Seq.{paste-suc}
use Rattle.page.proofs.slots.copy_into.Goals as goal

pub loop-i-preserved : goal.loop-i-preserved
loop-i-preserved c = (
  simp length-set c.loop-i.invariant.0,
  rw (c.loop-i.invariant.1, add-one c.loop-i.i) (paste-suc c.args.room.now c.args.at c.args.words.now c.loop-i.i _ (omega (arith, c.requires, c.loop-i-test.true)) c.loop-i-test.true),
)
