-- `calls::convert` meets its contract. Assumes nothing.
use mathlib.Core.Path.{ap, ◌∙◌}
use native.Mathlib.Omega.{arith}
use lib.ListN.{length-set, set}
use Rattle.run_vectors.proofs.CopyLaws.{item_next}
use Rattle.run_vectors.proofs.calls.convert.Goals as goal

pub loop-i-preserved : goal.loop-i-preserved
loop-i-preserved g c = (
  simp length-set c.loop-i.invariant.0,
  ap (λ ws. set ws c.loop-i.i c.of_low_bits.result) c.loop-i.invariant.1
      ∙ item_next (λ item. g.B.Word.of_number (g.A.Word.number item)) c.args.items.now c.args.words.now c.loop-i.i c.index-items-i.is
      (c.of_low_bits.ensures ∙ ap g.B.Word.of_number c.to_number.ensures) c.loop-i-test.true (omega (arith, c.requires, c.loop-i-test.true)),
)
