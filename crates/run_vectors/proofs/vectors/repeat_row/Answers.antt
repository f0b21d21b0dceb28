-- `vectors::repeat_row` meets its contract. Assumes nothing.
use Prim.Native.Nat.{◌+◌, ◌-◌}
use mathlib.Core.Path.{◌≡◌, ◌∙◌}
use native.Mathlib.Omega.{arith}
use Rattle.run_vectors.proofs.RowLaws.{repeat_next}
use Rattle.run_vectors.proofs.vectors.repeat_row.Goals as goal

pub loop-next-preserved : goal.loop-next-preserved
loop-next-preserved c =
    let left : c.args.at + c.args.times - (c.loop-next.next + 1) ≡ c.args.at + c.args.times - c.loop-next.next - 1 = omega arith in
    (omega (arith, c.store_row.auto.rows, c.loop-next.invariant.0), c.loop-next.invariant.1 ∙ repeat_next _ _ _ (c.args.at + c.args.times - c.loop-next.next) (omega (arith, c.loop-next-test.true)) ∙ rw (left, c.store_row.ensures))
