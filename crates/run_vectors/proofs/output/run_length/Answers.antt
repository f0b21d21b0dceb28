-- `output::run_length` meets its contract. Assumes nothing.
use native.Mathlib.Omega.{arith}
use Rattle.run_vectors.proofs.output.run_length.Goals as goal

pub returns-then-lent-from : goal.returns-then-lent-from
returns-then-lent-from c =
    let l = c.loop-times in
    record { some = omega (arith, l.auto.times); within = omega (arith, c.loop-times-test.true); equal = l.invariant; longest = λ h. c.if-lent-from.true }
