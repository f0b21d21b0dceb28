-- `line::value` meets its contract. Eight digits are below 2 ^ 32. Assumes nothing.
use Prim.Native.Nat.{◌<◌}
use mathlib.Core.Path.{refl, sym}
use native.Mathlib.Omega.{arith}
use Rattle.hex_line.specs.Line.{value_of}
use Rattle.hex_line.proofs.LineLaws.{digit_lt, value_room, value_next}
use Rattle.hex_line.proofs.line.value.Goals as goal

pub loop-i-init : goal.loop-i-init
unfolding value_of
loop-i-init c = refl

pub overflow_mul-value : goal.overflow_mul-value
overflow_mul-value c =
    let r : c.loop-i.value < 268435456 = rw c.loop-i.invariant (value_room _ _ _ (omega arith)) in
    omega arith

pub overflow_add-value : goal.overflow_add-value
overflow_add-value c =
    let r : c.loop-i.value < 268435456 = rw c.loop-i.invariant (value_room _ _ _ (omega arith)) in
    let d : c.digit.result < 16 = rw c.digit.ensures (digit_lt _) in
    omega arith

pub loop-i-preserved : goal.loop-i-preserved
loop-i-preserved c = rw (c.loop-i.invariant, c.digit.ensures) (sym (value_next _ _ _))
