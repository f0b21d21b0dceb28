-- `text::store_digits` meets its contract. Assumes nothing.
use mathlib.Core.Path.{◌≡◌, ◌∙◌, refl}
use native.Mathlib.Nat.{div-one}
use native.Mathlib.Omega.{arith}
use Rattle.hex_line.specs.Text.{hex_of}
use Rattle.hex_line.proofs.TextLaws.{digit_stored}
use Rattle.hex_line.proofs.text.store_digits.Goals as goal

pub loop-i-init : goal.loop-i-init
unfolding hex_of
loop-i-init c = refl

pub loop-i-preserved : goal.loop-i-preserved
loop-i-preserved c = rw (c.loop-i.invariant, c.digit.ensures) (digit_stored _ _ _ _ c.loop-i-test.true)

pub returns : goal.returns
returns c = let i : c.loop-i.i ≡ 8 = omega arith in c.loop-i.invariant ∙ rw (i, div-one)
