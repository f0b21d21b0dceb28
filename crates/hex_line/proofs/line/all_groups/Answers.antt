-- `line::all_groups` meets its contract. The invariant: what is left to test decides the whole test. Assumes nothing.
use mathlib.Core.Path.{sym, ◌∙◌}
use Rattle.hex_line.proofs.LineLaws.{left_first, left_no_space, left_no_digits, left_next, left_none}
use Rattle.hex_line.proofs.line.all_groups.Goals as goal
use Rattle.hex_line.proofs.line.all_groups.Goals.{then-line-group-ne32-via-then-line-group-ne32, then-line-group-ne32-via-else-line-group-ne32+then-not-all_digits}

pub loop-i-init : goal.loop-i-init
loop-i-init c = left_first _ _ _ _

pub loop-i-preserved : goal.loop-i-preserved
loop-i-preserved c = left_next _ _ _ _ c.loop-i.invariant c.loop-i-test.true c.if-line-group-ne32.false (sym c.all_digits.ensures ∙ c.if-not-all_digits.false)

pub returns-then-line-group-ne32 : goal.returns-then-line-group-ne32
returns-then-line-group-ne32 c =
    elim c.then-line-group-ne32.branch [
      | then-line-group-ne32-via-then-line-group-ne32 w ↦ left_no_space _ _ _ _ c.loop-i.invariant c.loop-i-test.true w.if-line-group-ne32.true
      | then-line-group-ne32-via-else-line-group-ne32+then-not-all_digits w ↦
          left_no_digits _ _ _ _ c.loop-i.invariant c.loop-i-test.true w.if-line-group-ne32.false (sym w.all_digits.ensures ∙ w.if-not-all_digits.true)
    ]

pub returns : goal.returns
returns c = left_none _ _ _ _ c.loop-i.invariant c.loop-i-test.false
