-- `longword::check_value` meets its contract. Assumes nothing.
use native.Mathlib.Omega.{arith}
use Rattle.frs_reader.proofs.Longwords.{value_good, value_bad, is_in}
use Rattle.frs_reader.specs.Longword.{value_fault}
use Rattle.frs_reader.proofs.longword.check_value.Goals as goal

pub returns-then-above-between : goal.returns-then-above-between
unfolding value_fault
returns-then-above-between c = rw (value_bad _ _ c.if-above-between.true) c.refuse.ensures

pub returns-then-contains : goal.returns-then-contains
unfolding value_fault
returns-then-contains c = rw (value_good _ _ c.if-above-between.false, is_in _ c.contains.ensures c.channel_of.ensures (omega arith), c.if-contains.true) c.refuse-then-contains.ensures

pub returns : goal.returns
unfolding value_fault
returns c = rw (value_good _ _ c.if-above-between.false, is_in _ c.contains.ensures c.channel_of.ensures (omega arith), c.if-contains.false)
