-- `fault::check_stamp` meets its contract. Assumes nothing.
use native.Mathlib.Omega.{arith}
use Rattle.frs_writer.proofs.RowFaults.{stamp_judged}
use Rattle.frs_writer.proofs.fault.check_stamp.Goals as goal

pub returns-then-row : goal.returns-then-row
returns-then-row c = rw (← (stamp_judged c.args.row).other c.if-row.true) c.refuse.ensures

pub returns-then-row-gt65535 : goal.returns-then-row-gt65535
returns-then-row-gt65535 c = rw (← (stamp_judged c.args.row).wrong c.if-row.false (λ k. omega (arith, c.then-row-gt65535.either))) c.refuse-then-row-gt65535.ensures

pub returns : goal.returns
returns c = rw (← (stamp_judged c.args.row).right c.if-row.false (omega arith))
