-- `fault::check_block` meets its contract. Assumes nothing.
use native.Mathlib.Omega.{arith}
use Rattle.frs_writer.proofs.RowFaults.{block_judged}
use Rattle.frs_writer.proofs.fault.check_block.Goals as goal

pub returns-then-row : goal.returns-then-row
returns-then-row c = rw (← (block_judged c.args.row).other c.if-row.true) c.refuse.ensures

pub returns-then-row-ne-SCALER_GEO : goal.returns-then-row-ne-SCALER_GEO
returns-then-row-ne-SCALER_GEO c = rw (← (block_judged c.args.row).wrong c.if-row.false (λ k. omega (arith, c.then-row-ne-SCALER_GEO.either))) c.refuse-then-row-ne-SCALER_GEO.ensures

pub returns : goal.returns
returns c = rw (← (block_judged c.args.row).right c.if-row.false (omega arith))
