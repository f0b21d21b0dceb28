-- `fill::write_regions` meets its contract. Assumes nothing.
use Rattle.std.proofs.Common.{refl, arith}
use Rattle.event.proofs.RowsIn.{rows_count}
use Rattle.rcnp_writer.proofs.Filled.{filled_then, filled_part, all_filled}
use Rattle.rcnp_writer.proofs.fill.write_regions.Goals as goal

pub loop-i-preserved : goal.loop-i-preserved
loop-i-preserved c = filled_then c.loop-i.invariant (filled_part c.part_start-start.ensures refl c.write_region-written.ensures.1 refl)

pub returns : goal.returns
returns c = all_filled c.loop-i.invariant (omega (arith, c.loop-i-test.false, rows_count c.args.rows.now))
