-- `fill::store_rows` meets its contract. Assumes nothing.
use Rattle.std.proofs.Common.{◌≡◌, ◌/◌, length, arith}
use Rattle.event.proofs.RowsIn.{rows_count}
use Rattle.rcnp_writer.proofs.Filled.{filled_row, filled_then}
use Rattle.rcnp_writer.proofs.fill.store_rows.Goals as goal

pub loop-i-preserved : goal.loop-i-preserved
loop-i-preserved c = filled_then c.loop-i.invariant (filled_row (omega (arith, c.loop-i-test.true, rows_count c.args.rows.now)) c.row_at-row.ensures c.store_row-count.ensures)

pub returns : goal.returns
returns c = let all : c.loop-i.i ≡ length c.args.rows.now / 4 = omega (arith, c.requires, rows_count c.args.rows.now) in rw all at c.loop-i.invariant
