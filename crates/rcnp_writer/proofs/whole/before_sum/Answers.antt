-- `whole::before_sum` meets its contract. Assumes nothing.
use Rattle.rcnp_writer.proofs.Regions.{sum_there, rows_ended}
use Rattle.rcnp_writer.proofs.whole.before_sum.Goals as goal

pub returns-then-at-rows : goal.returns-then-at-rows
returns-then-at-rows c = sum_there c.args.rows.now c.args.at c.if-at-rows.true c.row_at-row.ensures

pub returns : goal.returns
returns c = rows_ended c.args.rows.now c.args.at c.if-at-rows.false
