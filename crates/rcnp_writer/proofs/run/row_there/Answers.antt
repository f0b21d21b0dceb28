-- `run::row_there` meets its contract. Assumes nothing.
use Rattle.std.proofs.Common.{◌/◌, ◌<◌, length, arith}
use Rattle.event.proofs.RowsIn.{rows_count, row_there}
use Rattle.rcnp_writer.proofs.run.row_there.Goals as goal

pub returns : goal.returns
returns c =
    let inside : c.args.at < length c.args.rows.now / 4 = omega (arith, c.requires, rows_count c.args.rows.now) in
    row_there c.args.rows.now c.args.at inside
