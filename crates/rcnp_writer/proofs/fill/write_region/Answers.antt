-- `fill::write_region` meets its contract. Assumes nothing.
use Rattle.std.proofs.Common.{◌+◌, arith}
use Rattle.event.specs.Writing.{rows_in}
use Rattle.rcnp_writer.specs.Parts.{Filled}
use Rattle.rcnp_writer.proofs.Filled.{filled_row, filled_then}
use Rattle.rcnp_writer.proofs.fill.write_region.Goals as goal

pub returns : goal.returns
returns c =
    let own : Filled (rows_in c.args.rows.now) c.args.first (c.args.first + 1) 0 c.store_row-at.result c.args.words.now c.store_row-at.new.words = filled_row c.requires.0 c.row_at-row.ensures
    c.store_row-at.ensures in
    let f = c.store_rows.ensures in
    (omega (arith, f.order), filled_then own (filled_then c.store_run.ensures f))
