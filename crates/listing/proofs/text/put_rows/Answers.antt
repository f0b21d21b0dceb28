-- `text::put_rows` meets its contract. Assumes nothing.
use mathlib.Core.Path.{◌≡◌}
use native.Mathlib.Omega.{arith}
use lib.ListN.{take}
use lib.Seq.{take_all}
use Rattle.event.specs.Writing.{rows_in, no_row}
use Rattle.event.proofs.RowsIn.{rows_count}
use Rattle.hex_line.proofs.TextLaws.{placed_then}
use Rattle.listing.proofs.TextLaws.{row_length_lem, rows_next}
use Rattle.listing.proofs.text.put_rows.Goals as goal

pub loop-i-preserved : goal.loop-i-preserved
loop-i-preserved c =
    let rs = rows_in c.args.rows.now in (
      omega (arith, c.put_row-end.ensures.ends, row_length_lem c.row_at.result, c.loop-i.invariant.0),
      rw (rows_next rs c.loop-i.i no_row (rw rows_count c.loop-i-test.true)) (placed_then c.loop-i.invariant.1 (rw c.row_at.ensures at c.put_row-end.ensures)),
    )

pub returns : goal.returns
returns c =
    let rs = rows_in c.args.rows.now in
    let e : take c.loop-i.i rs ≡ rs = take_all c.loop-i.i rs (rw rows_count (omega arith)) in
    rw e at c.loop-i.invariant.1
