-- `sum::row_total` meets its contract. Assumes nothing.
use Rattle.rcnp_writer.proofs.RowTotals.{sum_of_word, sum_of_scaler, sum_of_fields}
use Rattle.rcnp_writer.proofs.sum.row_total.Goals as goal

pub returns-then-row : goal.returns-then-row
returns-then-row c = sum_of_word _ c.if-row.true

pub returns-then-row-2 : goal.returns-then-row-2
returns-then-row-2 c = sum_of_scaler _ c.if-row-2.true

pub returns : goal.returns
returns c = sum_of_fields _ c.if-row.false c.if-row-2.false c.field_word.ensures
