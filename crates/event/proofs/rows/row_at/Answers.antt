-- `rows::row_at` meets its contract. Assumes nothing.
use borrow.Author.Rules.{rules}
use Rattle.event.proofs.RowsIn.{row_there, row_past}
use Rattle.event.proofs.rows.row_at.Goals as goal

pub returns-then-at-rows : goal.returns-then-at-rows
returns-then-at-rows c = row_there c.args.rows.now c.args.at (search rules)

pub returns : goal.returns
returns c = row_past c.args.rows.now c.args.at c.if-at-rows.false
