-- `rows::store_row` meets its contract. Assumes nothing.
use borrow.Author.Tests.{lt-ltb, le-ltb}
use native.Mathlib.Numerals.{towards_suc}
use Rattle.event.specs.Rows.{store_row}
use Rattle.event.proofs.rows.store_row.Goals as goal

pub returns-then-at-rows : goal.returns-then-at-rows
unfolding store_row
returns-then-at-rows c = rw (lt-ltb _ _ c.if-at-rows.true) (simp towards_suc)

pub returns-else-at-rows : goal.returns-else-at-rows
unfolding store_row
returns-else-at-rows c = rw (le-ltb _ _ c.if-at-rows.false)
