-- `module::store_value` meets its contract. Assumes nothing.
use native.Mathlib.Numerals.{towards_suc}
use borrow.Author.Tests.{lt-ltb}
use Rattle.event.specs.Rows.{store_row}
use Rattle.frs_reader.proofs.module.store_value.Goals as goal

pub returns : goal.returns
unfolding store_row
returns c = rw (lt-ltb _ _ c.requires, c.channel_of.ensures) (simp towards_suc)
