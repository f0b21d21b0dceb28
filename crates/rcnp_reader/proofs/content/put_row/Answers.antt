-- `content::put_row` meets its contract. Assumes nothing.
use native.Mathlib.Numerals.{towards_suc}
use borrow.Author.Tests.{lt-ltb}
use Rattle.event.specs.Rows.{store_row}
use Rattle.rcnp_reader.proofs.content.put_row.Goals as goal

pub returns : goal.returns
unfolding store_row
returns c = rw (lt-ltb _ _ c.requires) (simp towards_suc)
