-- `text::put_both` meets its contract. Assumes nothing.
use native.Mathlib.Omega.{arith}
use mathlib.Core.Path.{refl}
use Rattle.hex_line.specs.Text.{text}
use Rattle.hex_line.proofs.TextLaws.{placed_then}
use Rattle.compare_events.specs.Text.{rows_text}
use Rattle.compare_events.proofs.TextLaws.{row_length_lem}
use Rattle.compare_events.proofs.text.put_both.Goals as goal

pub put_row-middle-requires : goal.put_row-middle-requires
put_row-middle-requires c = (refl, omega (arith, c.requires))

pub put_row-requires : goal.put_row-requires
put_row-requires c =
    (refl, omega (arith, c.put_row-middle.ensures.ends, row_length_lem (text " first  ") c.args.index c.args.first refl, c.requires))

pub returns : goal.returns
unfolding rows_text
returns c = placed_then c.put_row-middle.ensures c.put_row.ensures
