-- `text::put_rows` meets its contract. Assumes nothing.
use Prim.Native.Nat.{◌+◌, ◌*◌}
use mathlib.Core.Path.{◌≡◌}
use lib.ListN.{take}
use Rattle.event.specs.Parser.{each}
use Rattle.event.specs.Writing.{rows_in}
use Rattle.hex_line.specs.Text.{Placed}
use Rattle.listing.specs.Text.{row_text}
use Rattle.listing.specs.Lengths.{row_length}
use Rattle.listing.proofs.text.put_rows.Given as goal

abbrev pub invariant-loop-i : goal.invariant-loop-i
invariant-loop-i l = (l.end ≡ l.at + row_length * l.i) × Placed l.initial.text l.at (each row_text (take l.i (rows_in l.rows))) l.end l.text
