-- `lines::put_event` meets its contract. Assumes nothing.
use Prim.Native.Nat.{ℕ, ◌+◌, ◌*◌, ◌≤◌}
use mathlib.Core.List.{List}
use lib.ListN.{length}
use Rattle.event.specs.Refusal.{Answer}
use Rattle.event.specs.Rows.{room}
use Rattle.event.specs.Writing.{rows_in}
use Rattle.event.proofs.RowsIn.{rows_count}
use Rattle.listing.specs.Lengths.{answer_length, row_length}
use Rattle.listing.specs.Text.{event_text}
use Rattle.listing.proofs.TextLaws.{event_length}
use Rattle.list_input.proofs.Texts.{put_behind}
use Rattle.list_input.proofs.lines.put_event.Goals as goal

fits : (number : ℕ) (answer : Answer) (rows : List ℕ) (at m : ℕ) → at + (answer_length answer + row_length * room (length rows)) ≤ m
    → at + length (event_text number answer (rows_in rows)) ≤ m
fits number answer rows at m h = rw (event_length number answer (rows_in rows), rows_count) h

pub returns : goal.returns
returns c =
    let a = c.args in
    put_behind a.text.now _ a.run.at (fits _ a.answer a.rows.now a.run.at _ c.requires.rows_in_bounds) c.put_event.ensures.count c.put_event.ensures.buffer
