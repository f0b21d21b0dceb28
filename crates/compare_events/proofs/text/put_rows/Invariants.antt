-- `text::put_rows` meets its contract. Assumes nothing.
use mathlib.Core.Path.{◌≡◌, refl}
use Rattle.event.specs.Rows.{flat_row}
use Rattle.compare_events.specs.Lengths.{rows_length}
use Rattle.compare_events.specs.Text.{rows_text}
use Rattle.compare_events.proofs.Lists.{Putting}
use Rattle.compare_events.proofs.text.put_rows.Given as goal

abbrev pub invariant-loop-entry : goal.invariant-loop-entry
invariant-loop-entry l =
    (l.entry-iterator.size ≡ 9) × Putting flat_row 9 (λ d. refl) rows_text rows_length l.list l.initial.text l.at l.text l.end l.entry-iterator.rest.now
