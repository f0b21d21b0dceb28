-- `text::put_rows` meets its contract. Assumes nothing.
use native.Mathlib.Omega.{arith}
use mathlib.Core.Path.{refl, ◌∙◌}
use Rattle.event.specs.Rows.{flat_row}
use Rattle.compare_events.proofs.Lists.{put_next, put_done}
use Rattle.compare_events.proofs.TextLaws.{rows_length_lem}
use Rattle.compare_events.proofs.text.put_rows.Goals as goal

pub loop-entry-preserved : goal.loop-entry-preserved
loop-entry-preserved c =
    let s = c.in-Some.ensures.steps in
    let l = c.loop-entry.invariant in
    (s.0 ∙ l.0, put_next flat_row 9 (λ d. refl) l.1 s.1.0 (s.1.1 ∙ l.0) (omega arith) (rows_length_lem _) (λ d e. rw (c.row_at-in-loop-entry.ensures, c.row_at.ensures, e)) c.put_both-end.auto.text c.put_both-end.ensures)

pub returns : goal.returns
returns c =
    let l = c.loop-entry.invariant in
    put_done flat_row 9 (λ d. refl) l.1 (omega (arith, c.in-None.ensures.steps.1.0, l.0))
