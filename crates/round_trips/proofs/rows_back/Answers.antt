-- `rows_back` meets its contract. Assumes nothing.
use mathlib.Core.Path.{ap, ◌∙◌}
use lib.ListN.{length}
use Rattle.event.specs.Outcome.{Outcome, answer_of, given, overlaid}
use Rattle.event.specs.declared.Row.{Row}
use Rattle.event.specs.Rows.{flat, room}
use Rattle.dialects.specs.Dialects.{of_width, writing_into}
use Rattle.dialects.proofs.Widths.{first_given}
use Rattle.round_trips.proofs.Back.{rows_back}
use Rattle.round_trips.proofs.rows_back.Goals as goal

pub returns : goal.returns
returns c =
    let a = c.args in
    let w = c.write.ensures in
    let lent = of_width a.dialect a.words.now a.longwords.now in
    let whole = given (writing_into a.dialect (length lent) a.order a.rows.now) in
    let q = rows_back a.dialect a.order a.rows.now lent (room (length a.back.now)) c.in_ok-count.ensures.answer
    (first_given a.dialect c.in_ok-count.count whole a.words.now a.longwords.now c.part_start-short.ensures c.part_start-long.ensures w.words w.longwords) in record {
      answer = c.read.ensures.answer ∙ ap answer_of q;
      words = w.words;
      longwords = w.longwords;
      back = c.read.ensures.rows ∙ ap (λ (x : Outcome Row). overlaid (flat (given x)) a.back.now) q;
    }
