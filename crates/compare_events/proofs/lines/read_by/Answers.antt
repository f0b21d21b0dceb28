-- `lines::read_by` meets its contract. Assumes nothing.
use mathlib.Core.Path.{ap, ◌∙◌}
use borrow.Author.Tests.{eq-eqb}
use Rattle.event.specs.Outcome.{answer_of}
use Rattle.compare.proofs.Readings.{whole}
use Rattle.compare_events.proofs.lines.read_by.Goals as goal

pub returns : goal.returns
returns g c =
    let s = c.args in
    let e = c.read.ensures.answer ∙ ap answer_of (whole g.W.EventWord.bits s.dialect s.order (g.W.EventWord.numbers s.words.now) s.rows.now c.requires.1) in
    rw (eq-eqb _ _ c.requires.0) at e
