-- `rows::list_by` meets its contract. Assumes nothing.
use mathlib.Core.Path.{sym, ◌∙◌}
use Rattle.comparison.specs.Comparing.{reading_of}
use Rattle.compare.proofs.Readings.{not_read, is_read, first_refused, second_not_read, both_read}
use Rattle.compare.proofs.rows.list_by.Goals as goal

pub returns-in_default : goal.returns-in_default
returns-in_default g c =
    let s = c.args in
    let reads = reading_of g.W.EventWord.bits s.dialect s.order in
    let refuses = not_read g.W.EventWord.bits s.dialect s.order (g.W.EventWord.numbers s.first.now) s.firsts.now c.requires.0 (sym c.in_default.is ∙ c.read.ensures.answer) in
    let t = first_refused (reads (g.W.EventWord.numbers s.first.now)) (reads (g.W.EventWord.numbers s.second.now)) s.list.now _ refuses in
    record { answer = t.answered; list = t.written }

pub returns-in_default-read : goal.returns-in_default-read
returns-in_default-read g c =
    let s = c.args in
    let reads = reading_of g.W.EventWord.bits s.dialect s.order in
    let refuses = not_read g.W.EventWord.bits s.dialect s.order (g.W.EventWord.numbers s.second.now) s.seconds.now c.requires.1 (sym c.in_default-read.is ∙ c.read-2.ensures.answer) in
    let t = second_not_read (reads (g.W.EventWord.numbers s.first.now)) (reads (g.W.EventWord.numbers s.second.now)) s.list.now _ refuses in
    record { answer = t.answered; list = t.written }

pub returns : goal.returns
returns g c =
    let s = c.args in
    let a = is_read g.W.EventWord.bits s.dialect s.order (g.W.EventWord.numbers s.first.now) s.firsts.now c.requires.0 (sym c.in-Ok.is ∙ c.read.ensures.answer) c.read.ensures.rows in
    let b = is_read g.W.EventWord.bits s.dialect s.order (g.W.EventWord.numbers s.second.now) s.seconds.now c.requires.1 (sym c.in-Ok-read.is ∙ c.read-2.ensures.answer) c.read-2.ensures.rows in
    let t = both_read _ _ s.list.now _ a b (record { answered = c.list_rows.ensures.answer; written = c.list_rows.ensures.list }) in
    record { answer = t.answered; list = t.written }
