-- `count_event` meets its contract. Assumes nothing.
use mathlib.Core.Path.{ap, ◌∙◌}
use mathlib.Core.List.{List}
use Rattle.event.specs.declared.Row.{Row}
use Rattle.page.specs.Counting.{with_hits}
use Rattle.page.proofs.EventHits.{Read, no_rows, rows_there, countable}
use Rattle.page.proofs.hits.count_event.Goals as goal

pub returns-in_default : goal.returns-in_default
returns-in_default c =
    let r : Read _ c.args.words.now c.args.rows.now c.read.result =
    record { order = c.default.ensures; roomy = c.requires.1; answer = c.read.ensures.answer } in
    no_rows r c.in_default.is c.args.plane.now c.requires.0

pub count_rows-requires : goal.count_rows-requires
count_rows-requires c =
    let r : Read _ c.args.words.now c.args.rows.now c.read.result =
    record { order = c.default.ensures; roomy = c.requires.1; answer = c.read.ensures.answer } in
    countable r _ (rows_there r c.in-Ok.is c.read.ensures.buffer) c.args.plane.now c.requires.0 c.requires.2

pub returns : goal.returns
returns c =
    let r : Read _ c.args.words.now c.args.rows.now c.read.result =
    record { order = c.default.ensures; roomy = c.requires.1; answer = c.read.ensures.answer } in
    c.count_rows.ensures ∙ ap (λ (rs : List Row). with_hits rs c.args.plane.now) (rows_there r c.in-Ok.is c.read.ensures.buffer)
