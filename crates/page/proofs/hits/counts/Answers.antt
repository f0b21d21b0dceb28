-- `counts` meets its contract. Assumes nothing.
use mathlib.Core.Path.{ap, ◌∙◌}
use Rattle.page_layout.specs.Plane.{by_pad}
use Rattle.page.proofs.hits.counts.Goals as goal

pub returns : goal.returns
returns c = c.by_pad.ensures ∙ ap by_pad c.plane.ensures
