-- `longword::data_under` meets its contract. Assumes nothing.
use mathlib.Core.Path.{◌∙◌}
use Rattle.frs_reader.proofs.Longwords.{under_good, under_bad}
use Rattle.frs_reader.proofs.longword.data_under.Goals as goal

pub returns-then-w-upper : goal.returns-then-w-upper
returns-then-w-upper c = rw (← c.word-w.ensures) (c.refuse.ensures ∙ under_bad _ _ _ c.if-w-upper.true)

pub returns : goal.returns
returns c = rw (← c.word-w.ensures) (under_good _ _ _ c.if-w-upper.false)
