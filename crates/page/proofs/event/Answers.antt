-- `event` meets its contract. Assumes nothing.
use mathlib.Core.Path.{◌∙◌}
use Rattle.page.proofs.PageLaws.{not_held, is_held, held_inside}
use Rattle.page.proofs.event.Goals as goal

pub returns-in_default : goal.returns-in_default
returns-in_default c = not_held c.args.page.now c.args.room.now c.args.k (c.in_default.ensures)

pub part-requires : goal.part-requires
part-requires c = held_inside c.args.page.now c.args.room.now c.args.k c.in-Ok.ensures

pub returns : goal.returns
returns c = c.part.ensures ∙ is_held c.args.page.now c.args.room.now c.args.k c.in-Ok.ensures
