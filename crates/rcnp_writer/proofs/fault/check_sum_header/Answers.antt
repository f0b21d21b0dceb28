-- `fault::check_sum_header` meets its contract. Assumes nothing.
use mathlib.Core.Path.{ap, ◌∙◌}
use Rattle.event.specs.Refusal.{verdict}
use Rattle.rcnp_writer.proofs.RowRules.{sum_tested}
use Rattle.rcnp_writer.proofs.fault.check_sum_header.Goals as goal

pub returns-then-row : goal.returns-then-row
returns-then-row c = c.refuse.ensures ∙ ap (λ n. verdict n c.args.place) ((sum_tested _).other c.if-row.true)

pub returns-then-row-2 : goal.returns-then-row-2
returns-then-row-2 c = ap (λ n. verdict n c.args.place) ((sum_tested _).kept c.if-row.false c.if-row-2.true)

pub returns : goal.returns
returns c = c.refuse-2.ensures ∙ ap (λ n. verdict n c.args.place) ((sum_tested _).broken c.if-row.false c.if-row-2.false)
