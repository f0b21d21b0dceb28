-- `fault::check_datum` meets its contract. Assumes nothing.
use mathlib.Core.Path.{ap, ◌∙◌}
use Rattle.event.specs.Refusal.{verdict}
use Rattle.rcnp_writer.proofs.RowRules.{datum_rules}
use Rattle.rcnp_writer.proofs.fault.check_datum.Goals as goal

pub returns-then-row-number : goal.returns-then-row-number
returns-then-row-number c = c.refuse.ensures ∙ ap (λ n. verdict n c.args.place) ((datum_rules _ _ _ _).other (rw c.number.ensures at c.if-row-number.true))

pub returns-then-row-channel : goal.returns-then-row-channel
returns-then-row-channel c = ap (λ n. verdict n c.args.place) ((datum_rules _ _ _ _).kept (rw c.number.ensures at c.if-row-number.false) c.if-row-channel.true)

pub returns : goal.returns
returns c = c.refuse-2.ensures ∙ ap (λ n. verdict n c.args.place) ((datum_rules _ _ _ _).broken (rw c.number.ensures at c.if-row-number.false) c.if-row-channel.false)
