-- `fault::check_vdc` meets its contract. Assumes nothing.
use mathlib.Core.Path.{ap, ◌∙◌}
use Rattle.event.specs.Refusal.{verdict}
use Rattle.rcnp_writer.proofs.RowRules.{vdc_below, vdc_above}
use Rattle.rcnp_writer.proofs.fault.check_vdc.Goals as goal
use Rattle.rcnp_writer.proofs.fault.check_vdc.Goals.{then-row-via-then-row, then-row-via-else-row+then-most-row}

pub returns-then-vdc_right : goal.returns-then-vdc_right
returns-then-vdc_right c = ap (λ n. verdict n c.args.place) (c.vdc_right.ensures.kept c.if-vdc_right.true c.args.begun c.last_kind-most.ensures)

pub returns-then-row : goal.returns-then-row
returns-then-row c = c.refuse.ensures ∙ ap (λ n. verdict n c.args.place)
    (elim c.then-row.branch [
      | then-row-via-then-row w ↦ vdc_below c.args.begun c.args.row w.if-row.true
      | then-row-via-else-row+then-most-row w ↦ vdc_above c.args.begun c.args.row c.last_kind-most.ensures w.if-most-row.true
    ])
