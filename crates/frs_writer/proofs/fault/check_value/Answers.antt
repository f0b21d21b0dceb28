-- `fault::check_value` meets its contract. Assumes nothing.
use native.Mathlib.Omega.{arith}
use mathlib.Core.Path.{sym, ◌∙◌}
use Rattle.frs_writer.specs.Faults.{value_fault}
use Rattle.frs_writer.proofs.Faults.{found, found_none}
use Rattle.frs_writer.proofs.RowFaults.{field_judged}
use Rattle.frs_writer.proofs.fault.check_value.Goals as goal

pub returns-then-row : goal.returns-then-row
unfolding value_fault
returns-then-row c = rw (← found c.args.seen c.args.row.channel ((field_judged c.args.geo c.args.row).other c.if-row.true) (λ e. omega arith)) c.refuse.ensures

pub returns-then-row-geo : goal.returns-then-row-geo
unfolding value_fault
returns-then-row-geo c = rw (← found c.args.seen c.args.row.channel ((field_judged c.args.geo c.args.row).wrong c.if-row.false (λ k. omega (arith, c.then-row-geo.either))) (λ e. omega arith)) c.refuse-then-row-geo.ensures

pub returns-then-contains : goal.returns-then-contains
unfolding value_fault
returns-then-contains c = rw (← found_none c.args.seen c.args.row.channel ((field_judged c.args.geo c.args.row).right c.if-row.false (omega arith)) (sym c.if-contains.true ∙ c.contains.ensures))
    c.refuse-then-contains.ensures

pub returns : goal.returns
unfolding value_fault
returns c = rw (← found_none c.args.seen c.args.row.channel ((field_judged c.args.geo c.args.row).right c.if-row.false (omega arith)) (sym c.if-contains.false ∙ c.contains.ensures))
