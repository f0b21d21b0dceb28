-- `fault::check_header` meets its contract. Assumes nothing.
use mathlib.Core.Path.{ap, ◌∙◌}
use Rattle.event.specs.Refusal.{verdict}
use Rattle.rcnp_writer.proofs.RowRules.{header_judged, header_tested}
use Rattle.rcnp_writer.proofs.fault.check_header.Goals as goal

pub returns-then-row : goal.returns-then-row
returns-then-row c = c.refuse.ensures ∙ ap (λ n. verdict n c.args.place) ((header_judged _).other c.if-row.true)

pub returns-then-row-allowed : goal.returns-then-row-allowed
returns-then-row-allowed c =
    let tests = header_tested c.args.row c.has_form.ensures c.allows_size.ensures in
    ap (λ n. verdict n c.args.place) (tests.kept c.if-row.false c.if-row-allowed.true)

pub returns : goal.returns
returns c =
    let tests = header_tested c.args.row c.has_form.ensures c.allows_size.ensures in
    c.refuse-2.ensures ∙ ap (λ n. verdict n c.args.place) (tests.broken c.if-row.false c.if-row-allowed.false)
