-- `row::check_sample_datum` meets its contract. Assumes nothing.
use mathlib.Core.Path.{◌∙◌}
use Rattle.s800_layout.specs.Writing.{sample_head_of}
use Rattle.s800_writer.proofs.Failures.{same_verdict}
use Rattle.s800_writer.proofs.SampleRows.{datum_tested}
use Rattle.s800_writer.proofs.row.check_sample_datum.Goals as goal

pub returns-then-row : goal.returns-then-row
returns-then-row c = c.refuse.ensures ∙ same_verdict c.args.place ((datum_tested (sample_head_of c.args.head) c.args.least c.args.row).other c.if-row.true)

pub returns-then-same-row : goal.returns-then-same-row
returns-then-same-row c = same_verdict c.args.place ((datum_tested (sample_head_of c.args.head) c.args.least c.args.row).kept c.if-row.false c.if-same-row.true)

pub returns : goal.returns
returns c = c.refuse-2.ensures ∙ same_verdict c.args.place ((datum_tested (sample_head_of c.args.head) c.args.least c.args.row).broken c.if-row.false c.if-same-row.false)
