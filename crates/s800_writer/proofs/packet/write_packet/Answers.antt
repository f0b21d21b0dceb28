-- `packet::write_packet` meets its contract. Assumes nothing.
use mathlib.Core.Path.{sym, ◌∙◌}
use Rattle.event.specs.Writing.{rows_in}
use Rattle.event.proofs.Answers.{passed_test, failed_test}
use Rattle.s800_layout.specs.Event.{form_of}
use Rattle.s800_format.proofs.Tags.{number_of_tag, no_number}
use Rattle.s800_writer.specs.Packets.{header_fault}
use Rattle.s800_writer.proofs.Failures.{handed_on}
use Rattle.s800_writer.proofs.Headers.{some_tag, own_refused, own_known, own_taken}
use Rattle.s800_writer.proofs.packet.write_packet.Goals as goal

pub returns-in_err-check_header : goal.returns-in_err-check_header
returns-in_err-check_header c =
    let failed = failed_test (header_fault c.row_at-row.result) c.args.own.at c.in_err-check_header.ensures in
    rw (handed_on c.from_residual.result c.from_residual.ensures.1)
    (own_refused (rows_in c.args.own.rows.now) c.args.own.at c.row_at-row.ensures failed)

pub write_content-requires : goal.write_content-requires
write_content-requires c =
    let passed = passed_test (header_fault c.row_at-row.result) c.args.own.at c.in_ok-check_header.ensures in
    let k = own_known (rows_in c.args.own.rows.now) c.args.own.at c.row_at-row.ensures passed in
    let its = number_of_tag c.row_at-row.result.unit c.in-Some.ensures in
    (rw its at k.0, rw its at k.1)

pub returns : goal.returns
returns c =
    let passed = passed_test (header_fault c.row_at-row.result) c.args.own.at c.in_ok-check_header.ensures in
    own_taken (rows_in c.args.own.rows.now) c.args.own.at c.row_at-row.ensures passed
    (rw (sym (number_of_tag c.row_at-row.result.unit c.in-Some.ensures)) at c.write_content.ensures)

pub unreachable-requires : goal.unreachable-requires
unreachable-requires c =
    let passed = passed_test (header_fault c.row_at-row.result) c.args.own.at c.in_ok-check_header.ensures in
    let k = own_known (rows_in c.args.own.rows.now) c.args.own.at c.row_at-row.ensures passed in
    let t = some_tag (form_of c.row_at-row.result.unit) in no_number c.row_at-row.result.unit c.in-None.ensures t.0 (sym k.0 ∙ t.1)
