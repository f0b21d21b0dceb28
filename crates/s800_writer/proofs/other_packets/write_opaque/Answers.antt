-- `other_packets::write_opaque` meets its contract. Assumes nothing.
use Rattle.s800_writer.proofs.Packets.{packet_closed, content_refused, opaque_content}
use Rattle.s800_writer.proofs.Failures.{handed_on}
use Rattle.event.specs.Writing.{rows_in}
use Rattle.s800_layout.specs.Event.{opaque}
use Rattle.s800_writer.proofs.other_packets.write_opaque.Goals as goal

pub returns-in_err-content : goal.returns-in_err-content
returns-in_err-content c =
    rw (handed_on c.from_residual.result c.from_residual.ensures.1) (λ k e. content_refused (opaque k) 0 (rows_in c.args.own.rows.now) c.args.own.at (opaque_content (rows_in c.args.own.rows.now) c.args.own.at k c.in_err-content.ensures))

pub returns : goal.returns
returns c =
    λ k e. packet_closed (opaque k) 0 (rows_in c.args.own.rows.now) c.args.own.at (opaque_content (rows_in c.args.own.rows.now) c.args.own.at k c.in_ok-content.ensures) (rw e at c.close.ensures)
