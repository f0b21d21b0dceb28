-- `other_packets::write_scintillator` meets its contract. Assumes nothing.
use Rattle.s800_layout.specs.Event.{scintillator}
use Rattle.s800_writer.proofs.Packets.{packet_closed, content_refused}
use Rattle.s800_writer.proofs.Failures.{handed_on}
use Rattle.event.specs.Writing.{rows_in}
use Rattle.s800_writer.proofs.other_packets.write_scintillator.Goals as goal

pub returns-in_err-pairs : goal.returns-in_err-pairs
returns-in_err-pairs c =
    rw (handed_on c.from_residual.result c.from_residual.ensures.1)
    (content_refused scintillator 0 (rows_in c.args.own.rows.now) c.args.own.at c.in_err-pairs.ensures)

pub returns : goal.returns
returns c =
    packet_closed scintillator 0 (rows_in c.args.own.rows.now) c.args.own.at c.in_ok-pairs.ensures c.close.ensures
