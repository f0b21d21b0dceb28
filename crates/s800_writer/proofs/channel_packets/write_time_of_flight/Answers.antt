-- `channel_packets::write_time_of_flight` meets its contract. Assumes nothing.
use native.Mathlib.Omega.{arith}
use Rattle.s800_layout.specs.Event.{time_of_flight}
use Rattle.s800_writer.proofs.Failures.{handed_on}
use Rattle.event.specs.Writing.{rows_in}
use Rattle.s800_writer.proofs.Packets.{packet_closed, content_refused, flight_content}
use Rattle.s800_writer.proofs.channel_packets.write_time_of_flight.Goals as goal

pub write_channels-requires : goal.write_channels-requires
write_channels-requires c = rw c.flight_times.ensures (omega arith)

pub returns-in_err-times : goal.returns-in_err-times
returns-in_err-times c =
    rw (handed_on c.from_residual.result c.from_residual.ensures.1)
    (content_refused time_of_flight 0 (rows_in c.args.own.rows.now) c.args.own.at (flight_content (rows_in c.args.own.rows.now) c.args.own.at c.flight_times.ensures c.in_err-times.ensures))

pub returns : goal.returns
returns c =
    packet_closed time_of_flight 0 (rows_in c.args.own.rows.now) c.args.own.at (flight_content (rows_in c.args.own.rows.now) c.args.own.at c.flight_times.ensures c.in_ok-times.ensures) c.close.ensures
