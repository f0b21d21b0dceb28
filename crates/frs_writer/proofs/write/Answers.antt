-- `write` meets its contract. Assumes nothing.
use Rattle.event.specs.Parser.{ended}
use Rattle.event.specs.Writing.{rows_in}
use Rattle.event.proofs.Leads.{accepted_scan}
use Rattle.event.proofs.Stores.{write_fits}
use Rattle.frs_layout.specs.Layout.{words, largest_event}
use Rattle.frs_layout.specs.Writing.{event_rows_up_to}
use Rattle.frs_writer.proofs.Begun.{event_fits}
use Rattle.frs_writer.proofs.write.Goals as goal

pub returns-clause-words : goal.returns-clause-words
returns-clause-words c =
    (write_fits 32 largest_event words (event_rows_up_to ended) c.args.rows.now c.args.words.now c.if-rows-ne0.false
    (accepted_scan words (event_rows_up_to ended 0 (rows_in c.args.rows.now)) c.in_ok-count.ensures) c.if-count-gt-LARGEST_EVENT.false
    (event_fits (rows_in c.args.rows.now)) c.if-words-count.false c.write_event-2.ensures).written
