-- `write` meets its contract. Assumes nothing.
use Rattle.event.specs.Parser.{ended}
use Rattle.event.specs.Writing.{rows_in}
use Rattle.event.proofs.Leads.{accepted_scan}
use Rattle.event.proofs.Stores.{write_uneven, write_refused, write_large, write_crowded, write_fits}
use Rattle.s800_layout.specs.Layout.{words, largest_event}
use Rattle.s800_layout.specs.Writing.{event_rows_up_to}
use Rattle.s800_layout.proofs.Event.{codes_one}
use Rattle.s800_layout.proofs.Width.{words_fit}
use Rattle.s800_writer.proofs.Failures.{handed_on}
use Rattle.s800_writer.proofs.write.Goals as goal

pub returns-then-rows-ne0 : goal.returns-then-rows-ne0
returns-then-rows-ne0 c =
    let r = write_uneven 16 largest_event words (event_rows_up_to c.args.order ended) c.args.rows.now c.args.words.now c.if-rows-ne0.true in
    record { answer = rw c.refuse.ensures r.answered; words = r.written }

pub returns-in_err-count : goal.returns-in_err-count
returns-in_err-count c =
    let r = write_refused 16 largest_event words (event_rows_up_to c.args.order ended) c.args.rows.now c.args.words.now c.if-rows-ne0.false c.in_err-count.ensures in
    record { answer = rw (handed_on c.from_residual.result c.from_residual.ensures.1) r.answered; words = r.written }

pub returns-then-count-gt-LARGEST_EVENT : goal.returns-then-count-gt-LARGEST_EVENT
returns-then-count-gt-LARGEST_EVENT c =
    let r = write_large 16 largest_event words (event_rows_up_to c.args.order ended) c.args.rows.now c.args.words.now c.if-rows-ne0.false
    (accepted_scan words (event_rows_up_to c.args.order ended 0 (rows_in c.args.rows.now)) c.in_ok-count.ensures) c.if-count-gt-LARGEST_EVENT.true in
    record { answer = rw c.refuse-then-count-gt-LARGEST_EVENT.ensures r.answered; words = r.written }

pub returns-then-words-count : goal.returns-then-words-count
returns-then-words-count c =
    let r = write_crowded 16 largest_event words (event_rows_up_to c.args.order ended) c.args.rows.now c.args.words.now c.if-rows-ne0.false
    (accepted_scan words (event_rows_up_to c.args.order ended 0 (rows_in c.args.rows.now)) c.in_ok-count.ensures) c.if-count-gt-LARGEST_EVENT.false
    c.if-words-count.true in
    record { answer = rw c.refuse-then-words-count.ensures r.answered; words = r.written }

pub returns : goal.returns
returns c =
    let r = write_fits 16 largest_event words (event_rows_up_to c.args.order ended) c.args.rows.now c.args.words.now c.if-rows-ne0.false
    (accepted_scan words (event_rows_up_to c.args.order ended 0 (rows_in c.args.rows.now)) c.in_ok-count.ensures) c.if-count-gt-LARGEST_EVENT.false
    (λ e j l q small. words_fit e (record { formed = ((codes_one c.args.order).sound 0 (rows_in c.args.rows.now) e j l q).0; size = small })) c.if-words-count.false c.write_event-2.ensures in
    record { answer = r.answered; words = r.written }
