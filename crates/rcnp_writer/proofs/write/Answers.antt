-- `write` meets its contract. Assumes nothing.
use Rattle.std.proofs.lemmas.Result.{err_from_is_err_and}
use Rattle.event.specs.declared.Row.{Row}
use Rattle.event.specs.Parser.{Parser, finish, lastly}
use Rattle.event.specs.Writing.{rows_in}
use Rattle.event.proofs.Stores.{write_uneven, write_large, write_crowded, write_fits}
use Rattle.rcnp_layout.specs.Event.{Event}
use Rattle.rcnp_layout.specs.Layout.{words, summed, largest_event}
use Rattle.rcnp_layout.specs.Writing.{parts_with}
use Rattle.rcnp_writer.proofs.Event.{counted_taken, counted_refused, counted_runs, event_filled, event_fits}
use Rattle.rcnp_writer.proofs.write.Goals as goal

abbrev event : Parser Row Event
event = lastly summed 22 (parts_with (finish 21))

pub returns-then-rows-ne0 : goal.returns-then-rows-ne0
returns-then-rows-ne0 c =
    let r = write_uneven 16 largest_event words event c.args.rows.now c.args.words.now c.if-rows-ne0.true in
    rw c.refuse.ensures (record { answer = r.answered; words = r.written })

pub returns-in_err-count : goal.returns-in_err-count
returns-in_err-count c =
    let r = counted_refused c.args.rows.now c.args.words.now c.if-rows-ne0.false c.in_err-count.ensures in
    let p = err_from_is_err_and c.from_residual.result c.from_residual.ensures.1 in
    rw (p.1, p.2) (record { answer = r.answered; words = r.written })

pub returns-then-count-gt-LARGEST_EVENT : goal.returns-then-count-gt-LARGEST_EVENT
returns-then-count-gt-LARGEST_EVENT c =
    let taken = counted_taken (rows_in c.args.rows.now) c.in_ok-count.ensures in
    let r = write_large 16 largest_event words event c.args.rows.now c.args.words.now c.if-rows-ne0.false taken c.if-count-gt-LARGEST_EVENT.true in
    rw c.refuse-then-count-gt-LARGEST_EVENT.ensures (record { answer = r.answered; words = r.written })

pub returns-then-words-count : goal.returns-then-words-count
returns-then-words-count c =
    let taken = counted_taken (rows_in c.args.rows.now) c.in_ok-count.ensures in
    let r = write_crowded 16 largest_event words event c.args.rows.now c.args.words.now c.if-rows-ne0.false taken c.if-count-gt-LARGEST_EVENT.false c.if-words-count.true in
    rw c.refuse-then-words-count.ensures (record { answer = r.answered; words = r.written })

pub write_regions-requires : goal.write_regions-requires
write_regions-requires c =
    let taken = counted_taken (rows_in c.args.rows.now) c.in_ok-count.ensures in
    counted_runs (rows_in c.args.rows.now) taken

pub returns : goal.returns
returns c =
    let taken = counted_taken (rows_in c.args.rows.now) c.in_ok-count.ensures in
    let rs = rows_in c.args.rows.now in
    let r = write_fits 16 largest_event words event c.args.rows.now c.args.words.now c.if-rows-ne0.false taken c.if-count-gt-LARGEST_EVENT.false (event_fits rs) c.if-words-count.false
    (event_filled rs taken c.write_regions.ensures) in
    record { answer = r.answered; words = r.written }
