-- `read` meets its contract. Assumes nothing.
use Rattle.std.proofs.lemmas.Result.{err_from_is_err_and}
use Rattle.event.proofs.Stores.{read_refused, read_crowded, read_fits}
use Rattle.s800_layout.specs.Layout.{rows}
use Rattle.s800_reader.proofs.Reading.{scanned_by}
use Rattle.s800_reader.proofs.read.Goals as goal

pub returns-in_err-count : goal.returns-in_err-count
returns-in_err-count c =
    let p = err_from_is_err_and c.from_residual.result c.from_residual.ensures.1 in
    let r = read_refused (rows c.args.order) c.args.rows.now _ (scanned_by (rows c.args.order) _ c.in_err-count.ensures) in
    rw (p.1, p.2) (record { answer = r.answered; buffer = r.written })

pub returns-then-rows-count : goal.returns-then-rows-count
returns-then-rows-count c =
    let r = read_crowded (rows c.args.order) c.args.rows.now _ (scanned_by (rows c.args.order) _ c.in_ok-count.ensures) c.if-rows-count.true in
    rw c.refuse.ensures (record { answer = r.answered; buffer = r.written })

pub returns : goal.returns
returns c =
    let r = read_fits (rows c.args.order) c.args.rows.now _ (scanned_by (rows c.args.order) _ c.in_ok-count.ensures) c.if-rows-count.false c.scan.ensures in
    record { answer = r.answered; buffer = r.written }
