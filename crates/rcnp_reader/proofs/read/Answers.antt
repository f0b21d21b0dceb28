-- `read` meets its contract. Assumes nothing.
use Rattle.std.proofs.lemmas.Result.{err_from_is_err_and}
use Rattle.event.proofs.Stores.{read_refused, read_crowded, read_fits}
use Rattle.rcnp_layout.specs.Layout.{rows}
use Rattle.rcnp_reader.proofs.EventLaws.{filled_parts}
use Rattle.rcnp_reader.proofs.read.Goals as goal

pub returns-in_err-count : goal.returns-in_err-count
returns-in_err-count c =
    let r = read_refused rows c.args.rows.now _ c.in_err-count.ensures in
    let p = err_from_is_err_and c.from_residual.result c.from_residual.ensures.1 in
    rw (p.1, p.2) (record { answer = r.answered; buffer = r.written })

pub returns-then-rows-count : goal.returns-then-rows-count
returns-then-rows-count c =
    let r = read_crowded rows c.args.rows.now _ c.in_ok-count.ensures c.if-rows-count.true in
    rw c.refuse.ensures (record { answer = r.answered; buffer = r.written })

pub returns : goal.returns
returns c =
    let r = read_fits rows c.args.rows.now _ c.in_ok-count.ensures c.if-rows-count.false (filled_parts c.args.words.now c.in_ok-count.ensures c.parts.ensures) in
    record { answer = r.answered; buffer = r.written }
