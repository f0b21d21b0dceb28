-- `text::put_event` meets its contract. Assumes nothing.
use Prim.Native.Nat.{◌+◌, ◌*◌, ◌<◌}
use native.Mathlib.Omega.{arith}
use lib.ListN.{length}
use Rattle.event.specs.Rows.{room}
use Rattle.listing.specs.Lengths.{answer_length, row_length}
use Rattle.hex_line.proofs.TextLaws.{placed_then}
use Rattle.listing.specs.Text.{event_text}
use Rattle.listing.proofs.TextLaws.{answer_length_lem, event_none, event_whole}
use Rattle.listing.proofs.text.put_event.Goals as goal
use Rattle.listing.proofs.text.put_event.Goals.{then-text-head-via-then-text-head, then-text-head-via-else-text-head+then-text-head-2}

pub returns-then-text-head : goal.returns-then-text-head
returns-then-text-head c =
    let a = c.args in
    let full : length a.text.now < answer_length a.answer + row_length * room (length a.rows.now) = elim c.then-text-head.branch [
      | then-text-head-via-then-text-head w ↦ omega (arith, c.answer_length-head.ensures, w.if-text-head.true)
      | then-text-head-via-else-text-head+then-text-head-2 w ↦ omega (arith, c.answer_length-head.ensures, w.if-text-head-2.true, w.if-text-head.false)
    ] in
    let both = event_none a.text.now a.rows.now a.number a.answer full in
    record { count = both.0; buffer = both.1 }

pub put_rows-requires : goal.put_rows-requires
put_rows-requires c = omega (arith, c.answer_length-head.ensures, c.put_answer-end.ensures.ends, answer_length_lem c.args.number c.args.answer)

pub returns : goal.returns
unfolding event_text
returns c =
    let both = event_whole c.args.text.now c.args.rows.now c.args.number c.args.answer (omega (arith, c.answer_length-head.ensures))
    (placed_then c.put_answer-end.ensures c.put_rows.ensures) in
    record { count = both.0; buffer = both.1 }
