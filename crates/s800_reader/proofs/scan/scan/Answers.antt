-- `scan::scan` meets its contract. Assumes nothing.
use native.Mathlib.Omega.{arith}
use mathlib.Core.Path.{◌∙◌}
use borrow.Author.Rules.{rules}
use Rattle.std.proofs.lemmas.Result.{err_from_is_err_and}
use Rattle.event.proofs.Answers.{passed_test, failed_test}
use Rattle.event.proofs.ChannelLaws.{blocked_none}
use Rattle.event.proofs.Turns.{begin, finish}
use Rattle.s800_reader.proofs.Reading.{opening_refused, channels_refused, over, word_refused, word_taken, packets_begin, whole_event, head_refused}
use Rattle.s800_reader.proofs.scan.scan.Goals as goal

pub returns-in_err-begun : goal.returns-in_err-begun
returns-in_err-begun c =
    let p = err_from_is_err_and c.from_residual.result c.from_residual.ensures.1 in
    rw (p.1, p.2) (head_refused c.in_err-begun.ensures)

pub packets-init : goal.packets-init
packets-init c = packets_begin c.in_ok-begun.ensures

pub open_packet-requires : goal.open_packet-requires
open_packet-requires c = (search rules, c.packets.invariant.few)

pub returns-in_err-channels : goal.returns-in_err-channels
returns-in_err-channels c =
    let p = err_from_is_err_and c.from_residual-in_err-channels.result c.from_residual-in_err-channels.ensures.1 in
    rw (p.1, p.2) (whole_event c.in_ok-begun.ensures (opening_refused c.packets.invariant (search rules) c.in_err-channels.ensures))

pub loop-i-init : goal.loop-i-init
loop-i-init c =
    let o = c.in_ok-channels.ensures in
    let l = o.opens.1 in
    (begin blocked_none (rw o.opens.0 l.inside) l.few, l.base, o.ends.1)

pub returns-in-Err : goal.returns-in-Err
returns-in-Err c =
    let i = c.loop-i.invariant in
    let w = c.word-w.ensures in
    whole_event c.in_ok-begun.ensures
    (channels_refused c.packets.invariant (search rules) c.in_ok-channels.ensures
    (word_refused _ i.0 (search rules) i.2 w.0 w.1 _ (failed_test _ _ c.in-Err.ensures)))

pub overflow_add-count : goal.overflow_add-count
overflow_add-count c = omega (arith, c.loop-i.invariant.0.few, c.loop-i.invariant.2)

pub loop-i-preserved : goal.loop-i-preserved
loop-i-preserved c =
    let i = c.loop-i.invariant in
    let w = c.word-w.ensures in
    let s = c.store_channel in
    (word_taken _ i.0 (search rules) i.2 w.0 w.1 (passed_test _ _ c.in_default.ensures) c.channel_of.ensures c.with_channel-blocked.ensures s.ensures s.auto.rows, i.1, i.2)

pub packets-preserved : goal.packets-preserved
packets-preserved c =
    let h = c.loop-i.invariant.0 in
    over c.packets.invariant (search rules) c.in_ok-channels.ensures (finish h (search rules)) (omega (arith, h.few, h.inside)) (h.same ∙ c.open_packet.auto.rows)

pub returns-then-words-next : goal.returns-then-words-next
returns-then-words-next c = whole_event c.in_ok-begun.ensures (finish c.packets.invariant (search rules))
