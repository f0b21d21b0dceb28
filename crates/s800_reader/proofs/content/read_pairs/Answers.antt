-- `content::read_pairs` meets its contract. Assumes nothing.
use Prim.Native.Nat.{◌+◌, ◌*◌, ◌-◌}
use native.Mathlib.Omega.{arith}
use mathlib.Core.Path.{◌≡◌, ◌∙◌}
use Rattle.std.proofs.lemmas.Result.{err_from_is_err_and}
use Rattle.event.proofs.Answers.{passed_test, failed_test}
use Rattle.event.proofs.ChannelLaws.{blocked_none}
use Rattle.event.proofs.Turns.{begin, finish}
use Rattle.s800_reader.proofs.Runs.{pair_stop, pair_stop_2, pair_step}
use Rattle.s800_format.proofs.Formats.{pair_format}
use Rattle.s800_reader.specs.Channel.{fault_of}
use Rattle.s800_reader.proofs.content.read_pairs.Goals as goal

pub loop-pair-init : goal.loop-pair-init
loop-pair-init c =
    let one : c.args.packet.count + 2 - 1 ≡ c.args.packet.count + 1 = omega arith in
    rw one (begin (rw c.pair_energies-format.ensures blocked_none) (omega (arith, c.args.packet.two)) (omega (arith, c.args.packet.few)))

pub returns-in_err-check_channel : goal.returns-in_err-check_channel
returns-in_err-check_channel c =
    let p = err_from_is_err_and c.from_residual.result c.from_residual.ensures.1 in
    rw (p.1, p.2) (
      pair_stop c.loop-pair.invariant (omega arith) c.args.packet.inside c.word-energy.ensures.0 c.word-energy.ensures.1 _
          (failed_test _ _ (c.in_err-check_channel.ensures ∙ rw c.pair_energies-format.ensures)),
      tt,
    )

pub returns-then-time-channel : goal.returns-then-time-channel
returns-then-time-channel c =
    let next : c.args.packet.start + (2 * c.loop-pair.pair + 1) ≡ c.args.packet.start + 2 * c.loop-pair.pair + 1 = omega arith in
    let none : 0 ≡ fault_of pair_format c.loop-pair.blocked c.word-energy.result
    = passed_test _ (c.args.packet.start + 2 * c.loop-pair.pair) c.in_ok-check_channel.ensures ∙ rw c.pair_energies-format.ensures in (
      pair_stop_2 c.loop-pair.invariant (omega arith) c.args.packet.inside c.word-energy.ensures.0 c.word-energy.ensures.1 (c.word-time.ensures.0 ∙ rw next)
          none _ c.if-time-channel.true c.refuse.ensures,
      rw c.refuse.ensures tt,
    )

pub loop-pair-preserved : goal.loop-pair-preserved
loop-pair-preserved c =
    let p = c.args.packet in
    let next : p.start + (2 * c.loop-pair.pair + 1) ≡ p.start + 2 * c.loop-pair.pair + 1 = omega arith in
    let none : 0 ≡ fault_of pair_format c.loop-pair.blocked c.word-energy.result
    = passed_test _ (p.start + 2 * c.loop-pair.pair) c.in_ok-check_channel.ensures ∙ rw c.pair_energies-format.ensures in
    let at : p.start + 2 * (c.loop-pair.pair + 1) ≡ p.start + 2 * c.loop-pair.pair + 2 = omega arith in
    let rows : p.count + 2 * (c.loop-pair.pair + 1) - 1 ≡ p.count + 2 * c.loop-pair.pair - 1 + 2 = omega arith in
    rw (at, rows)
    (pair_step c.loop-pair.invariant (omega arith) p.inside c.word-energy.ensures.0 c.word-energy.ensures.1 (c.word-time.ensures.0 ∙ rw next)
    none c.if-time-channel.false c.with_channel-blocked.ensures c.store_pair.ensures c.store_pair.auto.rows)

pub returns : goal.returns
returns c =
    let end : 2 * c.loop-pair.pair ≡ c.args.packet.size = omega (arith, c.requires, c.args.packet.two) in
    let h = rw end at c.loop-pair.invariant in
    (finish h (omega arith), omega (arith, c.args.packet.few, c.args.packet.two))
