-- `put_connector` meets its contract. Assumes nothing.
use mathlib.Core.Path.{◌≡◌}
use native.Mathlib.Omega.{arith}
use Rattle.hex_line.proofs.TextLaws.{placed_first, placed_next, room_next}
use Rattle.list_pads.specs.Pads.{connector_text}
use Rattle.list_pads.proofs.PadLaws.{pair_length}
use Rattle.list_pads.proofs.put_connector.Invariants.{line}
use Rattle.list_pads.proofs.put_connector.Goals as goal

pub loop-channel-init : goal.loop-channel-init
loop-channel-init c = placed_first (line _)

pub put_pair-end-requires : goal.put_pair-end-requires
unfolding connector_text
put_pair-end-requires c =
    let n = c.args.connector in room_next c.loop-channel.channel (line n) (λ channel. pair_length channel n) c.loop-channel-test.true c.requires c.loop-channel.invariant

pub loop-channel-preserved : goal.loop-channel-preserved
loop-channel-preserved c = placed_next _ (line _) c.loop-channel.invariant c.put_pair-end.ensures

pub returns : goal.returns
unfolding connector_text
returns c =
    let all : c.loop-channel.channel ≡ 64 = omega arith in
    rw all at c.loop-channel.invariant
