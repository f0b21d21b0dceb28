-- `put_pads` meets its contract. Assumes nothing.
use mathlib.Core.Path.{◌≡◌}
use native.Mathlib.Omega.{arith}
use Rattle.hex_line.proofs.TextLaws.{placed_first, placed_next, placed_all, room_next}
use Rattle.list_pads.specs.Pads.{connector_text, pads_text}
use Rattle.list_pads.proofs.PadLaws.{connector_length}
use Rattle.list_pads.proofs.put_pads.Goals as goal

pub loop-connector-init : goal.loop-connector-init
loop-connector-init c = placed_first connector_text

pub put_connector-end-requires : goal.put_connector-end-requires
unfolding pads_text
put_connector-end-requires c = room_next c.loop-connector.connector connector_text connector_length c.loop-connector-test.true (omega arith) c.loop-connector.invariant

pub loop-connector-preserved : goal.loop-connector-preserved
loop-connector-preserved c = placed_next _ connector_text c.loop-connector.invariant c.put_connector-end.ensures

pub returns : goal.returns
unfolding pads_text
returns c =
    let all : c.loop-connector.connector ≡ 4 = omega arith in
    placed_all c.requires (rw all at c.loop-connector.invariant)
