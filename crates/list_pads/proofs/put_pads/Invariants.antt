-- `put_pads` meets its contract. Assumes nothing.
use Rattle.hex_line.specs.Text.{texts_below, Placed}
use Rattle.list_pads.specs.Pads.{connector_text}
use Rattle.list_pads.proofs.put_pads.Given as goal

abbrev pub invariant-loop-connector : goal.invariant-loop-connector
invariant-loop-connector l = Placed l.initial.text 0 (texts_below l.connector connector_text) l.end l.text
