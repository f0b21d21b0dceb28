-- `put_connector` meets its contract. Assumes nothing.
use Prim.Native.Nat.{ℕ}
use mathlib.Core.List.{List}
use Rattle.hex_line.specs.Text.{texts_below, Placed}
use Rattle.list_pads.specs.Pads.{pair_text}
use Rattle.list_pads.proofs.put_connector.Given as goal

-- the line of a channel of a connector
abbrev pub line : (connector channel : ℕ) → List ℕ
line connector channel = pair_text channel connector

abbrev pub invariant-loop-channel : goal.invariant-loop-channel
invariant-loop-channel l = Placed l.initial.text l.at (texts_below l.channel (line l.connector)) l.end l.text
