-- `side::put_lines` meets its contract. Assumes nothing.
use Prim.Native.Nat.{◌+◌, ◌*◌, ◌≤◌}
use mathlib.Core.Path.{◌≡◌}
use lib.ListN.{length, take}
use Rattle.hex_line.specs.Text.{Placed}
use Rattle.compare_events.specs.Lengths.{tail_length}
use Rattle.compare_events.specs.Text.{tail_lines}
use Rattle.compare_events.proofs.side.put_lines.Given as goal

abbrev pub invariant-loop-i : goal.invariant-loop-i
invariant-loop-i g l =
    (length l.text ≡ length l.initial.text)
    × (l.end ≤ l.at + tail_length * l.i)
    × Placed l.initial.text l.at (tail_lines l.label l.from (take l.i (g.W.EventWord.numbers l.tail))) l.end l.text
