-- `line::value` meets its contract. Eight digits are below 2 ^ 32. Assumes nothing.
use mathlib.Core.Path.{◌≡◌}
use Rattle.hex_line.specs.Line.{value_of}
use Rattle.hex_line.proofs.line.value.Given as goal

abbrev pub invariant-loop-i : goal.invariant-loop-i
invariant-loop-i l = l.value ≡ value_of l.line l.at l.i
