-- `text::store_digits` meets its contract. Assumes nothing.
use Prim.Native.Nat.{◌-◌, ◌*◌, ◌/◌, ◌^◌}
use mathlib.Core.Path.{◌≡◌}
use lib.Seq.{sets}
use Rattle.hex_line.specs.Text.{hex_of}
use Rattle.hex_line.proofs.text.store_digits.Given as goal

abbrev pub invariant-loop-i : goal.invariant-loop-i
invariant-loop-i l = l.buffer ≡ sets l.initial.buffer l.at (hex_of l.i (l.number / 2 ^ (4 * (8 - l.i))))
