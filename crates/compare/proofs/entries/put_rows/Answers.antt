-- `entries::put_rows` meets its contract. Assumes nothing.
use Prim.Native.Nat.{◌+◌, ◌-◌, ◌*◌}
use native.Mathlib.Omega.{arith}
use mathlib.Core.Path.{◌≡◌, sym, ◌∙◌}
use mathlib.Core.List.{append_assoc}
use lib.ListN.{take}
use lib.Seq.{sets-eq, drop-drop}
use Rattle.event.specs.Rows.{flat_row}
use Rattle.comparison.specs.Differences.{difference, entry}
use Rattle.compare.proofs.entries.put_rows.Goals as goal

pub returns : goal.returns
returns c =
    let a = c.args in
    let at = 9 * a.k in
    let numbers = entry flat_row (difference a.index a.r a.s) in
    let nine : at + 9 - at ≡ 9 = omega arith in
    rw (c.copy_from_slice.ensures.after, nine, drop-drop) (sym (sets-eq numbers a.list.now at (omega (arith, c.requires)) ∙ append_assoc (take at a.list.now) numbers _))
