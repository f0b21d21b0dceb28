-- `lines::list_line` meets its contract. Assumes nothing.
use Prim.Native.Nat.{ℕ, ◌+◌, ◌-◌}
use native.Mathlib.Omega.{arith}
use mathlib.Core.Path.{◌≡◌, ap}
use mathlib.Core.List.{List}
use lib.ListN.{take, drop}
use Rattle.list_input.proofs.Steps.{listed_as}
use Rattle.list_input.proofs.LineCalls.{answered, rows_given}
use Rattle.list_input.proofs.lines.list_line.Goals as goal

-- the line as it is passed on
passed_line : (input : List ℕ) (from count : ℕ) → take (from + count - from) (drop from input) ≡ take count (drop from input)
passed_line input from count = let n : from + count - from ≡ count = omega arith in ap (λ (k : ℕ). take k (drop from input)) n

pub returns : goal.returns
returns c =
    let a = c.args in
    let b = a.line.now in
    let p = passed_line a.input.now a.run.from a.count in
    let e = c.line_rows-answer.ensures in
    let r = rows_given a.order p b.words b.longwords b.rows (omega arith) (omega arith) (omega arith) e.answer e.rows in
    let t = listed_as a.order (take a.count (drop a.run.from a.input.now)) (answered a.order p b.words b.longwords b.rows (omega arith) (omega arith) (omega arith) e.answer)
    (rw (← c.unwrap_or-elements.ensures) at r)
    c.requires.inside c.requires.line_inside c.put_line.ensures in
    record { inside_2 = t.0; line_listed = t.1 }
