-- `rows::fill` meets its contract. Assumes nothing.
use Rattle.event.specs.Rows.{flat_row}
use Rattle.event.specs.Writing.{rows_in, is_same_row}
use Rattle.comparison.specs.Differences.{differences}
use Rattle.compare.proofs.Loops.{Filling, from}
use Rattle.compare.proofs.rows.fill.Given as goal

abbrev pub invariant-loop-i : goal.invariant-loop-i
invariant-loop-i l =
    let a = rows_in l.first in
    let b = rows_in l.second in
    Filling flat_row 9 (differences is_same_row a b) l.initial.list (from is_same_row a b l.i) l.found l.list
