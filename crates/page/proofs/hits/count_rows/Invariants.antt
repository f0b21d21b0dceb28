-- `count_rows` meets its contract. Assumes nothing.
use Rattle.event.specs.Writing.{rows_in}
use Rattle.page.proofs.Counting.{Counting}
use Rattle.page.proofs.hits.count_rows.Given as goal

abbrev pub invariant-loop-i : goal.invariant-loop-i
invariant-loop-i l = Counting l.initial.plane (rows_in l.rows) l.i l.plane
