-- `rows::fill` meets its contract. Assumes nothing.
use Prim.Native.Nat.{◌<◌, ◌≤◌, min}
use native.Mathlib.Omega.{arith}
use mathlib.Core.Path.{refl, sym, ◌∙◌}
use lib.ListN.{length}
use Rattle.event.specs.Writing.{rows_in, is_same_row, no_row}
use Rattle.event.proofs.RowsIn.{rows_count}
use Rattle.compare.proofs.Loops.{from_apart, from_same, from_end, fill_room, fill_more, fill_done}
use Rattle.compare.proofs.rows.fill.Goals as goal
use Rattle.compare.proofs.rows.fill.Goals.{then-ne, else-ne}

pub put_rows-requires : goal.put_rows-requires
put_rows-requires c =
    let a = rows_in c.args.first.now in
    let b = rows_in c.args.second.now in
    let inside : c.loop-i.i < min (length a) (length b) = rw (rows_count, rows_count) (omega arith) in
    let next = from_apart is_same_row a b no_row inside (rw (c.row_at-r.ensures, c.row_at-s.ensures) at (sym c.ne.ensures ∙ c.if-ne.true)) in
    omega (arith, fill_room (rw next at c.loop-i.invariant), c.loop-i.invariant.size, c.requires.0)

pub loop-i-preserved : goal.loop-i-preserved
loop-i-preserved c =
    let a = rows_in c.args.first.now in
    let b = rows_in c.args.second.now in
    let inside : c.loop-i.i < min (length a) (length b) = rw (rows_count, rows_count) (omega arith) in
    let x = c.row_at-r.ensures in
    let y = c.row_at-s.ensures in
    elim c.if-ne.branch [
      | then-ne w ↦
          let next = from_apart is_same_row a b no_row inside (rw (x, y) at (sym c.ne.ensures ∙ w.if-ne.true)) in
          rw (w.list-is, w.found-is) (fill_more (rw next at c.loop-i.invariant) refl (omega arith) (rw (x, y) at w.put_rows.ensures))
      | else-ne w ↦
          let next = from_same is_same_row a b no_row inside (rw (x, y) at (sym c.ne.ensures ∙ w.if-ne.false)) in
          rw (w.list-is, w.found-is) (rw next at c.loop-i.invariant)
    ]

pub returns : goal.returns
returns c =
    let a = rows_in c.args.first.now in
    let b = rows_in c.args.second.now in
    let past : min (length a) (length b) ≤ c.loop-i.i = rw (rows_count, rows_count) (omega (arith, c.min-shared.ensures)) in
    fill_done (rw (from_end is_same_row a b c.loop-i.i past) at c.loop-i.invariant) (λ d. refl) c.requires.0
