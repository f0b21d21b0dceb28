-- `count_rows` meets its contract. Assumes nothing.
use Prim.Native.Nat.{◌+◌}
use mathlib.Core.Path.{sym, ap, subst, ◌∙◌}
use native.Mathlib.Omega.{arith}
use Rattle.event.specs.declared.Row.{Row}
use Rattle.event.specs.Writing.{rows_in, row_at}
use Rattle.event.proofs.RowsIn.{rows_count}
use Rattle.page.proofs.Counting.{Counting, counting_ends, counting_miss, counting_hit, counting_under, row_inside, on_plane}
use Rattle.page.proofs.hits.count_rows.Goals.{then-row, else-row}
use Rattle.page.proofs.hits.count_rows.Goals as goal

pub overflow_add-plane : goal.overflow_add-plane
overflow_add-plane c =
    let rows = c.args.rows.now in
    let l = c.loop-i in
    let h = row_inside rows l.i c.loop-i-test.true in
    let k = ap (λ (r : Row). r.kind) (sym c.row_at-row.ensures) ∙ c.if-row.true in
    let b = on_plane rows l.i c.loop-i-test.true c.requires.1 k in
    rw c.row_at-row.ensures (omega (arith, counting_under c.args.plane.now (rows_in rows) l.i h l.plane l.invariant k b, c.requires.2 (row_at rows l.i).channel b))

pub loop-i-preserved : goal.loop-i-preserved
loop-i-preserved c =
    let rows = c.args.rows.now in
    let l = c.loop-i in
    let h = row_inside rows l.i c.loop-i-test.true in
    let e = ap (λ (r : Row). r.kind) (sym c.row_at-row.ensures) in
    elim c.if-row.branch [
      | then-row w ↦
          let k = e ∙ w.if-row.true in
          subst (Counting c.args.plane.now (rows_in rows) (l.i + 1)) (sym (w.plane-is ∙ rw c.row_at-row.ensures))
          (counting_hit c.args.plane.now (rows_in rows) l.i h l.plane l.invariant k (on_plane rows l.i c.loop-i-test.true c.requires.1 k))
      | else-row w ↦
          subst (Counting c.args.plane.now (rows_in rows) (l.i + 1)) (sym w.plane-is)
          (counting_miss c.args.plane.now (rows_in rows) l.i h l.plane l.invariant (λ q. w.if-row.false (sym e ∙ q)))
    ]

pub returns : goal.returns
returns c = counting_ends c.args.plane.now (rows_in c.args.rows.now) c.loop-i.i c.loop-i.plane (rw (rows_count c.args.rows.now) c.loop-i-test.false) c.loop-i.invariant
