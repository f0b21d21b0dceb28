-- `plane` meets its contract. Assumes nothing.
use mathlib.Core.Path.{refl, ◌∙◌}
use native.Mathlib.Omega.{arith}
use lib.ListN.{length}
use Rattle.page_layout.specs.Plane.{table, plane_of, no_hits}
use Rattle.page.proofs.EventHits.{counted_none}
use Rattle.page.proofs.Seeing.{plane_in_none, plane_in_all, sees, one_more, all_counted, can_count}
use Rattle.page.proofs.hits.plane.Goals as goal

pub loop-k-init : goal.loop-k-init
unfolding no_hits plane_of table
loop-k-init c = (counted_none, refl)

pub part-requires : goal.part-requires
part-requires c = let s = sees c.args.page.now c.args.room.now c.in-Ok.ensures in (s.0, omega (arith, s.1, c.loop-k-test.true))

pub count_event-requires : goal.count_event-requires
count_event-requires c =
    let s = sees c.args.page.now c.args.room.now c.in-Ok.ensures in
    rw (c.part.ensures, c.loop-k.invariant.0)
    (can_count c.args.page.now c.args.room.now s.0 c.loop-k.k (omega (arith, s.1, c.loop-k-test.true)) (length c.loop-k.rows) c.loop-k.invariant.1)

pub loop-k-preserved : goal.loop-k-preserved
loop-k-preserved c = (
  c.count_event.ensures ∙ rw (c.part.ensures, c.loop-k.invariant.0) (one_more c.args.page.now c.args.room.now c.loop-k.k),
  omega (arith, c.count_event.auto.rows, c.loop-k.invariant.1),
)

pub returns-in_default : goal.returns-in_default
unfolding no_hits plane_of table
returns-in_default c = let e = c.in_default.ensures in plane_in_none c.args.page.now c.args.room.now e

pub returns : goal.returns
returns c =
    let p = c.args.page.now in
    let s = sees p c.args.room.now c.in-Ok.ensures in
    c.loop-k.invariant.0 ∙ all_counted p c.args.room.now c.loop-k.k (omega (arith, s.1, c.loop-k-test.false, c.loop-k.auto.k-end)) ∙ plane_in_all p c.args.room.now c.in-Ok.ensures
