-- `groups::store_groups` meets its contract. Assumes nothing.
use Prim.Native.Nat.{◌+◌, ◌<◌}
use native.Mathlib.Omega.{arith}
use mathlib.Core.Path.{◌≡◌, refl, ap, ◌∙◌}
use Rattle.event.specs.Rows.{store_row}
use Rattle.s800_reader.proofs.GroupRows.{picked_below, laid_begin, laid_next, laid_all}
use Rattle.s800_reader.proofs.groups.store_groups.Goals as goal

pub loop-i-init : goal.loop-i-init
loop-i-init c = (omega arith, refl, laid_begin)

pub overflow_add-from : goal.overflow_add-from
overflow_add-from c = omega (arith, c.fitting-most.ensures, c.args.samples.inside)

pub word-w-requires : goal.word-w-requires
word-w-requires c = omega (arith, c.fitting-most.ensures, c.args.samples.inside)

pub overflow_add-first : goal.overflow_add-first
overflow_add-first c = omega (arith, c.fitting-most.ensures)

pub word_row-requires : goal.word_row-requires
word_row-requires c = (c.loop-i.invariant.0, c.word-w.ensures.1)

pub loop-i-preserved : goal.loop-i-preserved
loop-i-preserved c =
    let e = c.args in
    let v = c.loop-i.invariant in
    let w = c.word-w.ensures in
    let inside : e.samples.from + c.loop-i.i < e.samples.end = omega (arith, c.fitting-most.ensures) in
    let put = c.store_row.ensures ∙ ap (store_row c.loop-i.rows (e.first + c.loop-i.i)) c.word_row.ensures in
    (picked_below c.pick-head.ensures w.1 v.0, c.store_row.auto.rows ∙ v.1, laid_next v.2 inside c.args.samples.inside w.0 put c.pick-head.ensures)

pub shape_of-rows : goal.shape_of-rows
shape_of-rows c = c.loop-i.invariant.1

pub returns : goal.returns
returns c =
    let all : c.loop-i.i ≡ c.fitting-most.result = omega arith in
    laid_all c.loop-i.invariant.2 c.args.samples.ordered (all ∙ c.fitting-most.ensures)
