-- `module::store_values` meets its contract. Assumes nothing.
use Prim.Native.Nat.{◌+◌, ◌-◌, ◌<◌}
use native.Mathlib.Omega.{arith}
use mathlib.Core.Path.{◌≡◌, sym, ◌∙◌}
use lib.ListN.{length}
use lib.Seq.{take-length}
use Rattle.event.proofs.RowStores.{stored_next, stored_enough}
use Rattle.frs_reader.specs.Modules.{row_of}
use Rattle.frs_reader.proofs.module.store_values.Goals as goal

pub loop-i-preserved : goal.loop-i-preserved
loop-i-preserved c =
    let e = c.args in
    let v = c.loop-i.invariant in
    let inside : 0 + c.loop-i.i < length e.longwords.now = omega (arith, c.fitting-most.ensures, c.loop-i-test.true) in
    let z : 0 + c.loop-i.i ≡ c.loop-i.i = omega arith in
    (c.store_value.auto.rows ∙ v.0, stored_next (row_of e.geo) e.longwords.now 0 e.at e.rows.now c.loop-i.i inside v.1 (c.word.ensures ∙ rw z) c.store_value.ensures)

pub returns : goal.returns
returns c =
    let e = c.args in
    let all : c.loop-i.i ≡ c.fitting-most.result = omega arith in
    let none : length e.longwords.now - 0 ≡ length e.longwords.now = omega arith in
    let whole = take-length e.longwords.now in
    c.loop-i.invariant.1 ∙ sym (rw whole at (stored_enough (row_of e.geo) e.longwords.now 0 e.at e.rows.now c.loop-i.i (length e.longwords.now) (omega arith) (omega arith) (all ∙ c.fitting-most.ensures ∙ rw none)))
