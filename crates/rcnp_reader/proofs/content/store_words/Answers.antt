-- `content::store_words` meets its contract. Assumes nothing.
use Prim.Native.Nat.{◌+◌, ◌<◌}
use native.Mathlib.Omega.{arith}
use mathlib.Core.Path.{◌≡◌, refl, ap, sym, ◌∙◌}
use lib.ListN.{length}
use lib.Seq.{slice_empty}
use Rattle.event.specs.Rows.{store_row}
use Rattle.event.proofs.RowStores.{stored_next, stored_enough}
use Rattle.rcnp_reader.proofs.content.store_words.Goals as goal

pub loop-i-init : goal.loop-i-init
loop-i-init g c =
    let first = c.args.first in
    let z : first + 0 ≡ first = omega arith in
    (refl, rw (z, slice_empty first c.args.words.now))

pub put_row-requires : goal.put_row-requires
put_row-requires g c = rw c.loop-i.invariant.0 (omega (arith, c.fitting-i-end.ensures))

pub loop-i-preserved : goal.loop-i-preserved
loop-i-preserved g c =
    let e = c.args in
    let v = c.loop-i.invariant in
    let inside : e.first + c.loop-i.i < length c.args.words.now = omega (arith, c.fitting-i-end.ensures, c.requires) in
    let put = c.put_row.ensures ∙ ap (store_row c.loop-i.rows (e.at + c.loop-i.i)) c.row.ensures in
    (c.put_row.auto.rows ∙ v.0, stored_next g.W.WordRow.row_of c.args.words.now e.first e.at c.args.rows.now c.loop-i.i inside v.1 c.word.ensures.0 put)

pub returns : goal.returns
returns g c =
    let e = c.args in
    let p = c.requires in
    let all : c.loop-i.i ≡ c.fitting-i-end.result = omega arith in
    c.loop-i.invariant.1 ∙ sym (stored_enough g.W.WordRow.row_of c.args.words.now e.first e.at c.args.rows.now c.loop-i.i e.end p.0 p.1 (all ∙ c.fitting-i-end.ensures))
