-- `fill::store_words` meets its contract. Assumes nothing.
use Rattle.std.proofs.Common.{◌+◌, ◌<◌, [], ◌∷◌, length, sym, ap, ◌∙◌, arith}
use Rattle.event.specs.Writing.{rows_in}
use Rattle.rcnp_writer.specs.Parts.{such}
use Rattle.rcnp_writer.specs.RowWords.{single_word}
use Rattle.rcnp_writer.proofs.Filled.{filled_one, filled_run, such_alone}
use Rattle.rcnp_writer.proofs.fill.store_words.Goals as goal

pub loop-k-preserved : goal.loop-k-preserved
loop-k-preserved g c =
    let k = c.loop-k.k in
    let below : k < c.args.n = omega (arith, c.fitting-most.ensures, c.loop-k-test.true) in
    let there : c.args.first + k < length (rows_in c.args.rows.now) = omega (arith, below, c.requires.0.inside) in
    let e = c.row_there.ensures in
    let t = rw (← e) at (c.requires.0.each k below) in
    filled_one k c.loop-k.invariant there e (such_alone _ c.row_there.result t ∙ ap (◌∷ []) (sym c.single_word.ensures)) c.put_word.ensures

pub returns : goal.returns
returns g c = filled_run (such _) (single_word _) (such_alone _) c.requires.0 c.fitting-most.ensures (omega arith) (omega arith) c.loop-k.invariant
