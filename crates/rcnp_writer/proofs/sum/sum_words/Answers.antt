-- `sum::sum_words` meets its contract. Assumes nothing.
use Rattle.std.proofs.Common.{◌≡◌, ◌+◌, ◌<◌, [], ◌∷◌, length, sym, refl, ap, ◌∙◌, arith}
use Rattle.event.specs.Writing.{rows_in}
use Rattle.rcnp_writer.proofs.Filled.{such_alone}
use Rattle.rcnp_writer.proofs.RowTotals.{wrapped_32, summed_one}
use Rattle.rcnp_writer.proofs.sum.sum_words.Goals as goal

pub loop-k-preserved : goal.loop-k-preserved
loop-k-preserved g c =
    let k = c.loop-k.k in
    let there : c.args.first + k < length (rows_in c.args.rows.now) = omega (arith, c.loop-k-test.true, c.requires.inside) in
    let e = c.row_there.ensures in
    let t = rw (← e) at (c.requires.each k c.loop-k-test.true) in
    summed_one k c.loop-k.invariant there e (such_alone _ c.row_there.result t ∙ ap (◌∷ []) (sym c.single_word-word.ensures)) (wrapped_32 c.loop-k.sum c.single_word-word.result refl refl)

pub returns : goal.returns
returns g c = let all : c.loop-k.k ≡ c.args.n = omega arith in rw all at c.loop-k.invariant
