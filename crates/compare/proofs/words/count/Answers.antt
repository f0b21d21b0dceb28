-- `words::count` meets its contract. Assumes nothing.
use Rattle.std.proofs.Common.{rules, ◌∙◌, sym, eqb}
use Rattle.std.proofs.lemmas.Iterator.{YieldsList-from_slice, YieldsList-from_zip}
use Rattle.std.proofs.lemmas.Iterator.Consumers.{count_from_yields_List, YieldsList-from_filter}
use Rattle.compare.proofs.Loops.{apart, counted}
use Rattle.compare.proofs.words.count.Goals as goal

pub returns : goal.returns
returns g c =
    let n = g.W.Word.number in
    let counts = count_from_yields_List _ _ c.count.ensures.ran
    (YieldsList-from_filter _ (apart eqb n) (YieldsList-from_zip (YieldsList-from_slice c.args.first.now (cc)) (YieldsList-from_slice c.args.second.now (cc))) c.filter.ensures.closure (λ x r q k. search rules)) in
    rw (g.met.W.EventWord.each_number, g.met.W.EventWord.each_number) (counts ∙ sym (counted eqb n c.args.first.now c.args.second.now 0))
