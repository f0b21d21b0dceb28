-- `input::count_feeds` meets its contract. Assumes nothing.
use mathlib.Core.Path.{sym, ◌∙◌}
use native.Mathlib.Omega.{arith}
use lib.Dec.{eqb}
use Rattle.std.proofs.Common.{rules, tests}
use Rattle.std.proofs.lemmas.Iterator.{YieldsList-from_slice}
use Rattle.std.proofs.lemmas.Iterator.Consumers.{count_from_yields_List, YieldsList-from_filter}
use Rattle.compare_events.proofs.Feeds.{feeds_counted, feeds_few}
use Rattle.compare_events.proofs.input.count_feeds.Goals as goal

pub returns : goal.returns
returns c =
    let counts = count_from_yields_List _ _ c.count.ensures.ran
    (YieldsList-from_filter _ (λ x. eqb x 10) (YieldsList-from_slice c.args.part.now (cc)) c.filter.ensures.closure (λ x r q k. search (rules, tests))) in
    let e = counts ∙ sym (feeds_counted c.args.part.now) in
    (e, omega (arith, e, feeds_few c.args.part.now))
