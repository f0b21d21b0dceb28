-- `input::first_line` meets its contract. Assumes nothing.
use mathlib.Core.Path.{refl, ◌∙◌}
use Rattle.std.proofs.Common.{rules, tests}
use lib.Dec.{eqb}
use Prim.Native.Nat.{ℕ}
use Rattle.std.proofs.lemmas.Iterator.{YieldsList-from_slice}
use Rattle.std.proofs.lemmas.Iterator.Search.{position_from_yields_List}
use Rattle.listing.proofs.InputLaws.{found_line}
use Rattle.listing.proofs.input.first_line.Goals as goal

pub returns : goal.returns
returns c =
    let it = YieldsList-from_slice c.iter.result.rest.now refl in
    let p = position_from_yields_List (λ (x : ℕ). eqb x 10) _ _ c.position-feed.result c.position-feed.ensures.ran it (λ x b q k. search (rules, tests)) in
    c.unwrap_or.ensures ∙ found_line c.args.rest.now (rw c.iter.ensures.rest at p)
