-- `rows::count` meets its contract. Assumes nothing.
use mathlib.Core.Path.{refl, sym, ◌∙◌}
use Prim.Native.Nat.{min}
use lib.ListN.{length}
use native.Mathlib.Omega.{arith}
use Rattle.std.proofs.Common.{rules}
use Rattle.std.proofs.lemmas.Iterator.{YieldsList-from_range}
use Rattle.std.proofs.lemmas.Iterator.Consumers.{count_from_yields_List, YieldsList-from_filter, YieldsList-at}
use Rattle.event.specs.Writing.{rows_in, is_same_row, no_row}
use Rattle.event.proofs.RowsIn.{rows_count}
use Rattle.compare.proofs.Loops.{apart_at, counted_at}
use Rattle.compare.proofs.rows.count.Goals as goal

pub returns : goal.returns
returns c =
    let a = rows_in c.args.first.now in
    let b = rows_in c.args.second.now in
    count_from_yields_List _ _ c.count.ensures.ran
    (YieldsList-from_filter _ (apart_at is_same_row a b no_row) (YieldsList-at c.filter.ensures.source (YieldsList-from_range 0 _ (min (length a) (length b)) refl (rw (rows_count, rows_count) (omega (arith, c.min-shared.ensures))))) c.filter.ensures.closure (λ x r q k. search rules)) ∙ sym (counted_at is_same_row a b no_row (min (length a) (length b)) 0 (omega arith))
