-- `put_page` meets its contract. Assumes nothing.
use Prim.Native.Nat.{ℕ}
use native.Mathlib.Omega.{arith}
use lib.ListN.{get_or, length-set}
use Rattle.page_layout.proofs.Tables.{table_length, table_at}
use Rattle.page_calls.proofs.Copies.{one_more, two_then, none_put}
use Rattle.page_calls.proofs.numbers.put_page.Goals as goal

pub returns-then-numbers : goal.returns-then-numbers
returns-then-numbers c = none_put _ _ (omega (arith, table_length 64 (λ (k : ℕ). get_or c.args.page.now.lengths k 0), c.if-numbers.true))

pub loop-k-preserved : goal.loop-k-preserved
loop-k-preserved c =
    let lengths = c.args.page.now.lengths in
    let n = table_length 64 (λ (k : ℕ). get_or lengths k 0) in
    let e = table_at 64 (λ (k : ℕ). get_or lengths k 0) c.loop-k.k 0 c.loop-k-test.true in
    rw e at (one_more _ _ 2 c.loop-k.k c.loop-k.numbers (omega (arith, n, c.loop-k-test.true)) (simp length-set (omega (arith, n))) c.loop-k.invariant)

pub returns : goal.returns
returns c =
    let n = table_length 64 (λ (k : ℕ). get_or c.args.page.now.lengths k 0) in
    two_then _ _ _ _ c.loop-k.k c.loop-k.numbers (omega (arith, n, c.loop-k-test.false, c.loop-k.auto.k-end)) (omega (arith, n)) c.loop-k.invariant
