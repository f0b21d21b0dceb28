-- `put` meets its contract. Assumes nothing.
use Prim.Native.Nat.{◌+◌}
use native.Mathlib.Numerals.{add-one}
use native.Mathlib.Omega.{arith}
use mathlib.Core.Path.{◌≡◌, refl, sym, ap, ◌∙◌}
use lib.ListN.{length, get_or, set, length-set}
use lib.Seq.{paste, paste-suc, take-length}
use borrow.Author.Tests.{le-leb, lt-leb}
use Rattle.page_calls.specs.Calls.{all_put}
use Rattle.page_calls.proofs.numbers.put.Goals as goal

pub loop-i-preserved : goal.loop-i-preserved
loop-i-preserved g c =
    let i = c.loop-i.i in
    let item = c.index-items-i.result in
    let here : 0 + i ≡ i = omega arith in
    let next = paste-suc c.args.buffer.now 0 c.args.items.now i item (omega (arith, c.if-count-buffer.true, c.loop-i-test.true)) c.loop-i-test.true in (
      simp length-set c.loop-i.invariant.0,
      ap (λ b. set b i item) c.loop-i.invariant.1 ∙ ap (set _ i) c.index-items-i.is
          ∙ rw (add-one i) (ap (λ k. set (paste c.args.buffer.now 0 c.args.items.now i) k (get_or c.args.items.now i item)) (sym here) ∙ next),
    )

pub returns-after-loop-i : goal.returns-after-loop-i
unfolding all_put
returns-after-loop-i g c =
    let n = length c.args.items.now in
    let e : c.loop-i.i ≡ n = omega (arith, c.loop-i-test.false, c.loop-i.auto.i-end) in
    let here : 0 + n ≡ n = omega arith in
    c.loop-i.invariant.1 ∙ rw (e, le-leb _ _ c.if-count-buffer.true, take-length c.args.items.now, here) refl

pub returns-else-count-buffer : goal.returns-else-count-buffer
unfolding all_put
returns-else-count-buffer g c = rw (lt-leb _ _ c.if-count-buffer.false)
