-- `all_short` meets its contract. Assumes nothing.
use Prim.Native.Nat.{ℕ}
use mathlib.Core.Path.{◌≡◌, sym, ap, ◌∙◌}
use native.Mathlib.Omega.{arith}
use lib.ListN.{get_or, drop_of_length-le}
use Rattle.page_layout.specs.Plane.{table}
use Rattle.page_layout.specs.Page.{length_of, all_up_to}
use Rattle.page_layout.proofs.Tables.{table_length, table_at, up_to_keep, up_to_fails}
use Rattle.page.proofs.slots.all_short.Goals as goal

pub returns-then-page-slot-gt-WORDS : goal.returns-then-page-slot-gt-WORDS
returns-then-page-slot-gt-WORDS c =
    let p = c.args.page.now in
    let k = c.loop-k.k in
    let n = table_length p.count (length_of p) in
    let e = table_at p.count (length_of p) k 0 c.loop-k-test.true in
    let g : get_or p.lengths c.slot.result 0 ≡ length_of p k = ap (λ (s : ℕ). get_or p.lengths s 0) c.slot.ensures in
    sym (up_to_fails 1024 (table p.count (length_of p)) k (omega arith) (omega (arith, g, c.if-page-slot-gt-WORDS.true))) ∙ c.loop-k.invariant

pub loop-k-preserved : goal.loop-k-preserved
loop-k-preserved c =
    let p = c.args.page.now in
    let k = c.loop-k.k in
    let n = table_length p.count (length_of p) in
    let e = table_at p.count (length_of p) k 0 c.loop-k-test.true in
    let g : get_or p.lengths c.slot.result 0 ≡ length_of p k = ap (λ (s : ℕ). get_or p.lengths s 0) c.slot.ensures in
    up_to_keep 1024 (table p.count (length_of p)) k (omega arith) (omega (arith, g, c.if-page-slot-gt-WORDS.false)) ∙ c.loop-k.invariant

pub returns : goal.returns
unfolding all_up_to
returns c =
    let p = c.args.page.now in
    let n = table_length p.count (length_of p) in
    let e = drop_of_length-le (table p.count (length_of p)) {i = c.loop-k.k} (omega arith) in
    rw e at c.loop-k.invariant
