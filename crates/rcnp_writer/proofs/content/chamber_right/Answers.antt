-- `content::chamber_right` meets its contract. Assumes nothing.
use Rattle.std.proofs.Common.{◌≡◌, ℕ, ◌+◌, ◌≤◌, true, ◌&&◌, ltb, length, arith, lt-ltb}
use Rattle.event.specs.Writing.{rows_in}
use Rattle.event.proofs.Impossible.{impossible}
use Rattle.event.proofs.RowsIn.{rows_count}
use Rattle.rcnp_writer.specs.Faults.{last_kind}
use Rattle.rcnp_writer.proofs.Contents.{RightTo, right_next}
use Rattle.rcnp_writer.proofs.content.chamber_right.Goals as goal

later : (k most : ℕ) → most ≡ last_kind true → most ≡ last_kind (ltb 0 (k + 1))
later k most e = rw (lt-ltb 0 (k + 1) (omega arith)) e

pub returns-then-rows-first : goal.returns-then-rows-first
returns-then-rows-first c e = impossible cc

pub loop-k-preserved : goal.loop-k-preserved
loop-k-preserved c =
    let next_right : c.loop-k.right && c.vdc_right-right.result ≡ true → RightTo (rows_in c.args.rows.now) c.args.first (c.loop-k.k + 1) =
    right_next (rows_in c.args.rows.now) c.args.first c.loop-k.k c.loop-k.right c.vdc_right-right.result
    c.loop-k.invariant.1 c.loop-k.invariant.0 c.row_there.ensures c.vdc_right-right.ensures in
    let l = c.loop-k in
    (later l.k _ c.last_kind-most-in-loop-k.ensures, next_right)

pub returns : goal.returns
returns c t =
    let inside : c.args.first + c.args.n ≤ length (rows_in c.args.rows.now) = omega (arith, c.requires, c.if-rows-first.false, rows_count c.args.rows.now) in
    let done = c.loop-k-test.false in
    record { inside = inside; each = λ k h. c.loop-k.invariant.1 t k (omega arith) }
