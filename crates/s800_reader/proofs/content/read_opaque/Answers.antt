-- `content::read_opaque` meets its contract. Assumes nothing.
use Prim.Native.Nat.{◌+◌}
use native.Mathlib.Omega.{arith}
use mathlib.Core.Path.{◌≡◌}
use borrow.Author.Rules.{rules}
use Rattle.event.proofs.Turns.{begin, finish}
use Rattle.s800_reader.proofs.Runs.{opaque_step}
use Rattle.s800_reader.proofs.content.read_opaque.Goals as goal

pub loop-k-init : goal.loop-k-init
loop-k-init c = begin tt (omega (arith, c.args.packet.two)) (omega (arith, c.args.packet.few))

pub loop-k-preserved : goal.loop-k-preserved
loop-k-preserved c =
    let w = c.word in
    let at : c.args.packet.start + (c.loop-k.k + 1) ≡ c.args.packet.start + c.loop-k.k + 1 = omega arith in
    rw at (opaque_step c.loop-k.invariant (search rules) (search rules) w.ensures.0 w.ensures.1 c.store_row.ensures c.store_row.auto.rows)

pub returns : goal.returns
returns c =
    let end : c.loop-k.k ≡ c.args.packet.size = search rules in
    let h = rw end at c.loop-k.invariant in
    (omega (arith, h.few), finish h (omega arith))
