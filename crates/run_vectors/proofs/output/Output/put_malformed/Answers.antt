-- `output::Output::put_malformed` meets its contract. Assumes nothing.
use native.Mathlib.Omega.{arith}
use Rattle.hex_line.proofs.TextLaws.{placed}
use Rattle.run_vectors.proofs.output.Output.put_malformed.Goals as goal

pub invariant_of-self : goal.invariant_of-self
invariant_of-self c =
    let p = placed (c.put_text-self.ensures.end, c.put_text-self.ensures.buffer) (omega (arith, c.make_room.ensures)) in
    record { pending = (omega (arith, p.ends, c.put_text-self.auto.buffer, c.make_room.ensures), omega (arith, c.put_text-self.auto.buffer, c.make_room.ensures)) }
