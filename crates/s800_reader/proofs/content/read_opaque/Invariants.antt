-- `content::read_opaque` meets its contract. Assumes nothing.
use Prim.Native.Nat.{◌+◌}
use Rattle.s800_reader.proofs.Runs.{Opaques}
use Rattle.s800_reader.proofs.content.read_opaque.Given as goal

abbrev pub invariant-loop-k : goal.invariant-loop-k
invariant-loop-k l =
    Opaques l.packet.words.now (l.packet.start + l.packet.size) (l.packet.start + 2) (l.packet.count + 1) l.initial.rows (l.packet.start + l.k) l.count l.rows
