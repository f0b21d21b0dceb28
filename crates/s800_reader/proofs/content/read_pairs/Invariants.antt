-- `content::read_pairs` meets its contract. Assumes nothing.
use Prim.Native.Nat.{◌+◌, ◌*◌, ◌-◌}
use Rattle.s800_reader.proofs.Runs.{Pairs}
use Rattle.s800_reader.proofs.content.read_pairs.Given as goal

abbrev pub invariant-loop-pair : goal.invariant-loop-pair
invariant-loop-pair l =
    Pairs l.blocked l.packet.words.now (l.packet.start + l.packet.size) (l.packet.start + 2) (l.packet.count + 1) l.initial.rows
    (l.packet.start + 2 * l.pair) (l.packet.count + 2 * l.pair - 1) l.rows
