-- `whole_packets::read_anode` meets its contract. Assumes nothing.
use Prim.Native.Nat.{◌+◌, ◌-◌}
use native.Mathlib.Omega.{arith}
use mathlib.Core.Path.{◌≡◌, ◌∙◌}
use Rattle.s800_reader.proofs.PacketsReadWhole.{anode_tag_lem}
use Rattle.s800_reader.proofs.whole_packets.read_anode.Goals as goal

pub returns-then-word : goal.returns-then-word
returns-then-word c =
    let p = c.args.packet in
    let end : p.start + p.size - 4 + 4 ≡ p.start + p.size = omega (arith, c.requires) in
    let first : p.start + (p.size - 4) ≡ p.start + p.size - 4 = omega (arith, c.requires) in
    let second : p.start + (p.size - 4 + 1) ≡ p.start + p.size - 4 + 1 = omega (arith, c.requires) in
    rw end at (anode_tag_lem p.words.now (p.start + p.size - 4) c.args.count c.args.rows.now (omega (arith, p.inside, c.requires)) (c.word.ensures.0 ∙ rw first) c.if-word-ne4.false
    (c.word-2.ensures.0 ∙ rw second) c.args.rows.now c.if-word.true (c.refuse-then-word.ensures ∙ rw first))
