-- `groups::read_samples` meets its contract. Assumes nothing.
use Prim.Native.Nat.{◌+◌, ◌-◌}
use native.Mathlib.Omega.{arith}
use mathlib.Core.Path.{subst}
use Rattle.s800_reader.specs.Groups.{Judged}
use Rattle.s800_reader.proofs.GroupRows.{samples_refused}
use Rattle.s800_reader.proofs.groups.read_samples.Goals as goal

pub returns-then-groups_hold : goal.returns-then-groups_hold
returns-then-groups_hold c =
    let p = c.args.packet in
    let holds = subst (Judged p.words.now (p.start + 6) (p.start + p.size - 4)) c.if-groups_hold.true c.groups_hold.ensures in
    (rw c.store_groups.ensures (holds (p.count + 2) c.args.rows.now), omega (arith, c.requires, p.few))

pub group_fault-requires : goal.group_fault-requires
group_fault-requires c =
    let p = c.args.packet in
    subst (Judged p.words.now (p.start + 6) (p.start + p.size - 4)) c.if-groups_hold.false c.groups_hold.ensures

pub returns : goal.returns
returns c = samples_refused _ _ _ c.group_fault.ensures c.refuse.ensures
