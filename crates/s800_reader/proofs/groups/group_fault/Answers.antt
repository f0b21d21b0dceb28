-- `groups::group_fault` meets its contract. Assumes nothing.
use native.Mathlib.Omega.{arith}
use mathlib.Core.Path.{sym, ◌∙◌}
use borrow.Author.Rules.{rules}
use Rattle.s800_reader.proofs.GroupTurns.{begin, head_moved, head_kept, datum_breaks, head_breaks, head_last}
use Rattle.s800_reader.proofs.groups.group_fault.Goals as goal
use Rattle.s800_reader.proofs.groups.group_fault.Goals.{then-w-ge32768, else-w-ge32768}

pub loop-i-init : goal.loop-i-init
loop-i-init c = begin c.args.samples.from (search rules)

pub loop-i-preserved : goal.loop-i-preserved
loop-i-preserved c =
    let w = c.word-w.ensures in
    let l = c.loop-i in
    let good = sym c.follow.ensures ∙ c.if-not-follow.false in
    elim c.if-w-ge32768.branch [
      | then-w-ge32768 t ↦ head_moved l.before l.invariant (search rules) c.args.samples.inside w.0 w.1 good t.if-w-ge32768.true t.head-is
      | else-w-ge32768 t ↦ head_kept l.before l.invariant (search rules) c.args.samples.inside w.0 w.1 good t.if-w-ge32768.false t.head-is
    ]

pub returns-then-w-lt32768 : goal.returns-then-w-lt32768
returns-then-w-lt32768 c =
    let w = c.word-w.ensures in
    let l = c.loop-i in
    datum_breaks l.before l.invariant (search rules) c.args.samples.inside w.0 w.1 (sym c.follow.ensures ∙ c.if-not-follow.true) c.if-w-lt32768.true

pub returns-then-not-follow : goal.returns-then-not-follow
returns-then-not-follow c =
    let w = c.word-w.ensures in
    let l = c.loop-i in
    head_breaks l.before l.invariant (search rules) c.args.samples.inside w.0 w.1 (sym c.follow.ensures ∙ c.if-not-follow.true) c.if-w-lt32768.false

pub returns : goal.returns
returns c = head_last c.loop-i.invariant (omega (arith, c.loop-i.invariant.inside)) c.requires
