-- `groups::groups_hold` meets its contract. Assumes nothing.
use native.Mathlib.Omega.{arith}
use borrow.Author.Rules.{rules}
use Rattle.s800_reader.proofs.GroupTurns.{begin, ends_well, going_begin, going_next, going_end}
use Rattle.s800_reader.proofs.groups.groups_hold.Goals as goal

pub returns-then-from-end : goal.returns-then-from-end
returns-then-from-end c = ends_well (begin 0 (search rules)) c.if-from-end.true (λ e. omega arith)

pub loop-i-init : goal.loop-i-init
loop-i-init c = (omega arith, going_begin c.args.samples.words.now c.args.samples.from c.args.samples.end c.args.samples.inside (omega arith) c.word-holds.ensures.0 c.word-holds.ensures.1)

pub loop-i-preserved : goal.loop-i-preserved
loop-i-preserved c =
    let v = c.loop-i.invariant in (
      omega (arith, v.0),
      rw c.follow-holds.ensures
          (going_next c.args.samples.words.now c.args.samples.from c.args.samples.end c.args.samples.inside c.loop-i.holds v.1 (search rules)
          c.word.ensures.0 c.word-in-loop-i.ensures.0 c.word-in-loop-i.ensures.1),
    )

pub returns : goal.returns
returns c = going_end c.args.samples.words.now c.args.samples.from c.args.samples.end c.args.samples.inside c.loop-i.holds c.loop-i.invariant.1 (search rules) c.word-2.ensures.0
