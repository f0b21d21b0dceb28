-- `side::put_tail` meets its contract. Assumes nothing.
use native.Mathlib.Omega.{arith}
use mathlib.Core.Path.{◌≡◌, sym, ap, ◌∙◌}
use lib.ListN.{length}
use borrow.Author.Tests.{lt-ltb, le-ltb}
use Rattle.comparison.specs.Differences.{tail_of}
use Rattle.compare_events.specs.Text.{tail_text}
use Rattle.compare_events.proofs.Numbers.{numbers_length, numbers_tail}
use Rattle.compare_events.proofs.Sizes.{tail_length_lem}
use Rattle.compare_events.proofs.side.put_tail.Goals as goal

pub put_lines-requires : goal.put_lines-requires
put_lines-requires g c =
    let each = g.met.W.EventWord.each_number in
    let a = g.W.EventWord.numbers c.args.first.now in
    let b = g.W.EventWord.numbers c.args.second.now in
    let e : length c.tail-tail.result.now ≡ length (tail_of a b) = sym (numbers_length each c.tail-tail.result.now) ∙ ap length (ap g.W.EventWord.numbers c.tail-tail.ensures ∙ numbers_tail each c.args.first.now c.args.second.now) in
    (omega arith, omega (arith, e, tail_length_lem a b, numbers_length each c.args.first.now, c.requires), omega (arith, e, c.requires))

pub put_lines-requires-2 : goal.put_lines-requires-2
put_lines-requires-2 g c =
    let each = g.met.W.EventWord.each_number in
    let a = g.W.EventWord.numbers c.args.first.now in
    let b = g.W.EventWord.numbers c.args.second.now in
    let e : length c.tail-tail.result.now ≡ length (tail_of a b) = sym (numbers_length each c.tail-tail.result.now) ∙ ap length (ap g.W.EventWord.numbers c.tail-tail.ensures ∙ numbers_tail each c.args.first.now c.args.second.now) in
    (omega arith, omega (arith, e, tail_length_lem a b, numbers_length each c.args.second.now, c.requires), omega (arith, e, c.requires))

pub returns-then-first-second : goal.returns-then-first-second
unfolding tail_text
returns-then-first-second g c =
    let each = g.met.W.EventWord.each_number in
    let first = c.args.first.now in
    let second = c.args.second.now in
    let e = ap g.W.EventWord.numbers c.tail-tail.ensures ∙ numbers_tail each first second in
    rw (← e, numbers_length each first, numbers_length each second, lt-ltb (length first) (length second) c.if-first-second.true) c.put_lines.ensures

pub returns : goal.returns
unfolding tail_text
returns g c =
    let each = g.met.W.EventWord.each_number in
    let first = c.args.first.now in
    let second = c.args.second.now in
    let e = ap g.W.EventWord.numbers c.tail-tail.ensures ∙ numbers_tail each first second in
    rw (← e, numbers_length each first, numbers_length each second, le-ltb (length first) (length second) c.if-first-second.false) c.put_lines-2.ensures
