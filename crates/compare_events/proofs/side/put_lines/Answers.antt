-- `side::put_lines` meets its contract. Assumes nothing.
use Prim.Native.Nat.{◌+◌, ◌<◌}
use native.Mathlib.Omega.{arith}
use mathlib.Core.Path.{◌≡◌, sym, ap, ◌∙◌}
use lib.ListN.{length, get_or, take}
use lib.Seq.{take_all}
use Rattle.hex_line.proofs.TextLaws.{placed_then}
use Rattle.compare_events.proofs.Numbers.{numbers_length, number_at}
use Rattle.compare_events.proofs.TextLaws.{tail_most, tails_next}
use Rattle.compare_events.proofs.side.put_lines.Goals as goal

pub loop-i-preserved : goal.loop-i-preserved
loop-i-preserved g c =
    let a = c.args in
    let i = c.loop-i.i in
    let ws = g.W.EventWord.numbers a.tail.now in
    let inside : i < length ws = rw (numbers_length g.met.W.EventWord.each_number a.tail.now) c.loop-i-test.true in
    let word : c.to_number.result ≡ get_or ws i 0 = c.to_number.ensures ∙ ap g.W.Word.number c.index-tail-i.is ∙ sym (number_at g.met.W.EventWord.each_number a.tail.now i c.index-tail-i.result c.loop-i-test.true) in (
      c.put_tail_line-end.auto.text ∙ c.loop-i.invariant.0,
      omega (arith, c.put_tail_line-end.ensures.ends, tail_most a.label.now (a.from + i) c.to_number.result c.requires.0, c.loop-i.invariant.1),
      rw (tails_next a.label.now a.from ws i inside) (placed_then c.loop-i.invariant.2 (rw word at c.put_tail_line-end.ensures)),
    )

pub returns : goal.returns
returns g c =
    let ws = g.W.EventWord.numbers c.args.tail.now in
    let e : take c.loop-i.i ws ≡ ws = take_all c.loop-i.i ws (rw (numbers_length g.met.W.EventWord.each_number c.args.tail.now) c.loop-i-test.false) in
    rw e at c.loop-i.invariant.2
