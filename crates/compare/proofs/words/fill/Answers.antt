-- `words::fill` meets its contract. Assumes nothing.
use native.Mathlib.Omega.{arith}
use mathlib.Core.Path.{refl, sym, ◌∙◌}
use lib.Dec.{eqb}
use Rattle.std.specs.Prelude.{None}
use Rattle.std.proofs.lemmas.Slice.Zip.{either_empty_from_Zip}
use Rattle.compare.proofs.Loops.{next_apart, next_same, no_pair, fill_room, fill_more, fill_done}
use Rattle.compare.proofs.words.fill.Goals as goal

pub put_words-requires : goal.put_words-requires
put_words-requires g c =
    let s = c.in-Some.ensures.steps in
    let next = next_apart eqb g.W.Word.number s.0.0 s.0.1 s.1 s.2 (sym c.differ.ensures ∙ c.if-differ.true) in
    omega (arith, fill_room (rw next at c.loop-i.invariant), c.loop-i.invariant.size, c.requires)

pub loop-i-preserved-then-differ : goal.loop-i-preserved-then-differ
loop-i-preserved-then-differ g c =
    let s = c.in-Some.ensures.steps in
    let next = next_apart eqb g.W.Word.number s.0.0 s.0.1 s.1 s.2 (sym c.differ.ensures ∙ c.if-differ.true) in
    fill_more (rw next at c.loop-i.invariant) refl (omega arith) (rw (c.to_number.ensures, c.to_number-then-differ.ensures) at c.put_words.ensures)

pub loop-i-preserved : goal.loop-i-preserved
loop-i-preserved g c =
    let s = c.in-Some.ensures.steps in
    let next = next_same eqb g.W.Word.number s.0.0 s.0.1 s.1 s.2 (sym c.differ.ensures ∙ c.if-differ.false) in
    rw next at c.loop-i.invariant

pub returns : goal.returns
returns g c =
    let pairs = c.loop-i.i-iterator.iter in
    let end = no_pair eqb g.W.Word.number c.loop-i.i-iterator.count pairs.a.rest.now pairs.b.rest.now (either_empty_from_Zip pairs c.next.new.self.iter None refl c.in-None.ensures.steps.0) in
    fill_done (rw end at c.loop-i.invariant) (λ d. refl) c.requires
