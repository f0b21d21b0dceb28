-- `words::fill` meets its contract. Assumes nothing.
use mathlib.Core.List.{map}
use lib.Dec.{eqb}
use Rattle.event.specs.Words.{word_alone}
use Rattle.comparison.specs.Comparing.{differing_words}
use Rattle.comparison.specs.Differences.{differences_from}
use Rattle.compare.proofs.Loops.{Filling}
use Rattle.compare.proofs.words.fill.Given as goal

abbrev pub invariant-loop-i : goal.invariant-loop-i
invariant-loop-i g l =
    let numbers = map g.W.Word.number in
    let pairs = l.i-iterator.iter in
    Filling word_alone 3 (differing_words (g.W.EventWord.numbers l.first) (g.W.EventWord.numbers l.second)) l.initial.list
    (differences_from eqb l.i-iterator.count (numbers pairs.a.rest.now) (numbers pairs.b.rest.now)) l.found l.list
