-- `words::store_word` meets its contract. Assumes nothing.
use mathlib.Core.Path.{ap, sym}
use lib.ListN.{set}
use lib.Seq.{set_out}
use Rattle.event.specs.Words.{store_of}
use Rattle.event.proofs.words.store_word.Goals as goal

pub returns-then-at-words : goal.returns-then-at-words
unfolding store_of
returns-then-at-words g c = ap (set c.args.words.now c.args.at) c.of_low_bits.ensures

pub returns-else-at-words : goal.returns-else-at-words
unfolding store_of
returns-else-at-words g c = sym (set_out _ _ _ c.if-at-words.false)
