-- `text::put_words` meets its contract. Assumes nothing.
use mathlib.Core.Path.{◌≡◌, refl}
use Rattle.event.specs.Words.{word_alone}
use Rattle.compare_events.specs.Lengths.{word_length}
use Rattle.compare_events.specs.Text.{word_text}
use Rattle.compare_events.proofs.Lists.{Putting}
use Rattle.compare_events.proofs.text.put_words.Given as goal

abbrev pub invariant-loop-entry : goal.invariant-loop-entry
invariant-loop-entry l =
    (l.entry-iterator.size ≡ 3) × Putting word_alone 3 (λ d. refl) word_text word_length l.list l.initial.text l.at l.text l.end l.entry-iterator.rest.now
