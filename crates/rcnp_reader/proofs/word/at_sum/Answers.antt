-- `word::at_sum` meets its contract. Assumes nothing.
use mathlib.Core.Path.{sym, ◌∙◌}
use Rattle.rcnp_reader.proofs.Headers.{sum_at_end, sum_at_word}
use Rattle.rcnp_reader.proofs.word.at_sum.Goals as goal

pub returns-then-words-at : goal.returns-then-words-at
returns-then-words-at c = sum_at_end _ _ c.if-words-at.true

pub returns : goal.returns
returns c = sym (sum_at_word _ _ c.if-words-at.false ∙ rw (← c.word.ensures.0))
