-- `store_words` meets its contract. Assumes nothing.
use mathlib.Core.Path.{◌≡◌}
use lib.ListN.{length}
use Rattle.host.proofs.Words.{StoredTo}
use Rattle.host.proofs.store_words.Given as goal

abbrev pub invariant-loop-i : goal.invariant-loop-i
invariant-loop-i l = (length l.words ≡ length l.initial.words) × StoredTo l.bytes l.initial.words l.i l.words
