-- `longword::store_four` meets its contract. Assumes nothing.
use mathlib.Core.Path.{◌≡◌}
use lib.ListN.{drop}
use Rattle.event.specs.Scanning.{store_words}
use Rattle.frs_writer.proofs.longword.store_four.Given as goal

abbrev pub invariant-loop-i : goal.invariant-loop-i
invariant-loop-i l = store_words 32 l.words l.i (drop l.i l.w-items) ≡ store_words 32 l.initial.words 0 l.w-items
