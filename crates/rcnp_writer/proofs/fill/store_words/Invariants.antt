-- `fill::store_words` meets its contract. Assumes nothing.
use Rattle.std.proofs.Common.{◌+◌}
use Rattle.event.specs.Writing.{rows_in}
use Rattle.rcnp_writer.specs.Parts.{Filled}
use Rattle.rcnp_writer.proofs.fill.store_words.Given as goal

-- the words of k rows are stored, no more than fit
abbrev pub invariant-loop-k : goal.invariant-loop-k
invariant-loop-k g l = Filled (rows_in l.rows) l.first (l.first + l.k) l.at (l.at + l.k) l.initial.words l.words
