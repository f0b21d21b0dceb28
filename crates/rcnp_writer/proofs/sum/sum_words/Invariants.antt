-- `sum::sum_words` meets its contract. Assumes nothing.
use Rattle.std.proofs.Common.{◌+◌}
use Rattle.event.specs.Writing.{rows_in}
use Rattle.rcnp_writer.specs.Parts.{Summed}
use Rattle.rcnp_writer.proofs.sum.sum_words.Given as goal

abbrev pub invariant-loop-k : goal.invariant-loop-k
invariant-loop-k g l = Summed (rows_in l.rows) l.first (l.first + l.k) l.sum
