-- `content::scalers` meets its contract. Assumes nothing.
use Rattle.rcnp_reader.proofs.ScalerWords.{ScalersTo}
use Rattle.rcnp_reader.proofs.content.scalers.Given as goal

abbrev pub invariant-loop-index : goal.invariant-loop-index
invariant-loop-index l = ScalersTo l.words l.end l.first l.at l.initial.rows l.index l.rows
