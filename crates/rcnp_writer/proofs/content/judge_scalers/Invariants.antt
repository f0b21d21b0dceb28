-- `content::judge_scalers` meets its contract. Assumes nothing.
use Rattle.std.proofs.Common.{◌+◌, ◌*◌}
use Rattle.event.specs.Writing.{rows_in}
use Rattle.rcnp_writer.proofs.Contents.{Scalers}
use Rattle.rcnp_writer.proofs.content.judge_scalers.Given as goal

abbrev pub invariant-loop-index : goal.invariant-loop-index
invariant-loop-index l = Scalers (rows_in l.rows) l.n l.first l.index (1 + 2 * l.index)
