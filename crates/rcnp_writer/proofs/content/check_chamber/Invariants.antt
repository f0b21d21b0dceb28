-- `content::check_chamber` meets its contract. Assumes nothing.
use Rattle.std.proofs.Common.{◌+◌}
use Rattle.event.specs.Writing.{rows_in}
use Rattle.rcnp_writer.proofs.Contents.{Chamber}
use Rattle.rcnp_writer.proofs.content.check_chamber.Given as goal

abbrev pub invariant-loop-k : goal.invariant-loop-k
invariant-loop-k l = Chamber (rows_in l.rows) l.n l.first l.begun l.k (1 + l.k)
