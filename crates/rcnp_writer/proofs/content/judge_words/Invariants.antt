-- `content::judge_words` meets its contract. Assumes nothing.
use Rattle.std.proofs.Common.{◌+◌}
use Rattle.event.specs.Writing.{rows_in}
use Rattle.rcnp_writer.proofs.Contents.{Words}
use Rattle.rcnp_writer.proofs.content.judge_words.Given as goal

abbrev pub invariant-loop-k : goal.invariant-loop-k
invariant-loop-k l = Words (rows_in l.rows) l.n l.first l.k (1 + l.k)
