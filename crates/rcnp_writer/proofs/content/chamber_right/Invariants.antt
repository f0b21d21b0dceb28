-- `content::chamber_right` meets its contract. Assumes nothing.
use Rattle.std.proofs.Common.{◌≡◌, true, ltb}
use Rattle.event.specs.Writing.{rows_in}
use Rattle.rcnp_writer.specs.Faults.{last_kind}
use Rattle.rcnp_writer.proofs.Contents.{RightTo}
use Rattle.rcnp_writer.proofs.content.chamber_right.Given as goal

-- k rows were judged
abbrev pub invariant-loop-k : goal.invariant-loop-k
invariant-loop-k l = (l.most ≡ last_kind (ltb 0 l.k)) × (l.right ≡ true → RightTo (rows_in l.rows) l.first l.k)
