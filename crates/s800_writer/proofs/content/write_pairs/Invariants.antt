-- `content::write_pairs` meets its contract. Assumes nothing.
use Prim.Native.Nat.{◌-◌}
use mathlib.Core.Path.{◌≡◌}
use lib.ListN.{length}
use Rattle.event.specs.Writing.{rows_in}
use Rattle.s800_format.proofs.Formats.{pair_format}
use Rattle.s800_writer.proofs.Pairs.{Pairs}
use Rattle.s800_writer.proofs.content.write_pairs.Given as goal

abbrev pub invariant-loop-format : goal.invariant-loop-format
invariant-loop-format l = Pairs l.blocked (rows_in l.run.rows.now) l.run.from l.run.first l.initial.words l.i l.at l.words × (l.format ≡ pair_format)

abbrev pub decreases-loop-format : goal.decreases-loop-format
decreases-loop-format l = length (rows_in l.run.rows.now) - l.i
