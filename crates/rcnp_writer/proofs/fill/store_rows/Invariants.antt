-- `fill::store_rows` meets its contract. Assumes nothing.
use Rattle.event.specs.Writing.{rows_in}
use Rattle.rcnp_writer.specs.Parts.{Filled}
use Rattle.rcnp_writer.proofs.fill.store_rows.Given as goal

abbrev pub invariant-loop-i : goal.invariant-loop-i
invariant-loop-i l = Filled (rows_in l.rows) l.first l.i l.at l.count l.initial.words l.words
