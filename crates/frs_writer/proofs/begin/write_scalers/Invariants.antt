-- `begin::write_scalers` meets its contract. Assumes nothing.
use Rattle.event.specs.Writing.{rows_in}
use Rattle.frs_writer.proofs.Scalers.{Scalers}
use Rattle.frs_writer.proofs.begin.write_scalers.Given as goal

abbrev pub invariant-loop-index : goal.invariant-loop-index
invariant-loop-index l = Scalers (rows_in l.rows) l.n l.initial.words l.index l.words
