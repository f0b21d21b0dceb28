-- `module::write_values` meets its contract. Assumes nothing.
use Rattle.event.specs.Writing.{rows_in}
use Rattle.frs_writer.proofs.Values.{Values}
use Rattle.frs_writer.proofs.module.write_values.Given as goal

abbrev pub invariant-loop-k : goal.invariant-loop-k
invariant-loop-k l = Values l.geo (rows_in l.rows) l.n l.seen l.first l.initial.words l.k l.words
