-- `module::check_values` meets its contract. Assumes nothing.
use Rattle.frs_reader.proofs.Values.{ValuesTo}
use Rattle.frs_reader.proofs.module.check_values.Given as goal

abbrev pub invariant-loop-at : goal.invariant-loop-at
invariant-loop-at l = ValuesTo l.geo l.channels l.words l.first l.end l.at
