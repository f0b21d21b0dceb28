-- `begin::store_scalers` meets its contract. Assumes nothing.
use Rattle.frs_reader.proofs.Beginning.{Scalers}
use Rattle.frs_reader.proofs.begin.store_scalers.Given as goal

abbrev pub invariant-loop-i : goal.invariant-loop-i
invariant-loop-i l = Scalers l.scalers l.initial.rows l.rows l.i
