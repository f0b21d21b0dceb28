-- `begin::begin` meets its contract. Assumes nothing.
use Rattle.frs_reader.proofs.Begun.{begins}
use Rattle.frs_reader.proofs.begin.begin.Goals as goal

pub returns : goal.returns
returns c = begins _ c.if-words-lt-SMALLEST_EVENT.false c.if-words-gt-LARGEST_EVENT.false c.in_ok-stamp.ensures c.in_ok-scaled.ensures c.pattern_unit.ensures _ c.store_row.ensures
