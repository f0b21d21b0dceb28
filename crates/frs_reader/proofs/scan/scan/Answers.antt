-- `scan::scan` meets its contract. Assumes nothing.
use Rattle.frs_reader.proofs.Begun.{whole_event}
use Rattle.frs_reader.proofs.scan.scan.Goals as goal

pub returns : goal.returns
returns c = whole_event c.in_ok-begun.ensures c.modules.ensures
