-- `check` meets its contract. Assumes nothing.
use Rattle.s800_layout.specs.Layout.{rows}
use Rattle.s800_reader.proofs.Reading.{answered_scan}
use Rattle.s800_reader.proofs.check.Goals as goal

pub returns : goal.returns
returns c = answered_scan (rows c.args.order) _ c.scan.ensures
