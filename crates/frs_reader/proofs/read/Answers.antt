-- `read` meets its contract. Assumes nothing.
use native.Mathlib.Omega.{arith}
use Rattle.event.proofs.Stores.{read_fits}
use Rattle.frs_layout.specs.Layout.{rows}
use Rattle.frs_reader.proofs.read.Goals as goal

pub returns-clause-buffer : goal.returns-clause-buffer
returns-clause-buffer c = (read_fits rows c.args.rows.now _ c.in_ok-count.ensures (omega (arith, c.if-rows-count.false)) c.scan-2.ensures).written
