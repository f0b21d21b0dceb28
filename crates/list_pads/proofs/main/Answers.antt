-- `main` meets its contract. Assumes nothing.
use mathlib.Core.Path.{sym}
use Rattle.list_pads.proofs.PadLaws.{pads_length}
use Rattle.list_pads.proofs.main.Goals as goal

pub put_pads-requires : goal.put_pads-requires
put_pads-requires c = sym pads_length
