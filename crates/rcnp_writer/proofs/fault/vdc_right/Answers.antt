-- `fault::vdc_right` meets its contract. Assumes nothing.
use Rattle.std.proofs.Common.{refl}
use Rattle.rcnp_writer.proofs.RowRules.{vdc_right}
use Rattle.rcnp_writer.proofs.fault.vdc_right.Goals as goal

pub returns : goal.returns
returns c = vdc_right c.args.row c.pick.ensures c.pick-2.ensures c.pick-3.ensures c.args.most refl
