-- `whole_packets::read_crdc` meets its contract. Assumes nothing.
use mathlib.Core.Path.{refl, ap}
use Rattle.std.proofs.lemmas.Result.{err_from_is_err_and}
use Rattle.std.specs.Prelude.{Ok}
use Rattle.s800_reader.proofs.PacketsReadWhole.{crdc_refused, crdc_whole}
use Rattle.s800_reader.proofs.whole_packets.read_crdc.Goals as goal

pub returns-in_err-samples : goal.returns-in_err-samples
returns-in_err-samples c b e =
    let p = err_from_is_err_and c.from_residual.result c.from_residual.ensures.1 in
    rw (p.1, p.2) (crdc_refused c.requires c.args.packet.inside c.in_err-samples.ensures.0)

pub returns-in_err-count : goal.returns-in_err-count
returns-in_err-count c b e =
    let p = err_from_is_err_and c.from_residual-in_err-count.result c.from_residual-in_err-count.ensures.1 in
    rw (p.1, p.2) (crdc_whole c.requires c.args.packet.inside e c.in_ok-samples.ensures.0 c.in_err-count.ensures refl)

pub returns : goal.returns
returns c b e = crdc_whole c.requires c.args.packet.inside e c.in_ok-samples.ensures.0 c.in_ok-count.ensures (ap Ok c.whole.ensures)
