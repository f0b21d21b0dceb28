-- `scan::parts` meets its contract. Assumes nothing.
use Rattle.std.proofs.lemmas.Result.{err_from_is_err_and}
use Rattle.rcnp_reader.proofs.EventLaws.{parts_refused, sum_there, parts_read}
use Rattle.rcnp_reader.proofs.scan.parts.Goals as goal

pub sum_region-requires : goal.sum_region-requires
sum_region-requires c = sum_there c.in_ok-before.ensures

pub returns-in_err-before : goal.returns-in_err-before
returns-in_err-before c =
    let p = err_from_is_err_and c.from_residual.result c.from_residual.ensures.1 in
    rw (p.1, p.2) (parts_refused c.regions.new.rows c.in_err-before.ensures)

pub returns : goal.returns
returns c = parts_read c.in_ok-before.ensures c.sum_region.ensures
