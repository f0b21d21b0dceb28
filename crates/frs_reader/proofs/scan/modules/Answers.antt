-- `scan::modules` meets its contract. Assumes nothing.
use native.Mathlib.Omega.{arith}
use mathlib.Core.Path.{◌∙◌}
use Rattle.frs_reader.proofs.Scans.{modules_end, module_refused, module_longer, module_taken}
use Rattle.std.proofs.lemmas.Result.{err_from_is_err_and}
use Rattle.frs_reader.proofs.scan.modules.Goals as goal

pub returns-in_err-read : goal.returns-in_err-read
returns-in_err-read c =
    let p = err_from_is_err_and c.from_residual.result c.from_residual.ensures.1 in
    rw (p.1, p.2) (module_refused {from = c.loop-read.read} c.loop-read.invariant (omega arith) c.in_err-read.ensures _)

pub loop-read-smaller : goal.loop-read-smaller
loop-read-smaller c = let m = module_longer {from = c.loop-read.read} c.loop-read.invariant (omega arith) c.in_ok-read.ensures in omega arith

pub loop-read-preserved : goal.loop-read-preserved
loop-read-preserved c = module_taken {from = c.loop-read.read} c.loop-read.invariant (omega arith) c.in_ok-read.ensures {geo = c.geo_of-geo.result} (c.geo_of-geo.ensures ∙ rw c.word.ensures) (omega (arith, c.geo_of-geo.ensures)) c.with_channel-seen.ensures

pub returns : goal.returns
returns c = modules_end {from = c.loop-read.read} c.loop-read.invariant c.loop-read-test.false
