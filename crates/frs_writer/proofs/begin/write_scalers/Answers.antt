-- `begin::write_scalers` meets its contract. Assumes nothing.
use native.Mathlib.Omega.{arith}
use mathlib.Core.Path.{refl}
use Rattle.event.proofs.CountedRows.{counted_begin}
use Rattle.frs_writer.proofs.Scalers.{scalers_done, scaler_refused, scaler_taken}
use Rattle.std.proofs.lemmas.Result.{err_from_is_err_and}
use Rattle.frs_writer.proofs.begin.write_scalers.Goals as goal

pub loop-index-init : goal.loop-index-init
loop-index-init c = counted_begin refl c.requires.1 (omega arith)

pub returns-in_err-check_scaler : goal.returns-in_err-check_scaler
returns-in_err-check_scaler c =
    let p = err_from_is_err_and c.from_residual.result c.from_residual.ensures.1 in
    rw (p.1, p.2) (scaler_refused c.loop-index.invariant c.loop-index-test.true c.row_at-row.ensures _ c.in_err-check_scaler.ensures)

pub loop-index-preserved : goal.loop-index-preserved
loop-index-preserved c = scaler_taken c.loop-index.invariant c.loop-index-test.true c.row_at-row.ensures c.in_ok-check_scaler.ensures c.store.ensures c.store.auto.words

pub returns : goal.returns
returns c = scalers_done c.loop-index.invariant (omega (arith, c.loop-index-test.false, c.loop-index.invariant.most))
