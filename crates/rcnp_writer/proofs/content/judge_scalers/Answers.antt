-- `content::judge_scalers` meets its contract. Assumes nothing.
use Rattle.std.proofs.Common.{◌≡◌, refl, arith}
use Rattle.std.proofs.lemmas.Result.{err_from_is_err_and}
use Rattle.event.proofs.Answers.{passed_test, failed_test}
use Rattle.event.proofs.CountedRows.{counted_begin}
use Rattle.rcnp_writer.proofs.Contents.{scalers_done, scaler_refused, scaler_next}
use Rattle.rcnp_writer.proofs.content.judge_scalers.Goals as goal

pub loop-index-init : goal.loop-index-init
loop-index-init c = counted_begin refl c.requires.1 (omega arith)

pub returns-in_err-check_datum : goal.returns-in_err-check_datum
returns-in_err-check_datum c =
    let p = err_from_is_err_and c.from_residual.result c.from_residual.ensures.1 in
    rw (p.1, p.2) (scaler_refused c.loop-index.invariant c.loop-index-test.true c.row_at.ensures (failed_test _ _ c.in_err-check_datum.ensures))

pub loop-index-preserved : goal.loop-index-preserved
loop-index-preserved c = scaler_next c.loop-index.invariant c.loop-index-test.true c.row_at.ensures (passed_test _ _ c.in_ok-check_datum.ensures) (omega arith)

pub returns : goal.returns
returns c = let all : c.loop-index.index ≡ c.args.n = omega arith in rw all at (scalers_done c.loop-index.invariant (omega arith))
