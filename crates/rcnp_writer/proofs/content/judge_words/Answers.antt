-- `content::judge_words` meets its contract. Assumes nothing.
use Rattle.std.proofs.Common.{◌≡◌, arith}
use Rattle.std.proofs.lemmas.Result.{err_from_is_err_and}
use Rattle.event.proofs.Answers.{passed_test, failed_test}
use Rattle.event.proofs.CountedRows.{counted_begin}
use Rattle.rcnp_writer.proofs.Contents.{words_done, word_refused, word_next}
use Rattle.rcnp_writer.proofs.content.judge_words.Goals as goal

pub loop-k-init : goal.loop-k-init
loop-k-init c = counted_begin tt c.requires.1 (omega arith)

pub returns-in_err-check_datum : goal.returns-in_err-check_datum
returns-in_err-check_datum c =
    let p = err_from_is_err_and c.from_residual.result c.from_residual.ensures.1 in
    rw (p.1, p.2) (word_refused c.loop-k.invariant c.loop-k-test.true c.row_at.ensures (failed_test _ _ c.in_err-check_datum.ensures))

pub loop-k-preserved : goal.loop-k-preserved
loop-k-preserved c = word_next c.loop-k.invariant c.loop-k-test.true c.row_at.ensures (passed_test _ _ c.in_ok-check_datum.ensures) (omega arith)

pub returns : goal.returns
returns c = let all : c.loop-k.k ≡ c.args.n = omega arith in rw all at (words_done c.loop-k.invariant (omega arith))
