-- `module::check_values` meets its contract. Assumes nothing.
use Rattle.frs_reader.proofs.Values.{values_refused, values_next}
use Rattle.std.proofs.lemmas.Result.{err_from_is_err_and}
use Rattle.frs_reader.proofs.module.check_values.Goals as goal

pub returns-in_err-check_value : goal.returns-in_err-check_value
returns-in_err-check_value c =
    let p = err_from_is_err_and c.from_residual.result c.from_residual.ensures.1 in
    rw (p.1, p.2) (values_refused c.loop-at.invariant c.loop-at-test.true c.requires.1 c.word-w.ensures c.in_err-check_value.ensures)

pub loop-at-preserved : goal.loop-at-preserved
loop-at-preserved c = values_next c.loop-at.invariant c.loop-at-test.true c.requires.1 c.word-w.ensures c.loop-at.auto.at c.in_ok-check_value.ensures c.channel_of.ensures c.with_channel-channels.ensures
