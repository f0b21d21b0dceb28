-- `whole::write_event` meets its contract. Assumes nothing.
use mathlib.Core.Path.{refl}
use Rattle.frs_writer.proofs.Begun.{event_refused, event_laid}
use Rattle.std.proofs.lemmas.Result.{err_from_is_err_and}
use Rattle.frs_writer.proofs.whole.write_event.Goals as goal

pub returns-in_err-written : goal.returns-in_err-written
returns-in_err-written c =
    let p = err_from_is_err_and c.from_residual-in_err-written.result c.from_residual-in_err-written.ensures.1 in
    rw (p.1, p.2) (event_refused c.in_ok-begun.ensures c.in_err-written.ensures refl)

pub returns : goal.returns
returns c = event_laid c.in_ok-begun.ensures c.in_ok-written.ensures refl
