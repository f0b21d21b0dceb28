-- `begin::stamp` meets its contract. Assumes nothing.
use mathlib.Core.Path.{sym, ◌∙◌}
use Rattle.frs_reader.proofs.Beginning.{stamp_1, stamp_2, stamp_3, stamp_given}
use Rattle.std.proofs.lemmas.Result.{err_from_is_err_and}
use Rattle.frs_reader.proofs.begin.stamp.Goals as goal

pub returns-in_err-unit : goal.returns-in_err-unit
returns-in_err-unit c =
    let p = err_from_is_err_and c.from_residual.result c.from_residual.ensures.1 in
    rw (p.1, p.2) (stamp_1 c.args.words.now c.requires (sym c.word.ensures ∙ c.if-word-ne-STAMP.false) c.in_err-unit.ensures)

pub returns-in_err-channel : goal.returns-in_err-channel
returns-in_err-channel c =
    let p = err_from_is_err_and c.from_residual-in_err-channel.result c.from_residual-in_err-channel.ensures.1 in
    rw (p.1, p.2) (stamp_2 c.args.words.now c.requires (sym c.word.ensures ∙ c.if-word-ne-STAMP.false) c.in_ok-unit.ensures c.in_err-channel.ensures)

pub returns-in_err-datum : goal.returns-in_err-datum
returns-in_err-datum c =
    let p = err_from_is_err_and c.from_residual-in_err-datum.result c.from_residual-in_err-datum.ensures.1 in
    rw (p.1, p.2) (stamp_3 c.args.words.now c.requires (sym c.word.ensures ∙ c.if-word-ne-STAMP.false) c.in_ok-unit.ensures c.in_ok-channel.ensures c.in_err-datum.ensures)

pub returns : goal.returns
returns c = stamp_given c.args.words.now c.requires (sym c.word.ensures ∙ c.if-word-ne-STAMP.false) c.in_ok-unit.ensures c.in_ok-channel.ensures c.in_ok-datum.ensures
