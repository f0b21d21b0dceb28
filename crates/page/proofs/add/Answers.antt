-- `add` meets its contract. Assumes nothing.
use mathlib.Core.Path.{sym, ◌∙◌}
use native.Mathlib.Omega.{arith}
use lib.ListN.{length}
use Rattle.std.proofs.lemmas.Result.{err_from_is_err_and}
use Rattle.page_layout.proofs.SoundPages.{sound_is}
use Rattle.page.proofs.PageLaws.{adds, answered, page_more, page_full, page_kept, room_kept, room_added}
use Rattle.page.proofs.add.Goals as goal

pub returns-in_err-count : goal.returns-in_err-count
returns-in_err-count c =
    let p = err_from_is_err_and c.from_residual.result c.from_residual.ensures.1 in
    let e = c.in_err-count.ensures in
    rw (p.1, p.2) (record { answer = answered _ _ _ e; page = page_kept _ _ _ e; room = room_kept _ _ _ e })

pub copy_into-requires : goal.copy_into-requires
copy_into-requires c =
    let a = adds c.args.page.now c.args.words.now (length c.args.room.now) _ (sym c.in_ok-count.ensures) in
    let s = sound_is _ _ a.is_sound in
    rw c.slot-newest.ensures (omega (arith, a.short, s.roomy))

pub returns-then-page-lt-EVENTS : goal.returns-then-page-lt-EVENTS
returns-then-page-lt-EVENTS c =
    let e = c.in_ok-count.ensures in
    let at = c.slot-newest.ensures in
    record { answer = answered _ _ _ e; page = rw at (page_more _ _ _ e c.if-page-lt-EVENTS.true); room = c.copy_into.ensures ∙ room_added _ _ _ e at }

pub returns-else-page-lt-EVENTS : goal.returns-else-page-lt-EVENTS
returns-else-page-lt-EVENTS c =
    let e = c.in_ok-count.ensures in
    let at = c.slot-newest.ensures in
    record { answer = answered _ _ _ e; page = rw (at, c.slot-page.ensures) (page_full _ _ _ e c.if-page-lt-EVENTS.false); room = c.copy_into.ensures ∙ room_added _ _ _ e at }
