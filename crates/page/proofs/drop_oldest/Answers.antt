-- `drop_oldest` meets its contract. Assumes nothing.
use mathlib.Core.Path.{refl}
use borrow.Author.Tests.{eq-eqb, ne_eqb}
use Rattle.std.proofs.lemmas.Result.{err_from_is_err_and}
use Rattle.page_layout.specs.Page.{dropping, without_oldest, dropped}
use Rattle.page.proofs.PageLaws.{is_sound, drop_unsound}
use Rattle.page.proofs.drop_oldest.Goals as goal

pub returns-in_err-check_sound : goal.returns-in_err-check_sound
returns-in_err-check_sound c =
    let p = err_from_is_err_and c.from_residual.result c.from_residual.ensures.1 in
    let d = drop_unsound c.args.page.now _ c.in_err-check_sound.ensures in
    rw (p.1, p.2) (record { answer = d.0; page = d.1 })

pub returns-then-page-eq0 : goal.returns-then-page-eq0
unfolding dropped dropping
returns-then-page-eq0 c =
    let s = is_sound _ _ c.in_ok-check_sound.ensures in
    rw (s, eq-eqb _ 0 c.if-page-eq0.true) (record { answer = c.refuse.ensures; page = refl })

pub returns : goal.returns
unfolding dropped dropping without_oldest
returns c =
    let s = is_sound _ _ c.in_ok-check_sound.ensures in
    rw (s, ne_eqb _ 0 c.if-page-eq0.false, c.slot-page.ensures) (record { answer = refl; page = refl })
