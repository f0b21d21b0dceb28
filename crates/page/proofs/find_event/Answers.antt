-- `find_event` meets its contract. Assumes nothing.
use mathlib.Core.Path.{◌∙◌}
use borrow.Author.Tests.{lt-ltb, le-ltb}
use Rattle.std.proofs.lemmas.Result.{err_from_is_err_and}
use Rattle.page_layout.specs.Page.{finding}
use Rattle.page.proofs.PageLaws.{is_sound, is_unsound}
use Rattle.page.proofs.find_event.Goals as goal

pub returns-in_err-check_sound : goal.returns-in_err-check_sound
unfolding finding
returns-in_err-check_sound c =
    let p = err_from_is_err_and c.from_residual.result c.from_residual.ensures.1 in
    rw (p.1, p.2) (is_unsound _ _ c.in_err-check_sound.ensures _)

pub returns-then-page-k : goal.returns-then-page-k
unfolding finding
returns-then-page-k c = c.refuse.ensures ∙ rw (is_sound _ _ c.in_ok-check_sound.ensures, le-ltb _ _ c.if-page-k.true)

pub returns : goal.returns
unfolding finding
returns c = rw (is_sound _ _ c.in_ok-check_sound.ensures, lt-ltb _ _ c.if-page-k.false, c.slot.ensures)
