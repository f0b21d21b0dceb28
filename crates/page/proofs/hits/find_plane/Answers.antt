-- `find_plane` meets its contract. Assumes nothing.
use Rattle.std.proofs.lemmas.Result.{err_from_is_err_and}
use Rattle.page_layout.specs.Page.{seeing}
use Rattle.page.proofs.PageLaws.{is_sound, is_unsound}
use Rattle.page.proofs.hits.find_plane.Goals as goal

pub returns-in_err-check_sound : goal.returns-in_err-check_sound
unfolding seeing
returns-in_err-check_sound c =
    let p = err_from_is_err_and c.from_residual.result c.from_residual.ensures.1 in
    rw (p.1, p.2) (is_unsound _ _ c.in_err-check_sound.ensures _)

pub returns : goal.returns
unfolding seeing
returns c = rw (is_sound _ _ c.in_ok-check_sound.ensures)
