-- `picture::put_pictures` meets its contract. Assumes nothing.
use mathlib.Core.Path.{◌≡◌}
use native.Mathlib.Omega.{arith}
use Rattle.hex_line.proofs.TextLaws.{placed_first, placed_next, room_next}
use Rattle.page_text.specs.Text.{picture_text, pictures_text}
use Rattle.page_text.proofs.PageLaws.{picture_length}
use Rattle.page_text.proofs.picture.put_pictures.Goals as goal

pub loop-number-init : goal.loop-number-init
loop-number-init c = placed_first _

pub put_picture-end-requires : goal.put_picture-end-requires
unfolding pictures_text
put_picture-end-requires c =
    let counts = c.args.counts.now in
    room_next c.loop-number.number (picture_text counts c.args.most) (picture_length counts c.args.most) c.loop-number-test.true c.requires c.loop-number.invariant

pub loop-number-preserved : goal.loop-number-preserved
loop-number-preserved c = placed_next _ (picture_text c.args.counts.now c.args.most) c.loop-number.invariant c.put_picture-end.ensures

pub returns : goal.returns
unfolding pictures_text
returns c =
    let all : c.loop-number.number ≡ 4 = omega arith in
    rw all at c.loop-number.invariant
