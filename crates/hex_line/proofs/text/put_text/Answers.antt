-- `text::put_text` meets its contract. Assumes nothing.
use mathlib.Core.Path.{refl, sym, ◌∙◌}
use native.Mathlib.Omega.{arith}
use borrow.Author.Tests.{leb-true}
use Rattle.hex_line.proofs.TextLaws.{put_whole, put_none, copied}
use Rattle.hex_line.proofs.text.put_text.Goals as goal

pub returns-then-not-has_room : goal.returns-then-not-has_room
returns-then-not-has_room c = let both = put_none _ _ _ refl c.has_room.ensures c.if-not-has_room.true in record { end = both.0; buffer = both.1 }

pub returns : goal.returns
returns c =
    let copy = copied c.args.buffer.now c.args.text.now c.args.at (leb-true _ _ (sym c.has_room.ensures ∙ c.if-not-has_room.false)) (omega arith) c.copy_from_slice.ensures.after in
    let both = put_whole _ _ _ refl c.has_room.ensures c.if-not-has_room.false refl copy in record { end = both.0; buffer = both.1 }
