-- `text::put_number` meets its contract. Assumes nothing.
use mathlib.Core.Path.{refl}
use Rattle.hex_line.proofs.TextLaws.{hex_length, put_whole, put_none}
use Rattle.hex_line.proofs.text.put_number.Goals as goal

pub returns-then-not-has_room : goal.returns-then-not-has_room
returns-then-not-has_room c = let both = put_none _ _ _ (hex_length 8 _) c.has_room.ensures c.if-not-has_room.true in record { end = both.0; buffer = both.1 }

pub returns : goal.returns
returns c =
    let both = put_whole _ _ _ (hex_length 8 _) c.has_room.ensures c.if-not-has_room.false refl c.store_digits.ensures in record { end = both.0; buffer = both.1 }
