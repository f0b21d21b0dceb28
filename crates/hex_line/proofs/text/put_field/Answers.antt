-- `text::put_field` meets its contract. Assumes nothing.
use Prim.Native.Nat.{◌+◌, ◌≤◌, ◌<◌}
use mathlib.Core.Path.{refl, sym, ◌∙◌}
use native.Mathlib.Omega.{arith}
use lib.ListN.{length}
use borrow.Author.Tests.{leb-true, leb-false, le-leb, lt-leb}
use Rattle.hex_line.specs.Text.{hex_of, field}
use Rattle.hex_line.proofs.TextLaws.{field_length, put_whole, put_none, placed, placed_put}
use Rattle.hex_line.proofs.text.put_field.Goals as goal
use Rattle.hex_line.proofs.text.put_field.Goals.{then-not-has_room-via-then-not-has_room, then-not-has_room-via-else-not-has_room+then-buffer-at}

pub returns-then-not-has_room : goal.returns-then-not-has_room
returns-then-not-has_room c =
    let a = c.args in
    let none : length a.buffer.now < a.at + (length a.label.now + 8) = elim c.then-not-has_room.branch [
      | then-not-has_room-via-then-not-has_room w ↦ let h = leb-false (a.at + 8) (length a.buffer.now) (sym c.has_room.ensures ∙ w.if-not-has_room.true) in omega arith
      | then-not-has_room-via-else-not-has_room+then-buffer-at w ↦
          let h = leb-true (a.at + 8) (length a.buffer.now) (sym c.has_room.ensures ∙ w.if-not-has_room.false) in omega (arith, h, w.if-buffer-at.true)
    ] in
    let both = put_none _ _ _ (field_length a.label.now a.number) (sym (lt-leb _ _ none)) refl in record { end = both.0; buffer = both.1 }

pub returns : goal.returns
unfolding field
returns c =
    let a = c.args in
    let eight : a.at + 8 ≤ length a.buffer.now = leb-true _ _ (sym c.has_room.ensures ∙ c.if-not-has_room.false) in
    let room : a.at + length (field a.label.now a.number) ≤ length a.buffer.now = rw field_length (omega (arith, eight, c.if-buffer-at.false)) in
    let l = placed (c.put_text-behind.ensures.end, c.put_text-behind.ensures.buffer) (omega (arith, eight, c.if-buffer-at.false)) in
    let p = placed_put l (hex_of 8 a.number) (c.put_number.ensures.end, c.put_number.ensures.buffer) room in
    let both = put_whole _ _ _ refl (sym (le-leb _ _ room)) refl p.ends p.holds in record { end = both.0; buffer = both.1 }
