-- `text::put_row` meets its contract. Assumes nothing.
use native.Mathlib.Omega.{arith}
use lib.ListN.{length-append}
use Rattle.hex_line.proofs.TextLaws.{hex_length, field_length, placed, placed_put}
use Rattle.listing.specs.Text.{row_text}
use Rattle.listing.proofs.text.put_row.Goals as goal

pub returns : goal.returns
unfolding row_text
returns c =
    let p = placed (rw c.from.ensures at c.put_number-unit.ensures.end, rw c.from.ensures at c.put_number-unit.ensures.buffer) (rw hex_length (omega (arith, c.requires))) in
    let q = placed_put p _ (rw c.from-2.ensures at c.put_field-channel.ensures.end, rw c.from-2.ensures at c.put_field-channel.ensures.buffer) (simp (length-append, field_length, hex_length) (omega (arith, c.requires))) in
    let r = placed_put q _ (rw c.from-3.ensures at c.put_field-datum.ensures.end, rw c.from-3.ensures at c.put_field-datum.ensures.buffer) (simp (length-append, field_length, hex_length) (omega (arith, c.requires))) in
    let t = placed_put r _ (rw c.from-4.ensures at c.put_field-end.ensures.end, rw c.from-4.ensures at c.put_field-end.ensures.buffer) (simp (length-append, field_length, hex_length) (omega (arith, c.requires))) in
    placed_put t _ (c.put_text.ensures.end, c.put_text.ensures.buffer) (simp (length-append, field_length, hex_length) (omega (arith, c.requires)))
