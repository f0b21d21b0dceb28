-- `text::put_refused` meets its contract. Assumes nothing.
use native.Mathlib.Omega.{arith}
use lib.ListN.{length-append}
use Rattle.hex_line.proofs.TextLaws.{field_length, placed, placed_put}
use Rattle.listing.specs.Text.{refused_text}
use Rattle.listing.proofs.text.put_refused.Goals as goal

pub returns : goal.returns
unfolding refused_text
returns c =
    let p = placed (c.put_field-middle.ensures.end, c.put_field-middle.ensures.buffer) (rw field_length (omega (arith, c.requires))) in
    let q = placed_put p _ (rw c.from.ensures at c.put_field-more.ensures.end, rw c.from.ensures at c.put_field-more.ensures.buffer) (simp (length-append, field_length) (omega (arith, c.requires))) in
    let r = placed_put q _ (c.put_field-end.ensures.end, c.put_field-end.ensures.buffer) (simp (length-append, field_length) (omega (arith, c.requires))) in
    placed_put r _ (c.put_text.ensures.end, c.put_text.ensures.buffer) (simp (length-append, field_length) (omega (arith, c.requires)))
