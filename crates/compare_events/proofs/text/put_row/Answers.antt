-- `text::put_row` meets its contract. Assumes nothing.
use native.Mathlib.Omega.{arith}
use lib.ListN.{length-append}
use Rattle.hex_line.proofs.TextLaws.{field_length, placed, placed_put}
use Rattle.compare_events.specs.Text.{row_line}
use Rattle.compare_events.proofs.text.put_row.Goals as goal

pub returns : goal.returns
unfolding row_line
returns c =
    let p = placed (c.put_field-kind.ensures.end, c.put_field-kind.ensures.buffer) (simp field_length (omega (arith, c.requires))) in
    let q = placed_put p _ (c.put_field-unit.ensures.end, c.put_field-unit.ensures.buffer) (simp (length-append, field_length) (omega (arith, c.requires))) in
    let r = placed_put q _ (c.put_field-channel.ensures.end, c.put_field-channel.ensures.buffer) (simp (length-append, field_length) (omega (arith, c.requires))) in
    let t = placed_put r _ (c.put_field-datum.ensures.end, c.put_field-datum.ensures.buffer) (simp (length-append, field_length) (omega (arith, c.requires))) in
    let u = placed_put t _ (c.put_field-end.ensures.end, c.put_field-end.ensures.buffer) (simp (length-append, field_length) (omega (arith, c.requires))) in
    placed_put u _ (c.put_text.ensures.end, c.put_text.ensures.buffer) (simp (length-append, field_length) (omega (arith, c.requires)))
