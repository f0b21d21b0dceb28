-- `text::put_tail_line` meets its contract. Assumes nothing.
use native.Mathlib.Omega.{arith}
use lib.ListN.{length-append}
use Rattle.hex_line.proofs.TextLaws.{field_length, placed, placed_put}
use Rattle.compare_events.specs.Text.{tail_line}
use Rattle.compare_events.proofs.text.put_tail_line.Goals as goal

pub returns : goal.returns
unfolding tail_line
returns c =
    let p = placed (c.put_field-middle.ensures.end, c.put_field-middle.ensures.buffer) (simp field_length (omega (arith, c.requires))) in
    let q = placed_put p _ (c.put_field-end.ensures.end, c.put_field-end.ensures.buffer) (simp (length-append, field_length) (omega (arith, c.requires))) in
    placed_put q _ (c.put_text.ensures.end, c.put_text.ensures.buffer) (simp (length-append, field_length) (omega (arith, c.requires)))
