-- `text::put_refusal` meets its contract. Assumes nothing.
use mathlib.Core.Path.{◌∙◌}
use native.Mathlib.Omega.{arith}
use lib.ListN.{length-append}
use Rattle.hex_line.proofs.TextLaws.{field_length, placed, placed_put}
use Rattle.run_vectors.specs.Text.{refusal_text}
use Rattle.run_vectors.proofs.text.put_refusal.Goals as goal

pub returns : goal.returns
unfolding refusal_text
returns c =
    let number = placed (c.put_field-middle.ensures.end, c.put_field-middle.ensures.buffer) (simp field_length (omega arith)) in
    let place = placed_put number _ (c.put_field-end.ensures.end, c.put_field-end.ensures.buffer) (simp (length-append, field_length) (omega arith)) in
    let line = placed_put place _ (c.put_text.ensures.end, c.put_text.ensures.buffer) (simp (length-append, field_length) (omega arith)) in
    record { value = line.ends ∙ simp (length-append, field_length); placed = line }
