-- `text::put_count` meets its contract. Assumes nothing.
use native.Mathlib.Omega.{arith}
use lib.ListN.{length-append}
use Rattle.hex_line.proofs.TextLaws.{field_length, placed, placed_put}
use Rattle.run_vectors.specs.Text.{count_text}
use Rattle.run_vectors.proofs.text.put_count.Goals as goal

pub returns : goal.returns
unfolding count_text
returns c =
    let count = placed (c.put_field-end.ensures.end, c.put_field-end.ensures.buffer) (simp field_length (omega arith)) in
    let line = placed_put count _ (c.put_text.ensures.end, c.put_text.ensures.buffer) (simp (length-append, field_length) (omega arith)) in
    record { upper_bound = omega (arith, simp (length-append, field_length) at line.ends); placed = line }
