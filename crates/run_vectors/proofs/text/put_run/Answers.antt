-- `text::put_run` meets its contract. Assumes nothing.
use native.Mathlib.Omega.{arith}
use lib.ListN.{length-append}
use Rattle.hex_line.proofs.TextLaws.{hex_length, field_length, placed, placed_put}
use Rattle.run_vectors.specs.Text.{run_text}
use Rattle.run_vectors.proofs.text.put_run.Goals as goal

pub returns : goal.returns
unfolding run_text
returns c =
    let times = placed (c.put_number-middle.ensures.end, c.put_number-middle.ensures.buffer) (simp hex_length (omega arith)) in
    let word = placed_put times _ (c.put_field-end.ensures.end, c.put_field-end.ensures.buffer) (simp (length-append, hex_length, field_length) (omega arith)) in
    let line = placed_put word _ (c.put_text.ensures.end, c.put_text.ensures.buffer) (simp (length-append, hex_length, field_length) (omega arith)) in
    record { upper_bound = omega (arith, simp (length-append, hex_length, field_length) at line.ends); placed = line }
