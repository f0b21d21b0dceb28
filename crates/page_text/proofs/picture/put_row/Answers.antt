-- `picture::put_row` meets its contract. Assumes nothing.
use Prim.Native.Nat.{◌+◌, ◌≤◌}
use mathlib.Core.List.{◌++◌}
use native.Mathlib.Omega.{arith}
use lib.ListN.{length, length-append}
use Rattle.hex_line.specs.Text.{text, hex_of, Placed}
use Rattle.hex_line.proofs.TextLaws.{hex_length, placed, placed_put, placed_then, placed_size}
use Rattle.page_text.specs.Text.{row_text}
use Rattle.page_text.proofs.PageLaws.{marks_length, row_length_lem}
use Rattle.page_text.proofs.picture.put_row.Goals as goal

pub put_marks-end-requires : goal.put_marks-end-requires
put_marks-end-requires c =
    let a = c.args in
    -- there is room for the whole row
    let room : a.at + 76 ≤ length a.text.now = omega (arith, c.requires, row_length_lem a.connector.now.counts.now a.connector.now.number a.least) in
    -- what stands before the marks
    let p = placed (c.put_number-bar.ensures.end, c.put_number-bar.ensures.buffer) (simp hex_length (omega (arith, room))) in
    let b : Placed a.text.now a.at (hex_of 8 a.least ++ text " |") c.put_text-marks.result c.put_text-marks.new.buffer =
    placed_put p _ (c.put_text-marks.ensures.end, c.put_text-marks.ensures.buffer) (simp (length-append, hex_length) (omega (arith, room))) in
    let ends = simp (length-append, hex_length) at b.ends in
    omega (arith, marks_length a.connector.now.counts.now a.connector.now.number a.least, ends, room, placed_size b)

pub returns : goal.returns
unfolding row_text
returns c =
    let a = c.args in
    let room : a.at + 76 ≤ length a.text.now = omega (arith, c.requires, row_length_lem a.connector.now.counts.now a.connector.now.number a.least) in
    let p = placed (c.put_number-bar.ensures.end, c.put_number-bar.ensures.buffer) (simp hex_length (omega (arith, room))) in
    let b : Placed a.text.now a.at (hex_of 8 a.least ++ text " |") c.put_text-marks.result c.put_text-marks.new.buffer =
    placed_put p _ (c.put_text-marks.ensures.end, c.put_text-marks.ensures.buffer) (simp (length-append, hex_length) (omega (arith, room))) in
    let l = marks_length a.connector.now.counts.now a.connector.now.number a.least in
    placed_put (placed_then b c.put_marks-end.ensures) _ (c.put_text.ensures.end, c.put_text.ensures.buffer)
    (simp (length-append, hex_length, l) (omega (arith, room)))
