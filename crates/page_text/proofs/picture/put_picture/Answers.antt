-- `picture::put_picture` meets its contract. Assumes nothing.
use Prim.Native.Nat.{◌+◌, ◌≤◌}
use mathlib.Core.List.{◌++◌}
use native.Mathlib.Omega.{arith}
use lib.ListN.{length, length-append}
use Rattle.hex_line.specs.Text.{text, field, Placed}
use Rattle.hex_line.proofs.TextLaws.{field_length, placed, placed_put, placed_then, placed_size}
use Rattle.page_text.specs.Text.{picture_text}
use Rattle.page_text.proofs.PageLaws.{rows_length_lem, picture_length}
use Rattle.page_text.proofs.picture.put_picture.Goals as goal

pub put_rows-end-requires : goal.put_rows-end-requires
put_rows-end-requires c =
    let a = c.args in
    -- there is room for the whole picture
    let room : a.at + 696 ≤ length a.text.now = omega (arith, c.requires, picture_length a.connector.now.counts.now a.most a.connector.now.number) in
    -- the line of the connector stands there
    let p = placed (c.put_field-head.ensures.end, c.put_field-head.ensures.buffer) (simp field_length (omega (arith, room))) in
    let b : Placed a.text.now a.at (field (text "connector ") a.connector.now.number ++ text "\n") c.put_text-rows.result c.put_text-rows.new.buffer =
    placed_put p _ (c.put_text-rows.ensures.end, c.put_text-rows.ensures.buffer) (simp (length-append, field_length) (omega (arith, room))) in
    let ends = simp (length-append, field_length) at b.ends in
    omega (arith, rows_length_lem a.connector.now.counts.now a.most a.connector.now.number, ends, room, placed_size b)

pub returns : goal.returns
unfolding picture_text
returns c =
    let a = c.args in
    let room : a.at + 696 ≤ length a.text.now = omega (arith, c.requires, picture_length a.connector.now.counts.now a.most a.connector.now.number) in
    let p = placed (c.put_field-head.ensures.end, c.put_field-head.ensures.buffer) (simp field_length (omega (arith, room))) in
    let b : Placed a.text.now a.at (field (text "connector ") a.connector.now.number ++ text "\n") c.put_text-rows.result c.put_text-rows.new.buffer =
    placed_put p _ (c.put_text-rows.ensures.end, c.put_text-rows.ensures.buffer) (simp (length-append, field_length) (omega (arith, room))) in
    let l = rows_length_lem a.connector.now.counts.now a.most a.connector.now.number in
    placed_put (placed_then b c.put_rows-end.ensures) _ (c.put_text.ensures.end, c.put_text.ensures.buffer)
    (simp (length-append, field_length, l) (omega (arith, room)))
