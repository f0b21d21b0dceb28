-- `lines::put_count` meets its contract. Assumes nothing.
use native.Mathlib.Omega.{arith}
use Prim.Native.Nat.{◌+◌, ◌≤◌}
use mathlib.Core.List.{◌++◌}
use lib.ListN.{length, length-append}
use Rattle.hex_line.specs.Text.{text, field, Placed}
use Rattle.hex_line.proofs.TextLaws.{field_length, placed, placed_put, placed_then, placed_size}
use Rattle.page_text.specs.Text.{count_text}
use Rattle.page_text.proofs.PageLaws.{eight_length, count_length}
use Rattle.page_text.proofs.lines.put_count.Goals as goal

pub put_eight-end-requires : goal.put_eight-end-requires
put_eight-end-requires c =
    let a = c.args in
    -- there is room for the whole line
    let room : a.at + 96 ≤ length a.text.now = omega (arith, c.requires.1, count_length a.connector.now.counts.now a.connector.now.number a.channel) in
    -- connector and channel stand there
    let p = placed (c.put_field-channel_at.ensures.end, c.put_field-channel_at.ensures.buffer) (simp field_length (omega (arith, room))) in
    let n : Placed a.text.now a.at (field (text "count ") a.connector.now.number ++ field (text " ") a.channel) c.put_field-counts_at.result c.put_field-counts_at.new.buffer =
    placed_put p _ (c.put_field-counts_at.ensures.end, c.put_field-counts_at.ensures.buffer) (simp (length-append, field_length) (omega (arith, room))) in
    let ends = simp (length-append, field_length) at n.ends in
    (c.requires.0, omega (arith, eight_length a.connector.now.counts.now a.connector.now.number a.channel, ends, room, placed_size n))

pub returns : goal.returns
unfolding count_text
returns c =
    let a = c.args in
    let room : a.at + 96 ≤ length a.text.now = omega (arith, c.requires.1, count_length a.connector.now.counts.now a.connector.now.number a.channel) in
    let p = placed (c.put_field-channel_at.ensures.end, c.put_field-channel_at.ensures.buffer) (simp field_length (omega (arith, room))) in
    let n : Placed a.text.now a.at (field (text "count ") a.connector.now.number ++ field (text " ") a.channel) c.put_field-counts_at.result c.put_field-counts_at.new.buffer =
    placed_put p _ (c.put_field-counts_at.ensures.end, c.put_field-counts_at.ensures.buffer) (simp (length-append, field_length) (omega (arith, room))) in
    let l = eight_length a.connector.now.counts.now a.connector.now.number a.channel in
    placed_put (placed_then n c.put_eight-end.ensures) _ (c.put_text.ensures.end, c.put_text.ensures.buffer)
    (simp (length-append, field_length, l) (omega (arith, room)))
