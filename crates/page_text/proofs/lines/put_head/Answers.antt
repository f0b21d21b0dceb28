-- `lines::put_head` meets its contract. Assumes nothing.
use native.Mathlib.Omega.{arith}
use lib.ListN.{length-append}
use Rattle.hex_line.proofs.TextLaws.{field_length, placed, placed_put}
use Rattle.page_text.specs.Text.{head_text}
use Rattle.page_text.proofs.PageLaws.{head_length}
use Rattle.page_text.proofs.lines.put_head.Goals as goal

pub returns : goal.returns
unfolding head_text
returns c =
    let l = head_length c.args.events c.args.hits c.args.most in
    let h = c.put_field-hits_at.ensures in
    let m = c.put_field-most_at.ensures in
    let e = c.put_field-end.ensures in
    let t = c.put_text.ensures in
    let p = placed (h.end, h.buffer) (simp field_length (omega (arith, c.requires, l))) in
    let q = placed_put p _ (m.end, m.buffer) (simp (length-append, field_length) (omega (arith, c.requires, l))) in
    let r = placed_put q _ (rw c.from.ensures at e.end, rw c.from.ensures at e.buffer) (simp (length-append, field_length) (omega (arith, c.requires, l))) in
    placed_put r _ (t.end, t.buffer) (simp (length-append, field_length) (omega (arith, c.requires, l)))
