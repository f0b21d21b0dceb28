-- `lines::put_last` meets its contract. Assumes nothing.
use native.Mathlib.Omega.{arith}
use lib.ListN.{length-append}
use Rattle.hex_line.proofs.TextLaws.{field_length, placed, placed_put}
use Rattle.page_text.specs.Text.{last_text}
use Rattle.page_text.proofs.PageLaws.{label_length, last_length_lem}
use Rattle.page_text.proofs.lines.put_last.Goals as goal

pub returns : goal.returns
unfolding last_text
returns c =
    let a = c.args.ending in
    let l = last_length_lem a.cut a.added a.refused a.other in
    let d = c.put_field-refused_at.ensures in
    let o = c.put_field-other_at.ensures in
    let e = c.put_field-end.ensures in
    let t = c.put_text.ensures in
    let p = placed (rw c.last_label.ensures at d.end, rw c.last_label.ensures at d.buffer) (simp (field_length, label_length) (omega (arith, c.requires, l))) in
    let q = placed_put p _ (o.end, o.buffer) (simp (length-append, field_length, label_length) (omega (arith, c.requires, l))) in
    let r = placed_put q _ (e.end, e.buffer) (simp (length-append, field_length, label_length) (omega (arith, c.requires, l))) in
    placed_put r _ (t.end, t.buffer) (simp (length-append, field_length, label_length) (omega (arith, c.requires, l)))
