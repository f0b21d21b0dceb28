-- `text::put_last` meets its contract. Assumes nothing.
use native.Mathlib.Omega.{arith}
use lib.ListN.{length-append}
use Rattle.hex_line.proofs.TextLaws.{field_length, placed, placed_put}
use Rattle.listing.specs.Text.{last_text}
use Rattle.listing.proofs.TextLaws.{label_length, last_none, last_whole}
use Rattle.listing.proofs.text.put_last.Goals as goal

pub returns-then-text-lt-LAST_LENGTH : goal.returns-then-text-lt-LAST_LENGTH
returns-then-text-lt-LAST_LENGTH c =
    let both = last_none c.args.text.now c.args.cut c.args.accepted c.args.refused (omega arith) in
    record { count = both.0; buffer = both.1 }

pub returns : goal.returns
unfolding last_text
returns c =
    let l = c.last_label.ensures in
    let m = c.put_field-middle.ensures in
    let p = placed (rw l at m.end, rw l at m.buffer) (simp (field_length, label_length) (omega arith)) in
    let q = placed_put p _ (c.put_field-end.ensures.end, c.put_field-end.ensures.buffer) (simp (length-append, field_length, label_length) (omega arith)) in
    let both = last_whole c.args.text.now c.args.cut c.args.accepted c.args.refused c.if-text-lt-LAST_LENGTH.false
    (placed_put q _ (c.put_text.ensures.end, c.put_text.ensures.buffer) (simp (length-append, field_length, label_length) (omega arith))) in
    record { count = both.0; buffer = both.1 }
