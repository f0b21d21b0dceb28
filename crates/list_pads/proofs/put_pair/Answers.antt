-- `put_pair` meets its contract. Assumes nothing.
use native.Mathlib.Omega.{arith}
use lib.ListN.{length-append}
use Rattle.hex_line.proofs.TextLaws.{hex_length, field_length, placed, placed_put}
use Rattle.list_pads.specs.Pads.{pair_text}
use Rattle.list_pads.proofs.PadLaws.{pair_length}
use Rattle.list_pads.proofs.put_pair.Goals as goal

pub returns : goal.returns
unfolding pair_text
returns c =
    let l = pair_length c.args.channel c.args.connector in
    let channel = c.put_number-connector_at.ensures in
    let connector = c.put_field-pad_at.ensures in
    let pad = c.put_field-end.ensures in
    let end = c.put_text.ensures in
    let p = placed (rw c.from.ensures at channel.end, rw c.from.ensures at channel.buffer) (rw hex_length (omega (arith, c.requires, l))) in
    let q = placed_put p _ (rw c.from-2.ensures at connector.end, rw c.from-2.ensures at connector.buffer) (simp (length-append, field_length, hex_length) (omega (arith, c.requires, l))) in
    let r = placed_put q _ (rw c.from-3.ensures at pad.end, rw c.from-3.ensures at pad.buffer) (simp (length-append, field_length, hex_length) (omega (arith, c.requires, l))) in
    rw c.pad.ensures at
    (placed_put r _ (end.end, end.buffer) (simp (length-append, field_length, hex_length) (omega (arith, c.requires, l))))
