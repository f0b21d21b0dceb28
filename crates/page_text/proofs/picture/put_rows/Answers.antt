-- `picture::put_rows` meets its contract. Assumes nothing.
use Prim.Native.Nat.{ℕ, ◌-◌}
use mathlib.Core.Path.{◌≡◌}
use native.Mathlib.Omega.{arith}
use lib.ListN.{length}
use Rattle.hex_line.proofs.TextLaws.{placed_first, placed_next, room_next}
use Rattle.page_text.specs.Text.{least_of, rows_text}
use Rattle.page_text.proofs.PageLaws.{row_length_lem}
use Rattle.page_text.proofs.picture.put_rows.Invariants.{row_of}
use Rattle.page_text.proofs.picture.put_rows.Goals as goal

pub loop-row-init : goal.loop-row-init
loop-row-init c = placed_first _

pub put_row-end-requires : goal.put_row-end-requires
unfolding rows_text
put_row-end-requires c =
    let a = c.args.connector.now in
    let f = row_of a.counts.now c.args.most a.number in
    let lengths : (k : ℕ) → length (f k) ≡ 76 = λ k. row_length_lem a.counts.now a.number (least_of c.args.most (7 - k)) in
    let room = room_next c.loop-row.row f lengths c.loop-row-test.true c.requires c.loop-row.invariant in
    rw row_length_lem (omega (arith, room, lengths c.loop-row.row))

pub loop-row-preserved : goal.loop-row-preserved
loop-row-preserved c =
    let a = c.args.connector.now in
    placed_next _ (row_of a.counts.now c.args.most a.number) c.loop-row.invariant (rw c.least_of.ensures at c.put_row-end.ensures)

pub returns : goal.returns
unfolding rows_text
returns c =
    let all : c.loop-row.row ≡ 8 = omega arith in
    rw all at c.loop-row.invariant
