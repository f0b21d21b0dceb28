-- `lines::put_eight` meets its contract. Assumes nothing.
use mathlib.Core.Path.{◌≡◌, ◌∙◌}
use native.Mathlib.Omega.{arith}
use Rattle.hex_line.specs.Text.{text}
use Rattle.hex_line.proofs.TextLaws.{field_length, placed, placed_first, placed_next, room_next}
use Rattle.page_text.specs.Text.{eight_text}
use Rattle.page_text.proofs.lines.put_eight.Invariants.{behind}
use Rattle.page_text.proofs.lines.put_eight.Goals as goal

pub loop-k-init : goal.loop-k-init
loop-k-init c = placed_first _

pub loop-k-preserved : goal.loop-k-preserved
unfolding eight_text
loop-k-preserved c =
    let f = behind c.args.connector.now.counts.now c.args.connector.now.number c.args.channel in
    let held = c.loop-k.invariant in
    let room = room_next c.loop-k.k f (λ k. field_length (text " ") _) c.loop-k-test.true c.requires.1 held in
    let n = c.from.ensures ∙ c.count.ensures in
    let e = c.put_field-end.ensures in
    placed_next _ f held (placed (rw n at e.end, rw n at e.buffer) room)

pub returns : goal.returns
unfolding eight_text
returns c =
    let all : c.loop-k.k ≡ 8 = omega arith in
    rw all at c.loop-k.invariant
