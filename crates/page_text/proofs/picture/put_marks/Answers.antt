-- `picture::put_marks` meets its contract. Assumes nothing.
use mathlib.Core.Path.{◌≡◌, ap, ◌∙◌}
use native.Mathlib.Nat.{add-zero}
use native.Mathlib.Omega.{arith}
use Rattle.hex_line.proofs.TextLaws.{placed_first, placed_next}
use Rattle.page_text.specs.Text.{count_of, mark, marks_text}
use Rattle.page_text.proofs.PageLaws.{mark_put, marks_length}
use Rattle.page_text.proofs.picture.put_marks.Invariants.{mark_of}
use Rattle.page_text.proofs.picture.put_marks.Goals as goal

pub loop-channel-init : goal.loop-channel-init
loop-channel-init c = rw add-zero (placed_first _)

pub bounds-text-at : goal.bounds-text-at
bounds-text-at c = let a = c.args in omega (arith, c.requires, marks_length a.connector.now.counts.now a.connector.now.number a.least)

pub loop-channel-preserved : goal.loop-channel-preserved
loop-channel-preserved c =
    let a = c.args in
    let s = a.connector.now in
    let q = mark_put a.least (count_of s.counts.now s.number c.loop-channel.channel) c.loop-channel.text a.at c.loop-channel.channel (c.mark.ensures ∙ ap (mark a.least) c.count.ensures) in
    placed_next _ (mark_of s.counts.now s.number a.least) c.loop-channel.invariant q

pub returns : goal.returns
unfolding marks_text
returns c =
    let all : c.loop-channel.channel ≡ 64 = omega arith in
    rw all at c.loop-channel.invariant
