-- `lines::put_counts` meets its contract. Assumes nothing.
use Prim.Native.Nat.{◌*◌, ◌/◌, ◌%◌}
use mathlib.Core.Path.{◌≡◌}
use native.Mathlib.Omega.{arith}
use Rattle.hex_line.proofs.TextLaws.{placed_first, placed_next, room_next}
use Rattle.page_text.specs.Text.{counts_text}
use Rattle.page_text.proofs.PageLaws.{count_length}
use Rattle.page_text.proofs.lines.put_counts.Invariants.{line_of}
use Rattle.page_text.proofs.lines.put_counts.Goals as goal

pub loop-line-init : goal.loop-line-init
loop-line-init c = placed_first _

pub put_count-end-requires : goal.put_count-end-requires
unfolding counts_text
put_count-end-requires c =
    let counts = c.args.counts.now in
    (omega arith, room_next c.loop-line.line (line_of counts) (λ j. count_length counts (j / 8) (8 * (j % 8))) c.loop-line-test.true c.requires c.loop-line.invariant)

pub loop-line-preserved : goal.loop-line-preserved
loop-line-preserved c = placed_next _ (line_of c.args.counts.now) c.loop-line.invariant c.put_count-end.ensures

pub returns : goal.returns
unfolding counts_text
returns c =
    let all : c.loop-line.line ≡ 32 = omega arith in
    rw all at c.loop-line.invariant
