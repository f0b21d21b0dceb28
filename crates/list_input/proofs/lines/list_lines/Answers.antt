-- `lines::list_lines` meets its contract. The invariant: all that was to be written is still to be written. Assumes nothing.
use Prim.Native.Nat.{ℕ, ◌+◌, ◌-◌, ◌≤◌}
use mathlib.Core.Path.{◌≡◌, sym, ◌∙◌}
use mathlib.Core.Bool.{Bool}
use mathlib.Core.List.{List}
use native.Mathlib.Omega.{arith}
use lib.ListN.{length}
use Rattle.event.specs.declared.StampOrder.{StampOrder}
use Rattle.listing.specs.declared.Next.{Next}
use Rattle.listing.specs.declared.Next.TheVariants.{Line}
use Rattle.listing.specs.Input.{next_of}
use Rattle.listing.specs.Lengths.{most_text}
use Rattle.listing.proofs.InputLaws.{Known, known}
use Rattle.list_input.specs.declared.Run.{Run}
use Rattle.list_input.specs.Run.{Inside, LineInside, rest_of}
use Rattle.list_input.proofs.Steps.{first_inside, behind_within, line_kept}
use Rattle.list_input.proofs.lines.list_lines.Goals as goal

line_known : (run : Run) (input : List ℕ) (ended : Bool) (next : Next) (count : ℕ) → next ≡ next_of (rest_of run input) ended (run.accepted + run.refused)
    → next ≡ Line count → Known (rest_of run input) ended (run.accepted + run.refused) (Line count)
line_known run input ended next count e is = rw (sym e ∙ is) at (known (rest_of run input) ended (run.accepted + run.refused))

-- the line that comes next, in the run as it stands in the text as it is now
record LineNext (o : StampOrder) (ended : Bool) (input text : List ℕ) (run : Run) (count : ℕ) : Type 0 where
  inside : Inside (length input) (length text) run
  next : Known (rest_of run input) ended (run.accepted + run.refused) (Line count)
  line : LineInside count (length text) run

line_next : (o : StampOrder) (ended : Bool) (input text : List ℕ) (run : Run) (count : ℕ) {m : ℕ} → length text ≡ m → Inside (length input) m run
    → Known (rest_of run input) ended (run.accepted + run.refused) (Line count) → most_text ≤ length text - run.at → LineNext o ended input text run count
line_next o ended input text run count e i k h =
    let j : Inside (length input) (length text) run = rw e i in
    let w = first_inside o ended input text run j k.0 k.1 in
    record { inside = j; next = k; line = record { some = w.0; within = w.1; lines = k.2; text = omega (arith, h, j.text) } }

pub list_line-listed-requires-clause-line_inside : goal.list_line-listed-requires-clause-line_inside
list_line-listed-requires-clause-line_inside c =
    let a = c.args in
    let run = c.loop-count.listed in
    let k = line_known run a.input.now a.ended _ _ c.next_line-next.ensures c.in-Line.is in
    (line_next a.order a.ended a.input.now c.loop-count.text run _ c.loop-count.auto.text c.loop-count.invariant.0 k c.if-text-listed-lt-MOST_TEXT.false).line

pub loop-count-smaller : goal.loop-count-smaller
loop-count-smaller c =
    let a = c.args in
    let run = c.loop-count.listed in
    let k = line_known run a.input.now a.ended _ _ c.next_line-next.ensures c.in-Line.is in
    let l = (line_next a.order a.ended a.input.now c.loop-count.text run _ c.loop-count.auto.text c.loop-count.invariant.0 k c.if-text-listed-lt-MOST_TEXT.false).line in
    let listed = c.list_line-listed.ensures.line_listed in
    omega (arith, behind_within run _ l.some l.within, listed.from, listed.end)

pub loop-count-preserved : goal.loop-count-preserved
loop-count-preserved c =
    let a = c.args in
    let run = c.loop-count.listed in
    let k = line_known run a.input.now a.ended _ _ c.next_line-next.ensures c.in-Line.is in
    let l = line_next a.order a.ended a.input.now c.loop-count.text run _ c.loop-count.auto.text c.loop-count.invariant.0 k c.if-text-listed-lt-MOST_TEXT.false in (
      rw (sym c.loop-count.auto.text) c.list_line-listed.ensures.inside_2,
      λ later h. c.loop-count.invariant.1 later h
          ∙ line_kept a.order a.ended a.input.now c.loop-count.text run l.inside _ k l.line.text c.list_line-listed.ensures.line_listed later h,
    )
