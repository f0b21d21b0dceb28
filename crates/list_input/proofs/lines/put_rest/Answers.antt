-- `lines::put_rest` meets its contract. Assumes nothing.
use Prim.Native.Nat.{ℕ, ◌+◌, ◌≤◌}
use native.Mathlib.Omega.{arith}
use mathlib.Core.Path.{◌≡◌, sym, ◌∙◌}
use mathlib.Core.Bool.{Bool}
use mathlib.Core.List.{List}
use lib.ListN.{take, drop}
use Rattle.event.specs.declared.StampOrder.{StampOrder}
use Rattle.listing.specs.declared.Next.{Next}
use Rattle.listing.specs.Input.{next_of}
use Rattle.listing.specs.Lengths.{most_text}
use Rattle.listing.proofs.InputLaws.{Known, known}
use Rattle.listing.proofs.Room.{most_text_lem}
use Rattle.list_input.specs.declared.Run.{Run}
use Rattle.list_input.specs.Run.{rest_of, LineListed, behind, answer_to, rows_to}
use Rattle.list_input.proofs.Steps.{first_inside, rest_long, rest_cut, rest_ended}
use Rattle.list_input.proofs.lines.put_rest.Goals as goal

-- what is known of what comes next
next_known : {n next : Next} (run : Run) (input : List ℕ) (ended : Bool) → next ≡ next_of (rest_of run input) ended (run.accepted + run.refused) → next ≡ n
    → Known (rest_of run input) ended (run.accepted + run.refused) n
next_known run input ended e is = rw (sym e ∙ is) at (known (rest_of run input) ended (run.accepted + run.refused))

-- where the text of a line that is too long ends
long_end : (o : StampOrder) (input : List ℕ) (count : ℕ) (run : Run) (text : List ℕ) (run' : Run) (text' : List ℕ)
    → LineListed (answer_to o (take count (drop run.from input))) (rows_to o (take count (drop run.from input))) (behind run count) run text run' text'
    → run'.at ≤ run.at + most_text
long_end o input count run text run' text' l =
    omega (arith, l.placed.ends, most_text_lem o (take count (drop run.from input)) (run.accepted + run.refused + 1))

pub list_line-last-requires-clause-line_inside : goal.list_line-last-requires-clause-line_inside
list_line-last-requires-clause-line_inside c =
    let a = c.args in
    let k = next_known a.run a.input.now a.ended c.requires.next_value.0 c.in-Long.is in
    let w = first_inside a.order a.ended a.input.now a.text.now a.run c.requires.inside k.0 k.1 in
    record { some = w.0; within = w.1; lines = k.2; text = omega (arith, c.requires.last_length_in_bounds) }

pub put_last-requires : goal.put_last-requires
put_last-requires c =
    omega (
      arith,
      long_end c.args.order c.args.input.now _ c.args.run _ _ _ c.list_line-last.ensures.line_listed,
      c.list_line-last.auto.text,
      c.requires.last_length_in_bounds,
    )

pub returns-in-Long : goal.returns-in-Long
returns-in-Long c =
    let a = c.args in
    let l = c.list_line-last.ensures.line_listed in record {
      upper_bound = omega (arith, c.put_last.ensures.value, long_end a.order a.input.now _ a.run _ _ _ l, c.requires.last_length_in_bounds);
      rest_put = rest_long a.order a.ended a.input.now a.text.now a.run c.requires.inside
          (next_known a.run a.input.now a.ended c.requires.next_value.0 c.in-Long.is) c.requires.last_length_in_bounds l c.list_line-last.auto.text
          c.put_last.ensures.placed;
    }

pub returns-in-Cut-clause-rest_put : goal.returns-in-Cut-clause-rest_put
returns-in-Cut-clause-rest_put c =
    let a = c.args in
    rest_cut a.order a.ended a.input.now a.text.now a.run c.requires.inside
    (next_known a.run a.input.now a.ended c.requires.next_value.0 c.in-Cut.is) (omega (arith, c.requires.last_length_in_bounds))
    c.put_last-in-Cut.ensures.placed

pub returns-in-End-clause-rest_put : goal.returns-in-End-clause-rest_put
returns-in-End-clause-rest_put c =
    let a = c.args in
    rest_ended a.order a.ended a.input.now a.text.now a.run c.requires.inside
    (next_known a.run a.input.now a.ended c.requires.next_value.0 c.in-End.is) (omega (arith, c.requires.last_length_in_bounds))
    c.put_last-in-End.ensures.placed
