-- `lines::list_more` meets its contract. Assumes nothing.
use Prim.Native.Nat.{ℕ, ◌+◌, ◌-◌, ◌≤◌}
use mathlib.Core.Path.{◌≡◌, refl, sym, ◌∙◌}
use mathlib.Core.Bool.{Bool, false, false≢true}
use mathlib.Core.List.{List}
use native.Mathlib.Omega.{arith}
use lib.ListN.{length}
use Rattle.event.specs.declared.StampOrder.{StampOrder}
use Rattle.event.proofs.Impossible.{impossible}
use Rattle.listing.specs.declared.Next.{Next}
use Rattle.listing.specs.declared.Next.TheVariants.{Line, Long, More, End, Cut}
use Rattle.listing.specs.Input.{next_of}
use Rattle.hex_line.specs.Line.{longest_line}
use Rattle.listing.proofs.InputLaws.{known}
use Rattle.list_input.specs.declared.Run.{Run}
use Rattle.list_input.specs.declared.lines.Stop.TheVariants as stop
use Rattle.list_input.specs.Run.{Inside, rest_of, ends, paused}
use Rattle.list_input.proofs.Steps.{rest_length}
use Rattle.list_input.proofs.lines.list_more.Goals as goal

-- where the listing goes on a line comes next, or more of the input is needed
line_next : (n : Next) → ends n ≡ false → paused n ≡ stop.Full → (k : ℕ) × (n ≡ Line k)
line_next (Line k) e p = (k, refl)
line_next (Long k) e p = absurd (false≢true (sym e))
line_next More e p = impossible cc
line_next End e p = absurd (false≢true (sym e))
line_next Cut e p = absurd (false≢true (sym e))

more_next : (n : Next) → paused n ≡ stop.More → n ≡ More
more_next (Line k) p = impossible cc
more_next (Long k) p = impossible cc
more_next More p = refl
more_next End p = impossible cc
more_next Cut p = impossible cc

-- more of the input is needed only where it has not ended, and behind less than a line that is too long
more_known : (o : StampOrder) (ended : Bool) (input text : List ℕ) (run : Run) (next : Next) → Inside (length input) (length text) run
    → next ≡ next_of (rest_of run input) ended (run.accepted + run.refused) → next ≡ More
    → (ended ≡ false) × (run.end - run.from ≤ longest_line) × (next_of (rest_of run input) false (run.accepted + run.refused) ≡ More)
more_known o ended input text run next i e is =
    let k = rw (sym e ∙ is) at (known (rest_of run input) ended (run.accepted + run.refused)) in
    (k.0, omega (arith, k.1, rest_length o ended input text run i), rw k.0 at (sym e ∙ is))

pub returns-then-not-is_end-clause-halts : goal.returns-then-not-is_end-clause-halts
returns-then-not-is_end-clause-halts c =
    let l = c.list_lines-listed in
    let n = l.result.next in
    record {
      full = λ e. (let k = line_next n (sym c.is_end.ensures ∙ c.if-not-is_end.true) (sym c.pause.ensures ∙ e) in omega (arith, l.ensures.by_index k.0 k.1));
      more = λ e. more_known c.args.order c.args.ended c.args.input.now c.args.text.now l.result.run n l.ensures.inside_2 l.ensures.next_value (more_next n (sym c.pause.ensures ∙ e));
    }
