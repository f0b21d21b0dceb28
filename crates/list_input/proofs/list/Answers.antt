-- `list` meets its contract. The invariant: turns from the start led here, and the text of the last stands in the buffer. Assumes nothing.
use Prim.Native.Nat.{◌+◌, ◌-◌}
use mathlib.Core.Path.{◌≡◌, refl, sym, ◌∙◌}
use mathlib.Core.Bool.{Bool, true, false, ◌&&◌, false≢true}
use native.Mathlib.Omega.{arith}
use Rattle.list_input.specs.Turns.{most_turns}
use Rattle.list_input.proofs.Turns.{told_start, told_turn, told_listed}
use Rattle.list_input.proofs.list.Goals as goal

failed_turn : (b : Bool) → false ≡ b && false
failed_turn true = refl
failed_turn false = refl

pub loop-turn-init : goal.loop-turn-init
loop-turn-init c =
    let d = c.default-state.ensures in
    let r = c.default-state.result.run in
    let z : (r.from ≡ 0) × ((r.end ≡ 0) × ((r.at ≡ 0) × ((r.accepted ≡ 0) × (r.refused ≡ 0)))) = d.0 in
    rw (z.0, z.1.0, z.1.1.0, z.1.1.1.0, z.1.1.1.1, d.1.0, d.1.1) (refl, record { begins = omega arith; ends = omega arith; text = omega arith; lines = omega arith }, told_start c.args.order)

pub loop-turn-preserved : goal.loop-turn-preserved
loop-turn-preserved c =
    let e = c.in-Ok.ensures in
    let more : most_turns - (c.loop-turn._turn + 1) ≡ most_turns - c.loop-turn._turn - 1 = omega arith in (
      c.if-state.false,
      e.inside_2,
      rw more (told_turn c.loop-turn.invariant.2 (omega arith) e.some_turn),
    )

pub returns-in-Err : goal.returns-in-Err
returns-in-Err c =
    let t = told_turn c.loop-turn.invariant.2 (omega arith) c.in-Err.ensures.some_turn in
    rw c.ending.ensures (refl, told_listed false (failed_turn c.in-Err.stopped.over) (λ _ f. absurd (false≢true (sym f))) t)

pub returns-then-state : goal.returns-then-state
returns-then-state c =
    let t = told_turn c.loop-turn.invariant.2 (omega arith) c.in-Ok.ensures.some_turn in
    rw c.ending-then-state.ensures (refl, told_listed true (rw c.if-state.true refl) (λ f _. absurd (false≢true (sym f ∙ c.if-state.true))) t)

pub returns : goal.returns
returns c =
    let on = c.loop-turn.invariant.0 in
    rw c.ending-2.ensures (refl, told_listed false (rw on refl) (λ _ _. omega arith) c.loop-turn.invariant.2)
