-- `vectors::expand` meets its contract. Assumes nothing.
use Prim.Native.Nat.{◌+◌, ◌-◌}
use mathlib.Core.Path.{◌≡◌, refl, sym, ◌∙◌}
use native.Mathlib.Omega.{arith}
use Rattle.run_vectors.proofs.RowLaws.{runs_none, runs_malformed, runs_crowded, runs_next}
use Rattle.run_vectors.proofs.vectors.expand.Goals as goal

pub loop-init : goal.loop-init
loop-init c = let all : c.args.runs - 0 ≡ c.args.runs = omega arith in (refl, omega arith, c.requires, omega arith, rw all)

pub read_line-requires : goal.read_line-requires
read_line-requires c = c.loop.invariant.2

pub returns-in_err-run : goal.returns-in_err-run
returns-in_err-run c =
    let left = c.args.runs - c.loop.counter in
    rw c.from_residual.ensures
    (record { elements_after = sym (c.loop.invariant.4 ∙ runs_malformed _ _ _ _ _ left (omega (arith, c.loop-test.true)) c.in_err-run.ensures.value); rows_within = tt })

pub overflow_sub-most : goal.overflow_sub-most
overflow_sub-most c = c.loop.invariant.3

pub returns-then-most-count : goal.returns-then-most-count
returns-then-most-count c =
    let left = c.args.runs - c.loop.counter in record {
      elements_after = sym (c.loop.invariant.4 ∙ runs_crowded _ _ _ _ _ left (omega (arith, c.loop-test.true)) c.in_ok-run.ensures.value c.if-most-count.true);
      rows_within = tt;
    }

pub repeat_row-requires : goal.repeat_row-requires
repeat_row-requires c = omega (arith, c.loop.invariant.0, c.loop.invariant.3, c.if-most-count.false)

pub loop-preserved : goal.loop-preserved
loop-preserved c =
    let v = c.loop.invariant in
    let inside = c.in_ok-run.ensures.line_within in
    let left : c.args.runs - (c.loop.counter + 1) ≡ c.args.runs - c.loop.counter - 1 = omega arith in (
      omega (arith, v.0, c.repeat_row.auto.elements),
      omega (arith, v.1),
      omega (arith, inside),
      omega (arith, v.3, c.if-most-count.false),
      rw left
          (v.4 ∙ runs_next _ _ _ _ _ (c.args.runs - c.loop.counter) (omega (arith, c.loop-test.true)) c.in_ok-run.ensures.value c.if-most-count.false c.from.ensures c.repeat_row.ensures),
    )

pub returns : goal.returns
returns c =
    let v = c.loop.invariant in record {
      elements_after = sym (v.4 ∙ runs_none _ _ _ _ _ (c.args.runs - c.loop.counter) (omega (arith, c.loop-test.false)));
      rows_within = (v.1, v.2, v.3);
    }
