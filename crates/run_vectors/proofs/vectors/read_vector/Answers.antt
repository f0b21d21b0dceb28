-- `vectors::read_vector` meets its contract. Assumes nothing.
use mathlib.Core.Path.{sym, ◌∙◌}
use native.Mathlib.Omega.{arith}
use borrow.Author.Tests.{not-true, not-false}
use Rattle.run_vectors.proofs.RowLaws.{vector_no_line, vector_no_head, vector_no_runs, vector_runs, head_room, vector_within}
use Rattle.std.proofs.Common.{ap, not}
use Rattle.run_vectors.proofs.vectors.read_vector.Goals as goal

pub returns-in_err-head : goal.returns-in_err-head
returns-in_err-head c = rw c.from_residual.ensures (record { elements_after = sym (vector_no_line _ _ _ c.in_err-head.ensures.value); vector_within = tt })

pub returns-then-not-head_holds : goal.returns-then-not-head_holds
returns-then-not-head_holds c =
    record { elements_after = sym (vector_no_head _ _ _ c.in_ok-head.ensures.value (sym c.head_holds.ensures ∙ not-true _ (ap not c.if-not-head_holds.true))); vector_within = tt }

pub returns-in_err-rows : goal.returns-in_err-rows
returns-in_err-rows c =
    let holds = sym c.head_holds.ensures ∙ not-false _ (ap not c.if-not-head_holds.false) in
    rw c.from_residual-in_err-rows.ensures (record { elements_after = sym (vector_no_runs _ _ _ c.in_ok-head.ensures.value holds c.in_err-rows.ensures.elements_after); vector_within = tt })

pub returns : goal.returns
returns c =
    let holds = sym c.head_holds.ensures ∙ not-false _ (ap not c.if-not-head_holds.false) in
    let w = c.in_ok-rows.ensures.rows_within in
    rw c.vector_of.ensures (record {
      elements_after = sym (vector_runs _ _ _ c.in_ok-head.ensures.value holds c.in_ok-rows.ensures.elements_after);
      vector_within = vector_within _ _ _ _ _ _ _ (omega (arith, w.0)) w.1 (head_room _ holds) (omega (arith, w.2));
    })
