-- `head::begin` meets its contract. Assumes nothing.
use native.Mathlib.Omega.{arith}
use Rattle.std.proofs.lemmas.Result.{err_from_is_err_and}
use Rattle.event.proofs.Answers.{passed_test, failed_test}
use Rattle.s800_reader.proofs.Beginning.{frame_size, frame_refused, stamp_refused, number_refused, begins}
use Rattle.s800_reader.proofs.head.begin.Goals as goal

pub returns-in_err-check_frame : goal.returns-in_err-check_frame
returns-in_err-check_frame c =
    let p = err_from_is_err_and c.from_residual.result c.from_residual.ensures.1 in
    rw (p.1, p.2) (frame_refused _ _ c.in_err-check_frame.ensures)

pub check_head-requires : goal.check_head-requires
check_head-requires c = omega (arith, frame_size _ c.in_ok-check_frame.ensures)

pub returns-in_err-check_head : goal.returns-in_err-check_head
returns-in_err-check_head c =
    let p = err_from_is_err_and c.from_residual-in_err-check_head.result c.from_residual-in_err-check_head.ensures.1 in
    rw (p.1, p.2) (stamp_refused _ _ c.in_ok-check_frame.ensures (failed_test _ _ c.in_err-check_head.ensures))

pub check_head-requires-2 : goal.check_head-requires-2
check_head-requires-2 c = omega (arith, frame_size _ c.in_ok-check_frame.ensures)

pub returns-in_err-check_head-2 : goal.returns-in_err-check_head-2
returns-in_err-check_head-2 c =
    let p = err_from_is_err_and c.from_residual-in_err-check_head-2.result c.from_residual-in_err-check_head-2.ensures.1 in
    rw (p.1, p.2)
    (number_refused _ _ c.in_ok-check_frame.ensures (λ i. omega (arith, c.type_inv.words i)) (passed_test _ _ c.in_ok-check_head.ensures) (failed_test _ _ c.in_err-check_head-2.ensures))

pub store_stamp-requires : goal.store_stamp-requires
store_stamp-requires c = frame_size _ c.in_ok-check_frame.ensures

pub store_number-requires : goal.store_number-requires
store_number-requires c = frame_size _ c.in_ok-check_frame.ensures

pub returns : goal.returns
returns c =
    begins _ _ c.in_ok-check_frame.ensures (λ i. omega (arith, c.type_inv.words i)) (passed_test _ _ c.in_ok-check_head.ensures) (passed_test _ _ c.in_ok-check_head-2.ensures)
    c.store_stamp.ensures c.store_number.ensures
