-- `lines::put_print` meets its contract. Assumes nothing.
use native.Mathlib.Nat.{le_trans, le_of_eq}
use native.Mathlib.Omega.{arith}
use mathlib.Core.Path.{sym}
use lib.Seq.{length-take-le}
use Rattle.listing.proofs.InputLaws.{first_within}
use Rattle.compare_events.proofs.InputLines.{end_within, print_there}
use Rattle.compare_events.proofs.lines.put_print.Goals as goal

pub overflow_add-end : goal.overflow_add-end
overflow_add-end c = omega (arith, end_within c.args.input.now c.first_line-count.ensures c.second_start-from.ensures c.first_line.ensures)

pub slice_bounds-put_lines-end : goal.slice_bounds-put_lines-end
slice_bounds-put_lines-end c = sym (length-take-le _ _ (le_trans (le_of_eq c.first_line-count.ensures) (first_within c.args.input.now)))

pub slice_bounds-put_lines-end-2 : goal.slice_bounds-put_lines-end-2
slice_bounds-put_lines-end-2 c = omega (arith, end_within c.args.input.now c.first_line-count.ensures c.second_start-from.ensures c.first_line.ensures)

pub returns : goal.returns
returns c = rw (print_there c.args.input.now c.first_line-count.ensures c.second_start-from.ensures c.first_line.ensures c.args.order) at c.put_lines.ensures
