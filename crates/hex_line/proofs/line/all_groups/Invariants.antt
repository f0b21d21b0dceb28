-- `line::all_groups` meets its contract. The invariant: what is left to test decides the whole test. Assumes nothing.
use Rattle.hex_line.proofs.LineLaws.{Left}
use Rattle.hex_line.proofs.line.all_groups.Given as goal

abbrev pub invariant-loop-i : goal.invariant-loop-i
invariant-loop-i l = Left l.digits l.line l.at l.count l.i
