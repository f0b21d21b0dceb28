-- `line::fill` meets its contract. Assumes nothing.
use Rattle.hex_line.proofs.LineLaws.{Filled}
use Rattle.hex_line.proofs.line.fill.Given as goal

abbrev pub invariant-loop-i : goal.invariant-loop-i
invariant-loop-i g l = Filled g.W.Word.of_number l.letter l.digits l.line l.initial.words l.count l.i l.words
