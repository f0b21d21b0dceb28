-- `lines::put_counts` meets its contract. Assumes nothing.
use Prim.Native.Nat.{ℕ, ◌*◌, ◌/◌, ◌%◌}
use mathlib.Core.List.{List}
use Rattle.hex_line.specs.Text.{texts_below, Placed}
use Rattle.page_text.specs.Text.{count_text}
use Rattle.page_text.proofs.lines.put_counts.Given as goal

-- line j
abbrev pub line_of : (counts : List ℕ) (j : ℕ) → List ℕ
line_of counts j = count_text counts (j / 8) (8 * (j % 8))

abbrev pub invariant-loop-line : goal.invariant-loop-line
invariant-loop-line l = Placed l.initial.text l.at (texts_below l.line (line_of l.counts)) l.end l.text
