-- `picture::put_rows` meets its contract. Assumes nothing.
use Prim.Native.Nat.{ℕ, ◌-◌}
use mathlib.Core.List.{List}
use Rattle.hex_line.specs.Text.{texts_below, Placed}
use Rattle.page_text.specs.Text.{least_of, row_text}
use Rattle.page_text.proofs.picture.put_rows.Given as goal

-- the k-th row from above
abbrev pub row_of : (counts : List ℕ) (most connector k : ℕ) → List ℕ
row_of counts most connector k = row_text counts connector (least_of most (7 - k))

abbrev pub invariant-loop-row : goal.invariant-loop-row
invariant-loop-row l = Placed l.initial.text l.at (texts_below l.row (row_of l.connector.counts.now l.most l.connector.number)) l.end l.text
