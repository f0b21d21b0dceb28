-- `lines::put_eight` meets its contract. Assumes nothing.
use Prim.Native.Nat.{ℕ, ◌+◌}
use mathlib.Core.List.{List}
use Rattle.hex_line.specs.Text.{text, field, texts_below, Placed}
use Rattle.page_text.specs.Text.{count_of}
use Rattle.page_text.proofs.lines.put_eight.Given as goal

-- the count of the k-th channel behind a channel
abbrev pub behind : (counts : List ℕ) (connector channel k : ℕ) → List ℕ
behind counts connector channel k = field (text " ") (count_of counts connector (channel + k))

abbrev pub invariant-loop-k : goal.invariant-loop-k
invariant-loop-k l = Placed l.initial.text l.at (texts_below l.k (behind l.connector.counts.now l.connector.number l.channel)) l.end l.text
