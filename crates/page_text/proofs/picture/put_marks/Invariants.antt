-- `picture::put_marks` meets its contract. Assumes nothing.
use Prim.Native.Nat.{ℕ, ◌+◌}
use mathlib.Core.List.{List}
use Rattle.hex_line.specs.Text.{texts_below, Placed}
use Rattle.page_text.specs.Text.{count_of, mark}
use Rattle.page_text.proofs.picture.put_marks.Given as goal

-- the mark of a channel
abbrev pub mark_of : (counts : List ℕ) (connector least channel : ℕ) → List ℕ
mark_of counts connector least channel = mark least (count_of counts connector channel)

abbrev pub invariant-loop-channel : goal.invariant-loop-channel
invariant-loop-channel l = Placed l.initial.text l.at (texts_below l.channel (mark_of l.connector.counts.now l.connector.number l.least)) (l.at + l.channel) l.text
