-- When a line has words, said by the line that the words make.
-- Assumes nothing.
use Rattle.std.specs.Prelude.{ℕ, ◌≤◌, ◌<◌, ◌^◌, ◌≡◌, ◌↔◌, List, ◌∷◌, length}
use Rattle.event.specs.Parser.{each, All}
use Rattle.event.specs.Outcome.{done}
use Rattle.dialects.specs.declared.Dialect.{Dialect}
use Rattle.dialects.specs.Dialects.{width}
use Rattle.hex_line.specs.Line.{letter, digits, longest_line, line_words}
use Rattle.hex_line.specs.Text.{hex_of}

-- the line that words of a dialect make: the letter, then for each word a space and its digits (document 01, 'The hexadecimal lines')
abbrev pub line_of : Dialect → List ℕ → List ℕ
line_of d ws = letter d ∷ each (λ (w : ℕ). 32 ∷ hex_of (digits d) w) ws

-- A line has these words exactly when it is the line that they make, each fits the dialect's width, and it is not too long.
abbrev pub LineExact : Type 0
LineExact = (d : Dialect) (line ws : List ℕ) → (line_words d line ≡ done ws) ↔ ((line ≡ line_of d ws) × All (λ (w : ℕ). w < 2 ^ width d) ws × (length line ≤ longest_line))
