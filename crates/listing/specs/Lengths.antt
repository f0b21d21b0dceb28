-- The characters of what is listed, whatever its numbers, and the most of a line that is not too long. (Contracts of private functions speak of them.)
-- Assumes nothing.
use Rattle.std.specs.Prelude.{ℕ, ◌+◌, ◌*◌, cond}
use Rattle.event.specs.Refusal.{Answer}
use Rattle.event.specs.Outcome.{accepted}
use Rattle.dialects.specs.declared.Dialect.TheVariants.{S}
use Rattle.hex_line.specs.Line.{most_words}

-- an accepted line, a refused one
abbrev pub accepted_length : ℕ
accepted_length = 29

abbrev pub refused_length : ℕ
refused_length = 47

abbrev pub answer_length : Answer → ℕ
answer_length a = cond (accepted a) accepted_length refused_length

-- a row
abbrev pub row_length : ℕ
row_length = 36

-- the last line
abbrev pub last_length : ℕ
last_length = 37

-- a line has no more rows than words, and no words are shorter than those of S
abbrev pub most_rows : ℕ
most_rows = most_words S

abbrev pub most_text : ℕ
most_text = refused_length + row_length * most_rows
