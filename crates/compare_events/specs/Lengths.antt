-- The characters of what is printed, whatever its numbers. (Contracts of private functions speak of them.)
-- Assumes nothing.
use Rattle.std.specs.Prelude.{ℕ, ◌+◌, ◌*◌}
use Rattle.dialects.specs.declared.Dialect.TheVariants.{S}
use Rattle.dialects.specs.Dialects.{largest_rows}
use Rattle.hex_line.specs.Line.{longest_line, most_words}

-- an answer, at most
abbrev pub answer_length : ℕ
answer_length = 39

-- a differing word; a word of the tail, at most; a differing row, in two lines; the last line
abbrev pub word_length : ℕ
word_length = 45

abbrev pub tail_length : ℕ
tail_length = 30

abbrev pub row_length : ℕ
row_length = 56

abbrev pub rows_length : ℕ
rows_length = 2 * row_length

abbrev pub last_length : ℕ
last_length = 47

-- the comparison of two lines' words: no words are shorter than those of S, and a word is in the word list or in the tail, or in neither
abbrev pub compared_length : ℕ
compared_length = word_length * most_words S + rows_length * largest_rows + last_length

abbrev pub most_text : ℕ
most_text = 2 * answer_length + compared_length

-- two lines with their line feeds
abbrev pub most_input : ℕ
most_input = 2 * (longest_line + 1)
