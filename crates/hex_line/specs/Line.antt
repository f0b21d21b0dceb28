-- A hexadecimal line (document 01, 'The hexadecimal lines'): the dialect's letter, then for each word a space and 4 or 8 lower-case
-- hexadecimal digits. The line feed is no part of it.
-- Assumes nothing.
use Rattle.std.specs.Prelude.{Bool, true, cond, ◌&&◌, ◌||◌, List, [], ◌∷◌, ◌++◌, ℕ, zero, suc, ◌+◌, ◌-◌, ◌*◌, ◌/◌, ◌%◌, ltb, leb, eqb, length, get_or, map, drop}
use Rattle.event.specs.Outcome.{Outcome, done, refused, in_word_room}
use Rattle.event.specs.Words.{between}
use Rattle.dialects.specs.declared.Dialect.{Dialect}
use Rattle.dialects.specs.declared.Dialect.TheVariants.{S, F, R}
use Rattle.dialects.specs.Dialects.{width}

-- the code of the letter that a line of the dialect begins with
abbrev pub letter : Dialect → ℕ
letter S = 83
letter F = 70
letter R = 82

-- the digits of a word: 4 in dialects S and R, 8 in F
abbrev pub digits : Dialect → ℕ
digits d = width d / 4

-- the most characters of a line
abbrev pub longest_line : ℕ
longest_line = 20481

-- `0` to `9` or `a` to `f`
unfoldable pub is_digit : ℕ → Bool
is_digit c = between 48 57 c || between 97 102 c

-- the value of such a digit; below 16 at any character
unfoldable pub digit_of : ℕ → ℕ
digit_of c = cond (ltb c 58) (c % 16) ((c + 9) % 16)

-- n digits stand from index `at` on
unfoldable pub all_digits : List ℕ → ℕ → ℕ → Bool
all_digits line at zero = true
all_digits line at (suc n) = is_digit (get_or line at 0) && all_digits line (at + 1) n

-- n times a space and k digits stand from index `at` on
unfoldable pub all_groups : ℕ → List ℕ → ℕ → ℕ → Bool
all_groups k line at zero = true
all_groups k line at (suc n) = eqb (get_or line at 0) 32 && all_digits line (at + 1) k && all_groups k line (at + (k + 1)) n

-- how many words stand behind the letter, of k digits each
abbrev pub word_count : ℕ → List ℕ → ℕ
word_count k line = (length line - 1) / (k + 1)

-- not empty and not too long; the letter; and nothing but whole groups up to the end
unfoldable pub well_formed : ℕ → ℕ → List ℕ → Bool
well_formed first k line =
    between 1 longest_line (length line)
    && eqb (get_or line 0 0) first
    && eqb ((length line - 1) % (k + 1)) 0
    && all_groups k line 1 (word_count k line)

-- the value of the n digits from index `at` on, the most significant first
unfoldable pub value_of : List ℕ → ℕ → ℕ → ℕ
value_of line at zero = 0
value_of line at (suc n) = value_of line at n * 16 + digit_of (get_or line (at + n) 0)

-- the number of the eight digits from index `at` on, 0 where fewer than eight characters stand there
unfoldable pub number_at : List ℕ → ℕ → ℕ
number_at text at = cond (leb (at + 8) (length text)) (value_of text at 8) 0

-- f 0, f 1, and so on: n of them
unfoldable pub firsts : (ℕ → ℕ) → ℕ → List ℕ
firsts f zero = []
firsts f (suc n) = firsts f n ++ (f n ∷ [])

-- the line's first n words, of k digits each
abbrev pub words_of : ℕ → List ℕ → ℕ → List ℕ
words_of k line = firsts (λ (i : ℕ). value_of line (2 + (k + 1) * i) k)

-- a buffer with the words of these numbers at its front
abbrev pub overlaid_by : {W : Type 0} → (word_of : ℕ → W) → List ℕ → List W → List W
overlaid_by word_of ws buffer = map word_of ws ++ drop (length ws) buffer

-- the words of k digits each behind a letter: 30 unless the line is such a line
abbrev pub group_words : ℕ → ℕ → List ℕ → Outcome ℕ
group_words first k line = cond (well_formed first k line) (done (words_of k line (word_count k line))) (refused 30 0)

-- the words of a line
abbrev pub line_words : Dialect → List ℕ → Outcome ℕ
line_words d = group_words (letter d) (digits d)

-- into room for so many words: 24 last
abbrev pub line_into : Dialect → (room : ℕ) → List ℕ → Outcome ℕ
line_into d room line = in_word_room room (line_words d line)

-- the most words of a line that is not too long
abbrev pub most_words : Dialect → ℕ
most_words d = (longest_line - 1) / (digits d + 1)
