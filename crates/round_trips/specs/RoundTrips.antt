-- The round trips of demand 2, for calls of `read` and `write` one after the other, each into a lent buffer.
-- Assumes nothing.
use Rattle.std.specs.Prelude.{ℕ, List}
use Rattle.event.specs.declared.Row.{Row}
use Rattle.event.specs.declared.StampOrder.{StampOrder}
use Rattle.event.specs.Outcome.{Outcome, done, refused, in_room, in_word_room}
use Rattle.event.specs.Writing.{rows_in}
use Rattle.dialects.specs.declared.Dialect.{Dialect}
use Rattle.dialects.specs.Dialects.{reading_into, writing_into}

-- where the first call accepts, the second's outcome; else the first's refusal
abbrev pub after : {A B : Type 0} → Outcome A → Outcome B → Outcome B
after (done xs) second = second
after (refused n k) second = refused n k

-- What a reading, then a writing of the rows read, gives: the reading's refusal, else the words themselves, or 24.
abbrev pub back_words : Dialect → StampOrder → (rowRoom wordRoom : ℕ) → List ℕ → Outcome ℕ
back_words d o rowRoom wordRoom ws = after (reading_into d rowRoom o ws) (in_word_room wordRoom (done ws))

-- What a writing, then a reading of the words written, gives: the writing's refusal, else the rows themselves, or 12.
abbrev pub back_rows : Dialect → StampOrder → (wordRoom rowRoom : ℕ) → List ℕ → Outcome Row
back_rows d o wordRoom rowRoom xs = after (writing_into d wordRoom o xs) (in_room rowRoom (done (rows_in xs)))
