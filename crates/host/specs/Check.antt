-- The check of dialect S on bytes, for a host analysis written in C (document 01, end of 'What a reading says no with').
-- Assumes nothing.
use Rattle.std.specs.Prelude.{ℕ, ◌+◌, ◌*◌, ◌/◌, ◌%◌, ◌^◌, ◌≤◌, ◌<◌, ◌≡◌, cond, List, [], ◌∷◌, ltb, eqb, length, Ok, Err}
use Rattle.event.specs.declared.Row.{Row}
use Rattle.event.specs.Outcome.{Outcome, done, refused, answer_of, order_of, refusal_number, count_or_place}
use Rattle.s800_layout.specs.Reading.{reading}
use Rattle.event.specs.Refusal.{Answer}

-- the words of bytes, low byte first (of an odd count, which is refused, the last byte is in no word)
unfoldable pub words_of : List ℕ → List ℕ
words_of [] = []
words_of (low ∷ []) = []
words_of (low ∷ high ∷ bytes) = (low + 256 * high) ∷ words_of bytes

-- 31, place 0, for an order that is neither 0 nor 1, first; then 1, place 0, for an odd byte count; then what the reading of the words gives, room being no matter
unfoldable pub checking : List ℕ → ℕ → Outcome Row
checking bytes order =
    cond (ltb 1 order)
    (refused 31 0)
    (cond (eqb (length bytes % 2) 0) (reading (order_of order) (words_of bytes)) (refused 1 0))

-- an answer as one number: the rows, or 2^32 × refusal + place (an answer that accepts has refusal number 0)
abbrev pub packed : Answer → ℕ
packed a = 2 ^ 32 * refusal_number a + count_or_place a

-- what the host gets
abbrev pub host_answer : List ℕ → ℕ → ℕ
host_answer bytes order = packed (answer_of (checking bytes order))

-- The host takes the number apart again: the upper 32 bits are 0 exactly where the event is accepted, and else the refusal number; the lower are the rows, or the place.
-- An event has 4 to 4,096 rows.
abbrev pub Apart : ℕ → Outcome Row → Type 0
Apart r (done rows) = (4 ≤ length rows) × (length rows ≤ 4096) × (r / 2 ^ 32 ≡ 0) × (r % 2 ^ 32 ≡ length rows)
Apart r (refused n k) = (1 ≤ n) × (r / 2 ^ 32 ≡ n) × (r % 2 ^ 32 ≡ k)

abbrev pub TakenApart : Type 0
TakenApart = (bytes : List ℕ) (order : ℕ) → Apart (host_answer bytes order) (checking bytes order)

-- Both stamp orders give the same answer.
abbrev pub OrderIndifferent : Type 0
OrderIndifferent = (bytes : List ℕ) → host_answer bytes 0 ≡ host_answer bytes 1

-- For private functions: a refusal's place has 32 bits.
abbrev pub In32 : Answer → Type 0
In32 (Ok n) = Unit {0}
In32 (Err r) = r.place < 2 ^ 32
