-- What is printed, as text. Assumes nothing.
use Rattle.std.specs.Prelude.{cond, List, ◌++◌, ℕ, ◌≤◌, length}
use Rattle.event.specs.Refusal.{Answer}
use Rattle.event.specs.Outcome.{accepted, refusal_number, count_or_place}
use Rattle.hex_line.specs.Text.{text, hex_of, field}

-- the bytes of the longest line, that of a refusal
abbrev pub longest_text : ℕ
longest_text = 32

-- the text not yet written ends before `at` within the buffer, which has room for any line
abbrev pub Pending : List ℕ → (at : ℕ) → Type 0
Pending buffer at = (at ≤ length buffer) × (longest_text ≤ length buffer)

-- `REPEAT WORD` and a line feed
unfoldable pub run_text : ℕ → ℕ → List ℕ
run_text times word = (hex_of 8 times ++ field (text " ") word) ++ text "\n"

unfoldable pub refusal_text : (number place : ℕ) → List ℕ
refusal_text number place = (field (text "refused ") number ++ field (text " place ") place) ++ text "\n"

unfoldable pub count_text : ℕ → List ℕ
count_text count = field (text "accepted ") count ++ text "\n"

unfoldable pub answer_text : Answer → List ℕ
answer_text a = cond (accepted a) (count_text (count_or_place a)) (refusal_text (refusal_number a) (count_or_place a))
