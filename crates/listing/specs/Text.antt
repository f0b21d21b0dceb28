-- What is listed, as text (document 01, 'The hexadecimal lines'): numbers as eight hexadecimal digits.
-- Assumes nothing.
use Rattle.std.specs.Prelude.{ℕ, Bool, cond, List, [], ◌++◌, leb, length}
use Rattle.event.specs.Refusal.{Answer}
use Rattle.event.specs.declared.Row.{Row}
use Rattle.event.specs.Outcome.{accepted, refusal_number, count_or_place}
use Rattle.event.specs.Parser.{each}
use Rattle.hex_line.specs.Text.{text, hex_of, field}

-- line number k accepted, with its number of rows
unfoldable pub accepted_text : ℕ → ℕ → List ℕ
accepted_text k count = field (text "event ") k ++ field (text " rows ") count ++ text "\n"

-- line number k refused, with the refusal number and its place
unfoldable pub refused_text : ℕ → ℕ → ℕ → List ℕ
refused_text k number place = field (text "event ") k ++ field (text " refused ") number ++ field (text " place ") place ++ text "\n"

abbrev pub answer_text : ℕ → Answer → List ℕ
answer_text k a = cond (accepted a) (accepted_text k (count_or_place a)) (refused_text k (refusal_number a) (count_or_place a))

unfoldable pub row_text : Row → List ℕ
row_text r = hex_of 8 r.kind ++ field (text " ") r.unit ++ field (text " ") r.channel ++ field (text " ") r.datum ++ text "\n"

-- the answer, then the rows
unfoldable pub event_text : ℕ → Answer → List Row → List ℕ
event_text k a rs = answer_text k a ++ each row_text rs

-- the last line begins with `cut` where the listing stopped before the input's end
abbrev pub last_label : (cut : Bool) → List ℕ
last_label cut = cond cut (text "cut events ") (text "end events ")

-- how many lines were accepted, and how many refused
unfoldable pub last_text : (cut : Bool) → (accepted refused : ℕ) → List ℕ
last_text cut accepted refused = field (last_label cut) accepted ++ field (text " refused ") refused ++ text "\n"

-- a text where there is room for all of it; else nothing
abbrev pub fitted : ℕ → List ℕ → List ℕ
fitted room t = cond (leb (length t) room) t []
