-- The first 14 words of an event, as the code reads them (the contracts of private functions).
-- Assumes nothing.
use Rattle.std.specs.Prelude.{ℕ, ◌+◌, ◌-◌, cond, List, [], ◌∷◌, eqb, leb, length, get_or, Result, Ok, Err}
use Rattle.event.specs.declared.refusal.Refusal.{Refusal}
use Rattle.event.specs.declared.Row.{Row}
use Rattle.event.specs.declared.StampOrder.{StampOrder}
use Rattle.event.specs.Refusal.{PartAnswer, refusal, verdict}
use Rattle.event.specs.Parser.{ended, several, each}
use Rattle.event.specs.Words.{between}
use Rattle.event.specs.Scanning.{reading, BeginsBy}
use Rattle.s800_layout.specs.Event.{Stamp, Number, event_tag, stamp_tag, number_tag}
use Rattle.s800_layout.specs.Layout.{version, packet_row, stamp_row, number_row, packet_rows, rows, smallest_event, largest_event}
use Rattle.s800_layout.specs.Reading.{packet, event_parser}

-- what a test of the words answers
abbrev pub Frame : Type 0
Frame = Result (Unit {0}) Refusal

-- refusals 1 to 4
abbrev pub frame_words : List ℕ → Frame
frame_words ws =
    cond (eqb (get_or ws 0 0) (length ws))
    (cond (eqb (get_or ws 1 0) event_tag)
    (cond (eqb (get_or ws 2 0) version) (Ok tt) (Err (refusal 4 2)))
    (Err (refusal 3 1)))
    (Err (refusal 2 0))

unfoldable pub frame_of : List ℕ → Frame
frame_of ws = cond (between smallest_event largest_event (length ws)) (frame_words ws) (Err (refusal 1 0))

-- refusals 5, 6 and 7 of a packet at `start` with tag t and length m; 0 for none
unfoldable pub head_fault : List ℕ → ℕ → ℕ → ℕ → ℕ
head_fault ws start t m =
    cond (leb 2 (get_or ws start 0))
    (cond (leb (get_or ws start 0) (length ws - start))
    (cond (eqb (get_or ws (start + 1) 0) t)
    (cond (eqb m (get_or ws start 0)) 0 7)
    6)
    5)
    5

abbrev pub head_place : ℕ → ℕ → ℕ
head_place number start = cond (eqb number 6) (start + 1) start

-- what is answered to it
abbrev pub head_verdict : List ℕ → (start t m : ℕ) → Frame
head_verdict ws start t m = verdict (head_fault ws start t m) (head_place (head_fault ws start t m) start)

abbrev pub stamp_of : ℕ → ℕ → ℕ → ℕ → Stamp
stamp_of a b c d = record { chunk0 = a; chunk1 = b; chunk2 = c; chunk3 = d }

abbrev pub stamp_at : List ℕ → Stamp
stamp_at ws = stamp_of (get_or ws 5 0) (get_or ws 6 0) (get_or ws 7 0) (get_or ws 8 0)

abbrev pub number_at : List ℕ → Number
number_at ws = record { chunk0 = get_or ws 11 0; chunk1 = get_or ws 12 0; chunk2 = get_or ws 13 0 }

-- the rows of the stamp packet, and of the event number packet
abbrev pub stamp_rows : StampOrder → List ℕ → List Row
stamp_rows o ws = packet_row stamp_tag 0 ∷ stamp_row o (stamp_at ws) ∷ []

abbrev pub number_rows : List ℕ → List Row
number_rows ws = packet_row number_tag 0 ∷ number_row (number_at ws) ∷ []

-- the first 14 words are refused; or the scan of the packets after them ends as that of the event does
pub record Begins (o : StampOrder) (ws before after : List ℕ) (r : PartAnswer) : Type 0 where
  pub begins : BeginsBy reading (each packet_rows) (several packet ended) (rows o) (event_parser (length ws) 0 ws) ws 0 before after r
