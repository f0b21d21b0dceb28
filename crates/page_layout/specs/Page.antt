-- A page of the last 64 accepted events of dialect S, each of at most 1,024 words, in lent room (document 02, #107).
-- Assumes nothing.
use Rattle.std.specs.Prelude.{ℕ, ◌+◌, ◌-◌, ◌*◌, ◌%◌, Bool, true, cond, ◌&&◌, List, [], ◌∷◌, leb, ltb, eqb, length, get_or, set, take, drop, replicate, Ok, Err}
use Rattle.std.proofs.Math.Seq.{paste}
use Rattle.event.specs.declared.Row.{Row}
use Rattle.event.specs.Outcome.{Outcome, done, refused, accepted, default_order}
use Rattle.s800_layout.specs.Reading.{reading}
use Rattle.page_layout.specs.declared.Page.{Page}
use Rattle.page_layout.specs.Plane.{table, Plane, no_hits, counted}
use Rattle.event.specs.Refusal.{Answer, refusal}

-- the events that a page holds at most, the words of each at most, and the words that the room for them has at least
abbrev pub most_events : ℕ
most_events = 64

abbrev pub most_words : ℕ
most_words = 1024

abbrev pub room_words : ℕ
room_words = 65536

-- Event k, oldest first, is in slot `first + k`, round the 64 slots; slot s begins at word 1,024 s of the room.
abbrev pub slot_of : Page → ℕ → ℕ
slot_of p k = (p.first + k) % most_events

abbrev pub place_of : Page → ℕ → ℕ
place_of p k = most_words * slot_of p k

-- its number of words, as the page has it, and its words
abbrev pub length_of : Page → ℕ → ℕ
length_of p k = get_or p.lengths (slot_of p k) 0

abbrev pub event_at : Page → (room : List ℕ) → ℕ → List ℕ
event_at p room k = take (length_of p k) (drop (place_of p k) room)

-- the events held, oldest first, each as its words
unfoldable pub held : Page → (room : List ℕ) → List (List ℕ)
held p room = table p.count (event_at p room)

-- no number is above `most`
unfoldable pub all_up_to : (most : ℕ) → List ℕ → Bool
all_up_to most [] = true
all_up_to most (n ∷ ns) = leb n most && all_up_to most ns

-- the lent room has 65,536 words at least, and the page is said to hold at most 64 events, each of at most 1,024 words
unfoldable pub sound : Page → (room : ℕ) → Bool
sound p room = leb room_words room && (leb p.count most_events && all_up_to most_words (table p.count (length_of p)))

-- 28, first of all
abbrev pub if_sound : Page → (room : ℕ) → Answer → Answer
if_sound p room answer = cond (sound p room) answer (Err (refusal 28 0))

-- the reader's own refusal, whatever its room: never 12
abbrev pub if_read : Outcome Row → Answer → Answer
if_read (done rows) answer = answer
if_read (refused n k) answer = Err (refusal n k)

-- what there is behind a call: `changed` where it accepts, and what was there before where it refuses
abbrev pub behind : {A : Type 0} → Answer → (changed before : A) → A
behind answer changed before = cond (accepted answer) changed before

-- Clear: a page that holds nothing. It needs no room, and is never refused.
abbrev pub cleared : Page
cleared = record { first = 0; count = 0; lengths = replicate 64 0 }

-- Add an event: 28; the reader's own; 26 for an event over 1,024 words, place its length; else the number of events then held.
unfoldable pub adding : Page → (words : List ℕ) → (room : ℕ) → Answer
adding p words room =
    if_sound p room
    (if_read (reading default_order words)
    (cond (leb (length words) most_words)
    (Ok (cond (ltb p.count most_events) (p.count + 1) most_events))
    (Err (refusal 26 (length words)))))

-- It takes the slot behind the newest, which in a full page is that of the oldest: the oldest leaves.
unfoldable pub with_newest : Page → (size : ℕ) → Page
with_newest p size = record {
  first = cond (ltb p.count most_events) p.first ((p.first + 1) % most_events);
  count = cond (ltb p.count most_events) (p.count + 1) p.count;
  lengths = set p.lengths (slot_of p p.count) size;
}

-- what a call that may change a page answers, and the page behind it
pub record Update : Type 0 where
  pub answer : Answer
  pub page : Page

unfoldable pub added : Page → (words : List ℕ) → (room : ℕ) → Update
added p words room = record { answer = adding p words room; page = behind (adding p words room) (with_newest p (length words)) p }

unfoldable pub added_room : Page → (words room : List ℕ) → List ℕ
added_room p words room = behind (adding p words (length room)) (paste room (place_of p p.count) words (length words)) room

-- Drop the oldest event: 28; 27 where there is none; else the number of events then held. The room stays as it is.
unfoldable pub dropping : Page → (room : ℕ) → Answer
dropping p room = if_sound p room (cond (eqb p.count 0) (Err (refusal 27 0)) (Ok (p.count - 1)))

unfoldable pub without_oldest : Page → Page
without_oldest p = record { first = (p.first + 1) % most_events; count = p.count - 1; lengths = p.lengths }

unfoldable pub dropped : Page → (room : ℕ) → Update
dropped p room = record { answer = dropping p room; page = behind (dropping p room) (without_oldest p) p }

-- Read back event k, oldest first: 28; 27 past the last; else its number of words.
unfoldable pub finding : Page → (room : ℕ) → ℕ → Answer
finding p room k = if_sound p room (cond (ltb k p.count) (Ok (length_of p k)) (Err (refusal 27 0)))

-- its words, a part of the room; none where it is refused
unfoldable pub read_back : Page → (room : List ℕ) → ℕ → List ℕ
read_back p room k = behind (finding p (length room) k) (event_at p room k) []

-- The plane of the events held: 28; else the number of events counted.
unfoldable pub seeing : Page → (room : ℕ) → Answer
seeing p room = if_sound p room (Ok p.count)

-- it is counted afresh; nothing is counted where it is refused
unfoldable pub plane_in : Page → (room : List ℕ) → Plane
plane_in p room = behind (seeing p (length room)) (counted (held p room)) no_hits
