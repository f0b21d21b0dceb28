-- What is shown of the page (document 02, #107): it is a queue, no refusal changes it, and the plane counts the hits of the events held.
-- Assumes nothing.
use Rattle.std.specs.Prelude.{ℕ, ◌≤◌, ◌<◌, ◌≡◌, Bool, true, cond, ◌&&◌, List, [], ◌∷◌, ◌++◌, leb, ltb, length, get_or, Ok, Err}
use Rattle.std.proofs.Math.ListN as list
use Rattle.event.specs.declared.refusal.Refusal.{Refusal}
use Rattle.event.specs.declared.StampOrder.{StampOrder}
use Rattle.event.specs.Parser.{each}
use Rattle.event.specs.Refusal.{number, refusal}
use Rattle.event.specs.Outcome.{refused, answer_of, accepted, given, default_order}
use Rattle.s800_layout.specs.Layout.{pad}
use Rattle.s800_layout.specs.Reading.{reading}
use Rattle.page_layout.specs.declared.Page.{Page}
use Rattle.page_layout.specs.Plane.{rows_of, hits, hits_at, table, counted, sum_over, Shape}
use Rattle.page_layout.specs.Page.{most_events, most_words, room_words, held, sound, cleared, adding, added, added_room, dropping, dropped, finding, read_back}
use Rattle.page_layout.specs.Page.{plane_in}

-- The calls that change a page, and the page and the room that one leaves to the next.
pub data Call : Type 0 where
  add : List ℕ → Call
  drop : Call
  clear : Call

pub record State : Type 0 where
  pub page : Page
  pub room : List ℕ

abbrev pub called : Call → State → State
called (add words) s = record { page = (added s.page words (length s.room)).page; room = added_room s.page words s.room }
called drop s = record { page = (dropped s.page (length s.room)).page; room = s.room }
called clear s = record { page = cleared; room = s.room }

abbrev pub called_all : List Call → State → State
called_all [] s = s
called_all (c ∷ cs) s = called_all cs (called c s)

-- a cleared page in any room, and the events held
abbrev pub from : List ℕ → State
from room = record { page = cleared; room = room }

abbrev pub held_in : State → List (List ℕ)
held_in s = held s.page s.room

-- The same calls on a queue of at most 64 events. An event is taken where it is acceptable and has at most 1,024 words; a drop from an empty queue does nothing.
abbrev pub taken : List ℕ → Bool
taken words = accepted (answer_of (reading default_order words)) && leb (length words) most_words

abbrev pub with_last : List (List ℕ) → List ℕ → List (List ℕ)
with_last events words = cond (ltb (length events) most_events) events (list.drop 1 events) ++ words ∷ []

abbrev pub queued : Call → List (List ℕ) → List (List ℕ)
queued (add words) events = cond (taken words) (with_last events words) events
queued drop events = list.drop 1 events
queued clear events = []

abbrev pub queued_all : List Call → List (List ℕ) → List (List ℕ)
queued_all [] events = events
queued_all (c ∷ cs) events = queued_all cs (queued c events)

-- After any calls from a cleared page, refused ones among them, the page is sound and holds what the queue holds.
abbrev pub IsQueue : Type 0
IsQueue =
    (calls : List Call) (room : List ℕ) → room_words ≤ length room → let s = called_all calls (from room) in
    (sound s.page (length s.room) ≡ true) × (held_in s ≡ queued_all calls [])

-- An event that is held is read back as its words, whatever page and room are; read back event by event, oldest first, page and room untouched between the calls,
-- these are the events held; behind the last one is 27.
abbrev pub ReadsBack : Type 0
ReadsBack =
    (p : Page) (room : List ℕ) → sound p (length room) ≡ true →
    (table (length (held p room)) (read_back p room) ≡ held p room)
    × ((k : ℕ) → k < length (held p room) → finding p (length room) k ≡ Ok (length (read_back p room k)))
    × ((k : ℕ) → length (held p room) ≤ k → finding p (length room) k ≡ Err (refusal 27 0))

-- No refusal changes page or room, and none is 12.
abbrev pub Unchanged : Type 0
Unchanged =
    (p : Page) (words room : List ℕ) (r : Refusal) →
    (adding p words (length room) ≡ Err r → ((added p words (length room)).page ≡ p) × (added_room p words room ≡ room) × (number r.fault ≡ 12 → ⊥))
    × (dropping p (length room) ≡ Err r → (dropped p (length room)).page ≡ p)

-- A plane has four connectors of sixty-four channels, each with the number of the pad's hits in the events.
abbrev pub CountsHits : Type 0
CountsHits =
    (events : List (List ℕ)) →
    Shape (counted events)
    × ((connector channel : ℕ) → connector < 4 → channel < 64 →
    get_or (get_or (counted events) connector []) channel 0 ≡ hits_at (pad channel connector) (each rows_of events))

-- The sum over the plane is the number of rows of kind 12 in the events held.
abbrev pub SumIsHits : Type 0
SumIsHits = (p : Page) (room : List ℕ) → sound p (length room) ≡ true → sum_over (plane_in p room) ≡ hits (each rows_of (held p room))

-- Words that are no acceptable event count nothing.
abbrev pub NothingCounted : Type 0
NothingCounted =
    (events more : List (List ℕ)) (words : List ℕ) (n k : ℕ) → reading default_order words ≡ refused n k →
    counted (events ++ words ∷ more) ≡ counted (events ++ more)

-- No hit depends on the stamp order.
abbrev pub AnyOrder : Type 0
AnyOrder = (o : StampOrder) (words : List ℕ) (p : ℕ) → hits_at p (given (reading o words)) ≡ hits_at p (rows_of words)
