-- Pad hits: the rows that are hits, and the plane of four connectors by sixty-four channels (document 02, #107).
-- Assumes nothing.
use Rattle.std.specs.Prelude.{ℕ, zero, suc, ◌+◌, ◌%◌, ◌<◌, ◌≡◌, Bool, cond, ◌&&◌, List, [], ◌∷◌, T, eqb, length, get_or}
use Rattle.event.specs.declared.Row.{Row}
use Rattle.event.specs.Parser.{All, each}
use Rattle.event.specs.Outcome.{given, default_order}
use Rattle.s800_layout.specs.Layout.{pad, pad_connector}
use Rattle.s800_layout.specs.Reading.{reading}

-- a hit is a row of kind 12; its pad is the row's channel
abbrev pub hit_kind : ℕ
hit_kind = 12

abbrev pub is_hit : Row → Bool
is_hit r = eqb r.kind hit_kind

-- The rows of an event. Words that are no acceptable event have none. (No hit depends on the stamp order: `AnyOrder`.)
unfoldable pub rows_of : List ℕ → List Row
rows_of words = given (reading default_order words)

-- how many rows are hits
unfoldable pub hits : List Row → ℕ
hits [] = 0
hits (r ∷ rs) = cond (is_hit r) 1 0 + hits rs

-- how many rows are hits of pad p
unfoldable pub hits_at : ℕ → List Row → ℕ
hits_at p [] = 0
hits_at p (r ∷ rs) = cond (is_hit r && eqb r.channel p) 1 0 + hits_at p rs

-- f 0, f 1, and so on: n of them
unfoldable pub table : {A : Type 0} → ℕ → (ℕ → A) → List A
table zero f = []
table (suc n) f = f 0 ∷ table n (λ k. f (suc k))

-- a plane: for each connector the counts of its channels
abbrev pub Plane : Type 0
Plane = List (List ℕ)

-- four connectors by sixty-four channels, with f p at each pad p
unfoldable pub plane_of : (ℕ → ℕ) → Plane
plane_of f = table 4 (λ connector. table 64 (λ channel. f (pad channel connector)))

unfoldable pub no_hits : Plane
no_hits = plane_of (λ p. 0)

-- how often each pad was hit in these rows
abbrev pub hit_plane : List Row → Plane
hit_plane rs = plane_of (λ p. hits_at p rs)

-- and in these events, counted afresh
abbrev pub counted : List (List ℕ) → Plane
counted events = hit_plane (each rows_of events)

-- the channel of a pad, and what a plane has at a pad
abbrev pub pad_channel : ℕ → ℕ
pad_channel p = p % 64

abbrev pub at : Plane → ℕ → ℕ
at plane p = get_or (get_or plane (pad_connector p) []) (pad_channel p) 0

-- the counts of a plane in the order of the pads
unfoldable pub by_pad : Plane → List ℕ
by_pad plane = table 256 (at plane)

-- the sum over a list, and over a plane
unfoldable pub sum : List ℕ → ℕ
sum [] = 0
sum (n ∷ ns) = n + sum ns

unfoldable pub sum_over : Plane → ℕ
sum_over [] = 0
sum_over (line ∷ lines) = sum line + sum_over lines

-- four connectors of sixty-four channels; rows whose hits are all of pads on the plane (for proofs and private functions)
pub record Shape (plane : Plane) : Type 0 where
  pub four : length plane ≡ 4
  pub lines : (c : ℕ) → c < 4 → length (get_or plane c []) ≡ 64

abbrev pub OnPlane : List Row → Type 0
OnPlane = All (λ r. T (is_hit r) → r.channel < 256)
