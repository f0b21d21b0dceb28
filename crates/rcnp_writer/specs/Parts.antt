-- The parts of an event as the code writes them (the contracts of private functions).
-- Assumes nothing.
use Rattle.std.specs.Prelude.{◌≡◌, ℕ, ◌+◌, ◌-◌, ◌*◌, ◌%◌, ◌<◌, ◌≤◌, Bool, cond, T, List, [], ◌∷◌, length, take, drop, ◌==◌, nat_lt, slice_index_or}
use Rattle.event.specs.Refusal.{PartAnswer}
use Rattle.event.specs.declared.Row.{Row}
use Rattle.event.specs.Parser.{Result, Parser, ◌>>=◌, ◌>>◌, give, finish, each}
use Rattle.event.specs.Scanning.{store_words, Writes}
use Rattle.event.specs.Writing.{of_kind, no_row}
use Rattle.rcnp_layout.specs.Event.{VdcWord, scaler, vdc, id_of, form_of}
use Rattle.rcnp_layout.specs.Layout.{vdc_word, total, allowed_size}
use Rattle.rcnp_layout.specs.Writing.{sum_region}
use Rattle.rcnp_writer.specs.RowWords.{row_words}

-- one word of a VDC region
abbrev pub vdc_words : VdcWord → List ℕ
vdc_words x = vdc_word x ∷ []

-- the content from row `first` on, of a region with this id and size, which its own row has
pub record ContentAt (rs : List Row) (first id size : ℕ) : Type 0 where
  pub some : 1 ≤ first
  pub inside : first ≤ length rs
  pub known : id ≡ id_of (form_of id)
  pub allowed : T (allowed_size (form_of id) size)

-- the check sum region, after which no row comes
abbrev pub last_region : Parser Row ℕ
last_region = do
  w ← sum_region
  finish 21
  give w

-- a part that x parsed from rows, whose words are counted after k others, and not stored
abbrev pub Counts : {A : Type 0} → (A → List ℕ) → Result Row A → List Row → ℕ → PartAnswer → Type 0
Counts words_of x rs k r = Writes 16 words_of x rs k [] r []

-- the words of m rows from row i on
abbrev pub words_in : List Row → (i m : ℕ) → List ℕ
words_in rs i m = each row_words (take m (drop i rs))

-- the rows from i to j, their words stored from word `at` to word `end`, at most two for a row
pub record Filled (rs : List Row) (i j at end : ℕ) (before after : List ℕ) : Type 0 where
  pub order : i ≤ j
  pub inside : j ≤ length rs
  pub counted : end ≡ at + length (words_in rs i (j - i))
  pub few : end ≤ at + 2 * (j - i)
  pub stored : after ≡ store_words 16 before at (words_in rs i (j - i))

-- how many rows of one word each follow a row: as many as its size says, where it is the own row of a region that has no scalers
abbrev pub run_words : Row → ℕ
run_words r = cond (of_kind 32 r) (cond (r.unit == id_of scaler) 0 r.channel) 0

-- a word of the chamber
abbrev pub of_chamber : Row → Bool
of_chamber r = nat_lt 34 r.kind

-- rows of one word each: of the chamber, or as they are
abbrev pub such : (chamber : Bool) → Row → Bool
such chamber r = cond chamber (of_chamber r) (of_kind 33 r)

-- which they are, after a region's own row
abbrev pub of_run : (own : Row) → Row → Bool
of_run own = such (own.unit == id_of vdc)

-- n rows from `first` on are there, and such
pub record RunAt (such : Row → Bool) (rs : List Row) (first n : ℕ) : Type 0 where
  pub inside : first + n ≤ length rs
  pub each : (k : ℕ) → k < n → T (such (slice_index_or rs (first + k) no_row))

-- after every row stand as many as it says: so it is in rows that were judged
pub record Runs (rs : List Row) : Type 0 where
  pub at : (i : ℕ) → i < length rs → RunAt (of_run (slice_index_or rs i no_row)) rs (i + 1) (run_words (slice_index_or rs i no_row))

-- the sum of the words of the first i rows
abbrev pub total_to : List Row → ℕ → ℕ
total_to rs i = total (each row_words (take i rs))

-- the words of the rows from i to j have this sum, modulo 65,536
pub record Summed (rs : List Row) (i j sum : ℕ) : Type 0 where
  pub sums : (total_to rs i + sum) % 65536 ≡ total_to rs j % 65536
