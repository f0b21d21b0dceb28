-- Writing one event of dialect F from its rows: its longwords, or the first refusal and its place (document 01, 'Writing').
-- (Of the tests, that a scaler is below 2 ^ 32 never fails on 32-bit rows, and 23 never shows: 4 + 34 + 4 + 30 × 34 = 1,062 longwords are the most that rows can ask for.)
-- Assumes nothing.
use Rattle.std.specs.Prelude.{ℕ, suc, Bool, false, cond, ◌||◌, List, [], ◌∷◌, ◌++◌}
use Rattle.event.specs.declared.Row.{Row}
use Rattle.event.specs.Parser.{Parser, Test, ended, ◌>>=◌, give, optionally, times, many}
use Rattle.event.specs.Writing.{row_with, of_kind, at_kind, writing_by}
use Rattle.event.specs.Outcome.{Outcome}
use Rattle.frs_layout.specs.Event.{Stamp, PatternUnit, Value, Module, empty, with_data, Event}
use Rattle.frs_layout.specs.Layout.{words, stamp_row, scaler_block_row, scaler_row, pattern_row, empty_row, module_row, value_row, stamp_checks, count_checks, scaler_checks, pattern_checks, geo_checks, value_checks, counter_checks, channels, geos, largest_event}
use Rattle.frs_layout.specs.Reading.{event_of}

-- the fields of a row
abbrev pub stamp_of : Row → Stamp
stamp_of r = record { word1 = r.unit; word2 = r.channel; word3 = r.datum }

abbrev pub pattern_of : Row → PatternUnit
pattern_of r = record { register = r.datum; multiplicity = r.channel }

abbrev pub value_of : Row → Value
value_of r = record { channel = r.channel; datum = r.datum }

abbrev pub stamp : Parser Row Stamp
stamp = row_with (of_kind 16) stamp_of stamp_row (stamp_checks 22)

-- the scaler with this index
abbrev pub scaler_at : (index : ℕ) → Parser Row ℕ
scaler_at index = row_with (of_kind 18) (λ r. r.datum) (scaler_row index) (scaler_checks 22)

abbrev pub next_index : ℕ → ℕ → ℕ
next_index index value = suc index

-- the scaler block's row says how many scalers follow
abbrev pub scaler : Parser Row (List ℕ)
scaler = do
  n ← row_with (of_kind 17) (λ r. r.channel) scaler_block_row (count_checks 22)
  times scaler_at next_index n 0

abbrev pub pattern_unit : Parser Row PatternUnit
pattern_unit = row_with (of_kind 19) pattern_of pattern_row (pattern_checks 22)

-- a row of kind 19 right after the scalers is a pattern unit
abbrev pub at_pattern : List Row → Bool
at_pattern [] = false
at_pattern (r ∷ rs) = of_kind 19 r

-- a module's first row, of kind 20 or 21
pub data Header : Type 0 where
  empty_header : (geo : ℕ) → Header
  data_header : (geo count counter : ℕ) → Header

abbrev pub first_row : Header → Row
first_row (empty_header g) = empty_row g
first_row (data_header g n c) = module_row g n c

abbrev pub starts_module : Row → Bool
starts_module r = of_kind 20 r || of_kind 21 r

abbrev pub header_of : Row → Header
header_of r = cond (of_kind 20 r) (empty_header r.unit) (data_header r.unit r.channel r.datum)

abbrev pub header_checks : List ℕ → Header → List Test
header_checks seen (empty_header g) = geo_checks 22 22 seen g
header_checks seen (data_header g n c) = count_checks 22 n ++ (counter_checks 22 c ++ geo_checks 22 22 seen g)

abbrev header : List ℕ → Parser Row Header
header seen = row_with starts_module header_of first_row (header_checks seen)

abbrev pub value : (g : ℕ) → List ℕ → Parser Row Value
value g seen = row_with (of_kind 22) value_of (value_row g) (value_checks 22 22 seen)

-- as many values as the first row says
abbrev pub body : Header → Parser Row Module
body (empty_header g) = give (empty g)
body (data_header g n c) = do
  vs ← times (value g) channels n []
  give (with_data g vs c)

abbrev pub one_module : List ℕ → Parser Row Module
one_module seen = header seen >>= body

abbrev pub event_rows_up_to : (List Row → Bool) → Parser Row Event
event_rows_up_to stop = event_of stamp scaler (optionally at_pattern pattern_unit) (many one_module geos stop [])

abbrev pub writing : List ℕ → Outcome ℕ
writing = writing_by words largest_event (event_rows_up_to ended)

-- where the next event's rows may begin, or the rows end
abbrev pub at_stamp : List Row → Bool
at_stamp = at_kind 16
