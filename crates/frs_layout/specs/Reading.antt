-- Reading one event of dialect F: its rows, or the first refusal and its place. Each line is a rule, in the order of document 01.
-- (On 32-bit longwords some tests never fail: that a field is as wide as its bits, or a scaler below 2 ^ 32, is asked of rows, and stands here in the same
-- tables or words. Nor does a block that fits lack the longwords of its count.)
-- Assumes nothing.
use Rattle.std.specs.Prelude.{ℕ, ◌+◌, ◌/◌, ◌%◌, ◌^◌, Bool, true, false, cond, List, [], ◌∷◌, ◌++◌, eqb, length}
use Rattle.std.proofs.Math.Option.{Option}
use Rattle.event.specs.declared.Row.{Row}
use Rattle.event.specs.Parser.{Parser, Test, ended, ◌>>=◌, ◌>>◌, give, here, require, within, optionally, many, several}
use Rattle.event.specs.Words.{layout, exactly, halves, between, below_checks}
use Rattle.event.specs.Outcome.{Outcome, done, outcome}
use Rattle.frs_layout.specs.Event.{Stamp, PatternUnit, Value, Module, empty, with_data, Event, scaler_geo, pattern_geo, stamp_identifier, word1_identifier, word2_identifier, word3_identifier, scaler_end, pattern_header, register_identifier, multiplicity_identifier, pattern_end}
use Rattle.frs_layout.specs.Layout.{header_word, footer_word, empty_word, datum_bits, value_word, rows, count_checks, scaler_checks, geo_checks, value_checks, counter_checks, channels, geos, smallest_event, largest_event}

-- the upper half given, over 16 data bits
abbrev pub data_under : (upper : ℕ) → Parser ℕ ℕ
data_under upper = layout 10 (◌% 2 ^ 16) (halves upper) (below_checks 10 (2 ^ 16))

abbrev pub stamp : Parser ℕ Stamp
stamp = do
  exactly 10 stamp_identifier
  a ← data_under word1_identifier
  b ← data_under word2_identifier
  c ← data_under word3_identifier
  give (record { word1 = a; word2 = b; word3 = c })

-- A block at place p with a count of n: that many longwords, then its footer. 5 unless they are there.
abbrev pub block_of : {A B : Type 0} → (p n : ℕ) → Parser ℕ A → (A → Parser ℕ B) → Parser ℕ B
block_of p n values footer = within 5 p (n + 1) (within 5 p n values >>= footer)

abbrev pub scaler_value : Parser ℕ ℕ
scaler_value = layout 10 (λ w. w) (λ w. w) (scaler_checks 10)

abbrev pub scaler_values : Parser ℕ (List ℕ)
scaler_values = several scaler_value ended

abbrev pub scaler_footer : List ℕ → Parser ℕ (List ℕ)
scaler_footer vs = do
  exactly 9 scaler_end
  give vs

abbrev pub scaler : Parser ℕ (List ℕ)
scaler = do
  p ← here
  n ← layout 6 (◌% 2 ^ 6) (header_word scaler_geo) (count_checks 6)
  block_of p n scaler_values scaler_footer

abbrev pub pattern_body : Parser ℕ PatternUnit
pattern_body = do
  r ← data_under register_identifier
  m ← data_under multiplicity_identifier
  exactly 9 pattern_end
  give (record { register = r; multiplicity = m })

abbrev pub pattern_unit : Parser ℕ PatternUnit
pattern_unit = do
  p ← here
  exactly 6 pattern_header
  within 5 p 3 pattern_body

-- a longword with the pattern unit's GEO, 5, right after the scaler is judged as a pattern unit
abbrev pub at_pattern : List ℕ → Bool
at_pattern [] = false
at_pattern (w ∷ r) = eqb (w / 2 ^ 27) pattern_geo

-- a module's first longword: 6 its layout, its count and its GEO, then 11 its GEO seen
pub data Header : Type 0 where
  empty_header : (geo : ℕ) → Header
  data_header : (geo count : ℕ) → Header

abbrev pub first_word : Header → ℕ
first_word (empty_header g) = empty_word g
first_word (data_header g n) = header_word g n

abbrev pub header_of : ℕ → Header
header_of w = cond (eqb (w / 2 ^ 24 % 2 ^ 3) 6) (empty_header (w / 2 ^ 27)) (data_header (w / 2 ^ 27) (w % 2 ^ 6))

abbrev pub header_checks : List ℕ → Header → List Test
header_checks seen (empty_header g) = geo_checks 6 11 seen g
header_checks seen (data_header g n) = count_checks 6 n ++ geo_checks 6 11 seen g

abbrev pub header : List ℕ → Parser ℕ Header
header seen = layout 6 header_of first_word (header_checks seen)

-- a data longword of the module with GEO g: 10 its layout, 11 a channel seen
abbrev pub value_of : ℕ → Value
value_of w = record { channel = w / 2 ^ 16 % 2 ^ 5; datum = w % 2 ^ datum_bits }

abbrev pub value : (g : ℕ) → List ℕ → Parser ℕ Value
value g seen = layout 10 value_of (value_word g) (value_checks 10 11 seen)

abbrev pub values : (g : ℕ) → Parser ℕ (List Value)
values g = many (value g) channels ended []

abbrev pub footer : (g : ℕ) → List Value → Parser ℕ Module
footer g vs = do
  c ← layout 9 (◌% 2 ^ 16) (footer_word g) (counter_checks 9)
  give (with_data g vs c)

-- the longwords after the header of the module at place p
abbrev pub body : (p : ℕ) → Header → Parser ℕ Module
body p (empty_header g) = give (empty g)
body p (data_header g n) = block_of p n (values g) (footer g)

abbrev pub one_module : List ℕ → Parser ℕ Module
one_module seen = do
  p ← here
  h ← header seen
  body p h

-- an event's parts in their order, over longwords or rows
abbrev pub event_of : {E : Type 0} → Parser E Stamp → Parser E (List ℕ) → Parser E (Option PatternUnit) → Parser E (List Module) → Parser E Event
event_of stamp scaler pattern modules = do
  s ← stamp
  vs ← scaler
  p ← pattern
  ms ← modules
  give (record { stamp = s; scalers = vs; pattern = p; modules = ms })

-- the stamp, then block by block, with modules up to `stop`
abbrev pub event_up_to : (List ℕ → Bool) → Parser ℕ Event
event_up_to stop = event_of stamp scaler (optionally at_pattern pattern_unit) (many one_module geos stop [])

-- 1, then the event; n is its number of longwords
abbrev pub event_parser : ℕ → Parser ℕ Event
event_parser n = do
  require (between smallest_event largest_event n) 1 0
  event_up_to ended

abbrev pub reading : List ℕ → Outcome Row
reading ws = outcome (λ e. done (rows e)) (event_parser (length ws) 0 ws)

-- where the next event of a run may begin, or the run ends
abbrev pub at_stamp : List ℕ → Bool
at_stamp [] = true
at_stamp (w ∷ r) = eqb w stamp_identifier
