-- Writing one event of dialect R from its rows: its words, or the first refusal and its place (documents 01, 'Writing', and 02, #101).
-- Assumes nothing.
use Rattle.std.specs.Prelude.{ℕ, ◌/◌, Bool, true, false, cond, ◌&&◌, ◌||◌, List, [], ◌∷◌, ◌++◌, eqb}
use Rattle.event.specs.declared.Row.{Row}
use Rattle.event.specs.Parser.{Parser, Test, test, ◌>>=◌, ◌>>◌, give, finish, lastly, times, alone, several}
use Rattle.event.specs.Writing.{row_with, of_kind, writing_by}
use Rattle.event.specs.Outcome.{Outcome}
use Rattle.rcnp_layout.specs.Event.{VdcWord, head, datum, Form, input_register, scaler, vdc, opaque, Content, Region, Event, id_of, sum_id, form_of}
use Rattle.rcnp_layout.specs.Layout.{words, summed, region_row, word_row, scaler_row, next_index, vdc_row, size_checks, allowed_size, word_checks, scaler_checks, vdc_checks, begins, largest_event}
use Rattle.rcnp_layout.specs.Reading.{Header, parts_of}

abbrev pub word : Parser Row ℕ
word = row_with (of_kind 33) (λ r. r.datum) word_row (word_checks 22)

-- the scaler with this index
abbrev pub scaler_at : (index : ℕ) → Parser Row ℕ
scaler_at index = row_with (of_kind 34) (λ r. r.datum) (scaler_row index) (scaler_checks 22)

abbrev pub vdc_of : Row → VdcWord
vdc_of r = cond (of_kind 35 r) (head r.unit r.channel r.datum) (datum r.channel r.datum)

-- 21: a module's header comes first
abbrev pub vdc_stands : (begun : Bool) → Row → Bool
vdc_stands begun r = of_kind 35 r || (begun && of_kind 36 r)

abbrev pub vdc_value : (begun : Bool) → Parser Row VdcWord
vdc_value begun = row_with (vdc_stands begun) vdc_of vdc_row (vdc_checks 22 begun)

-- as many rows follow as the size says words; a scaler is two words
abbrev pub content : (f : Form) → (size : ℕ) → Parser Row (Content f)
content input_register size = word
content scaler size = times scaler_at next_index (size / 2) 0
content vdc size = times vdc_value begins size false
content (opaque k) size = times (λ u. word) alone size tt

-- a region's own row: 22 its id, its size, its datum, which is 0
abbrev pub header_of : Row → Header
header_of r = record { form = form_of r.unit; size = r.channel }

abbrev pub header_row : Header → Row
header_row h = region_row (id_of h.form) h.size

abbrev pub header_checks : Header → List Test
header_checks h = size_checks 22 h.size ++ (test 22 (allowed_size h.form h.size) ∷ [])

abbrev pub header : Parser Row Header
header = row_with (of_kind 32) header_of header_row header_checks

abbrev pub region : Parser Row Region
region = do
  h ← header
  c ← content h.form h.size
  give (record { form = h.form; content = c })

-- the check sum region: its own row, then its word
abbrev pub sum_header : Parser Row (Unit {0})
sum_header = row_with (of_kind 32) (λ r. tt) (λ u. region_row sum_id 1) (λ u. [])

abbrev pub sum_region : Parser Row ℕ
sum_region = sum_header >> word

-- it begins here, or the rows end
abbrev pub at_sum : List Row → Bool
at_sum [] = true
at_sum (r ∷ rs) = of_kind 32 r && eqb sum_id r.unit

-- regions up to the check sum region, and that one
abbrev pub parts_with : (last : Parser Row (Unit {0})) → Parser Row Event
parts_with = parts_of (several region at_sum) sum_region

-- 21 at a row after the check sum's; then the sum, a number that the whole event fixes: 22 at its own row, after all rows
abbrev pub writing : List ℕ → Outcome ℕ
writing = writing_by words largest_event (lastly summed 22 (parts_with (finish 21)))
