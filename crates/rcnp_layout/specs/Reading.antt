-- Reading one event of dialect R: its rows, or the first refusal and its place. Each line is a rule, in the order of document 02, #101.
-- (On 16-bit words some tests never fail, and stand here because the same tables serve `Valid`: that a word is below 2 ^ 16, that a field is as
-- wide as its bits. Nor does a region that fits lack the words of its size.)
-- Assumes nothing.
use Rattle.std.specs.Prelude.{ℕ, ◌+◌, ◌*◌, ◌/◌, ◌%◌, ◌^◌, Bool, true, false, cond, List, [], ◌∷◌, leb, eqb, length}
use Rattle.event.specs.declared.Row.{Row}
use Rattle.event.specs.Parser.{Parser, ended, ◌>>=◌, ◌>>◌, give, here, require, finish, lastly, within, many, several}
use Rattle.event.specs.Words.{layout, between, word_below}
use Rattle.event.specs.Outcome.{Outcome, done, outcome}
use Rattle.rcnp_layout.specs.Event.{VdcWord, head, datum, Form, input_register, scaler, vdc, opaque, Content, Region, Event, id_of, sum_id, form_of}
use Rattle.rcnp_layout.specs.Layout.{header_word, vdc_word, summed, rows, size_checks, allowed_size, vdc_checks, begins, smallest_event, largest_event}

-- what a region's header says, in words or rows
pub record Header : Type 0 where
  pub form : Form
  pub size : ℕ

abbrev pub header_of : ℕ → Header
header_of w = record { form = form_of (w / 2 ^ 12); size = w % 2 ^ 12 }

-- 6: no form has its id
abbrev pub header : Parser ℕ Header
header = layout 6 header_of (λ h. header_word (id_of h.form) h.size) (λ h. size_checks 6 h.size)

-- what fills the region with its header at place p: 5 unless so many words are there, 7 unless its id allows the size
abbrev pub filling : {A : Type 0} → (p size : ℕ) → (allowed : Bool) → Parser ℕ A → Parser ℕ A
filling p size allowed content = within 5 p size (require allowed 7 p >> content)

abbrev pub word : Parser ℕ ℕ
word = word_below 10 (2 ^ 16)

abbrev pub scaler_value : Parser ℕ ℕ
scaler_value = do
  low ← word
  high ← word_below 10 (2 ^ 8)
  give (high * 2 ^ 16 + low)

-- a word with bit 15 set is judged as a header, any other as a datum
abbrev pub vdc_of : ℕ → VdcWord
vdc_of w = cond (leb (2 ^ 15) w) (head (w % 2 ^ 8) (w / 2 ^ 11 % 2 ^ 3) (w / 2 ^ 8 % 2 ^ 3)) (datum (w / 2 ^ 10) (w % 2 ^ 10))

abbrev pub vdc_value : (begun : Bool) → Parser ℕ VdcWord
vdc_value begun = layout 10 vdc_of vdc_word (vdc_checks 10 begun)

-- a region's words, rising: 10
abbrev pub content : (f : Form) → Parser ℕ (Content f)
content input_register = word
content scaler = several scaler_value ended
content vdc = many vdc_value begins ended false
content (opaque k) = several word ended

abbrev pub region_content : Form → Parser ℕ Region
region_content f = content f >>= λ c. give (record { form = f; content = c })

-- a region: 6, 5, 7, all at its header; then its words
abbrev pub region : Parser ℕ Region
region = do
  p ← here
  h ← header
  filling p h.size (allowed_size h.form h.size) (region_content h.form)

-- the check sum region, of size 1; 6 where the words end and it has not come
abbrev pub sum_region : Parser ℕ ℕ
sum_region = do
  p ← here
  n ← layout 6 (◌% 2 ^ 12) (header_word sum_id) (size_checks 6)
  filling p n (eqb n 1) word

-- it begins here, or the words end
abbrev pub at_sum : List ℕ → Bool
at_sum [] = true
at_sum (w ∷ r) = eqb sum_id (w / 2 ^ 12)

-- an event's parts in their order, over words or rows; `last` judges what follows
abbrev pub parts_of : {E : Type 0} → Parser E (List Region) → Parser E ℕ → (last : Parser E (Unit {0})) → Parser E Event
parts_of regions sum_region last = do
  gs ← regions
  w ← sum_region
  last
  give (record { regions = gs; sum = w })

-- regions up to the check sum region, and that one
abbrev pub parts_with : (last : Parser ℕ (Unit {0})) → Parser ℕ Event
parts_with = parts_of (several region at_sum) sum_region

-- 1, then region by region, 6 at a word after region 15, and 13 at the last word; n is the number of words of the event
abbrev pub event_parser : ℕ → Parser ℕ Event
event_parser n = do
  require (between smallest_event largest_event n) 1 0
  lastly summed 13 (parts_with (finish 6))

abbrev pub reading : List ℕ → Outcome Row
reading ws = outcome (λ e. done (rows e)) (event_parser (length ws) 0 ws)
