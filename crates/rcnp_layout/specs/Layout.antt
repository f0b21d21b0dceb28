-- Dialect R: the words and the rows of an event, and the rules that a valid one keeps (document 02, #101).
-- Assumes nothing.
use Rattle.std.specs.Prelude.{ℕ, suc, ◌+◌, ◌*◌, ◌/◌, ◌%◌, ◌^◌, Bool, true, false, ◌&&◌, List, [], ◌∷◌, ◌++◌, map, T, ltb, eqb, length}
use Rattle.event.specs.declared.Row.{Row}
use Rattle.event.specs.Parser.{Test, test, Passed, prints, Goods, All, each}
use Rattle.event.specs.Words.{below_checks}
use Rattle.event.specs.Rows.{row}
use Rattle.event.specs.Demands.{Sized}
use Rattle.rcnp_layout.specs.Event.{VdcWord, head, datum, Form, input_register, scaler, vdc, opaque, Content, Region, Event, id_of, sum_id}

-- Words.

-- a region's header: id in bits 15-12, size in bits 11-0
abbrev pub header_word : (id size : ℕ) → ℕ
header_word id size = id * 2 ^ 12 + size

-- a region: its size counts its words and not the header
abbrev headed : (id : ℕ) → List ℕ → List ℕ
headed id ws = header_word id (length ws) ∷ ws

-- low 16 bits, then the upper 8 bits with zero above
abbrev pub scaler_words : ℕ → List ℕ
scaler_words v = v % 2 ^ 16 ∷ v / 2 ^ 16 ∷ []

-- a module header: bit 15 set, bit 14 zero, bits 13-11, bits 10-8, module in bits 7-0; a data word: bit 15 clear, channel in bits 14-10, time in bits 9-0
abbrev pub vdc_word : VdcWord → ℕ
vdc_word (head moduleId eventNumber mode) = 2 ^ 15 + eventNumber * 2 ^ 11 + mode * 2 ^ 8 + moduleId
vdc_word (datum channel time) = channel * 2 ^ 10 + time

abbrev pub content_words : (f : Form) → Content f → List ℕ
content_words input_register w = w ∷ []
content_words scaler vs = each scaler_words vs
content_words vdc xs = map vdc_word xs
content_words (opaque k) ws = ws

-- a region's words, its header not counted
abbrev pub size_of : Region → ℕ
size_of g = length (content_words g.form g.content)

abbrev pub region_words : Region → List ℕ
region_words g = headed (id_of g.form) (content_words g.form g.content)

abbrev pub sum_words : ℕ → List ℕ
sum_words w = headed sum_id (w ∷ [])

-- regions one after another; every event ends with its only region of id 15, size 1
abbrev pub words : Event → List ℕ
words e = each region_words e.regions ++ sum_words e.sum

abbrev pub total : List ℕ → ℕ
total [] = 0
total (w ∷ ws) = w + total ws

-- the sum of all its words, headers too, is 0 modulo 65,536
abbrev pub summed : Event → Bool
summed e = eqb (total (words e) % 65536) 0

-- Rows.

abbrev pub region_row : (id size : ℕ) → Row
region_row id size = row 32 id size 0

abbrev pub word_row : ℕ → Row
word_row w = row 33 0 0 w

-- one scaler; the index counts from 0
abbrev pub scaler_row : (index value : ℕ) → Row
scaler_row index value = row 34 0 index value

abbrev pub next_index : ℕ → ℕ → ℕ
next_index index value = suc index

abbrev pub vdc_row : VdcWord → Row
vdc_row (head moduleId eventNumber mode) = row 35 moduleId eventNumber mode
vdc_row (datum channel time) = row 36 0 channel time

abbrev pub content_rows : (f : Form) → Content f → List Row
content_rows input_register w = word_row w ∷ []
content_rows scaler vs = prints (λ index v. scaler_row index v ∷ []) next_index 0 vs
content_rows vdc xs = map vdc_row xs
content_rows (opaque k) ws = map word_row ws

abbrev pub region_rows : Region → List Row
region_rows g = region_row (id_of g.form) (size_of g) ∷ content_rows g.form g.content

abbrev pub sum_rows : ℕ → List Row
sum_rows w = region_row sum_id 1 ∷ word_row w ∷ []

abbrev pub rows : Event → List Row
rows e = each region_rows e.regions ++ sum_rows e.sum

-- Rules. `n` is the refusal number of a field out of range.

-- a size has 12 bits
abbrev pub size_checks : ℕ → ℕ → List Test
size_checks n size = below_checks n (2 ^ 12) size

-- id 2 has size 1, id 6 an even size; the others but 15 any
abbrev pub allowed_size : Form → ℕ → Bool
allowed_size input_register size = eqb size 1
allowed_size scaler size = eqb (size % 2) 0
allowed_size vdc size = true
allowed_size (opaque k) size = true

abbrev pub word_checks : ℕ → ℕ → List Test
word_checks n w = below_checks n (2 ^ 16) w

abbrev pub scaler_checks : ℕ → ℕ → List Test
scaler_checks n v = below_checks n (2 ^ 24) v

-- each field in its bits; a VDC region begins with a header unless empty: `begun` where a word came before
abbrev pub vdc_fits : Bool → VdcWord → Bool
vdc_fits begun (head moduleId eventNumber mode) = ltb moduleId (2 ^ 8) && (ltb eventNumber (2 ^ 3) && ltb mode (2 ^ 3))
vdc_fits begun (datum channel time) = begun && (ltb channel (2 ^ 5) && ltb time (2 ^ 10))

abbrev pub vdc_checks : ℕ → Bool → VdcWord → List Test
vdc_checks n begun x = test n (vdc_fits begun x) ∷ []

abbrev pub begins : Bool → VdcWord → Bool
begins begun x = true

abbrev pub ValidVdc : Bool → VdcWord → Type 0
ValidVdc begun x = Passed (vdc_checks 0 begun x)

abbrev pub ValidContent : (f : Form) → Content f → Type 0
ValidContent input_register w = Passed (word_checks 0 w)
ValidContent scaler vs = All (λ v. Passed (scaler_checks 0 v)) vs
ValidContent vdc xs = Goods ValidVdc begins false xs
ValidContent (opaque k) ws = All (λ w. Passed (word_checks 0 w)) ws

-- (That its size is one its id allows follows: proofs/Sizes.)
abbrev pub ValidRegion : Region → Type 0
ValidRegion g = Passed (size_checks 0 (size_of g)) × ValidContent g.form g.content

-- an event has 2 to 4,096 words (that it has 2 follows from its check sum region)
abbrev pub smallest_event : ℕ
smallest_event = 2

abbrev pub largest_event : ℕ
largest_event = 4096

-- Every rule but the number of words.
pub record Formed (e : Event) : Type 0 where
  pub regions : All ValidRegion e.regions
  pub word : Passed (word_checks 0 e.sum)
  pub sum : T (summed e)

abbrev pub Valid : Event → Type 0
Valid = Sized Formed words largest_event
