-- Regions as the code reads them (the contracts of private functions).
-- Assumes nothing.
use Rattle.std.specs.Prelude.{ℕ, ◌+◌, ◌-◌, ◌/◌, ◌%◌, ◌^◌, ◌≤◌, ◌<◌, ◌≡◌, Bool, ◌&&◌, List, T, eqb, length, get_or, drop, Result, Ok, Err}
use Rattle.event.specs.declared.refusal.Refusal.{Refusal}
use Rattle.event.specs.declared.Row.{Row}
use Rattle.event.specs.Parser.{Parser, ◌>>=◌, ◌>>◌, give, finish}
use Rattle.event.specs.Rows.{store_row}
use Rattle.event.specs.Scanning as scanning
use Rattle.rcnp_layout.specs.Event.{Form, vdc, id_of}
use Rattle.rcnp_layout.specs.Layout.{vdc_word, vdc_fits, vdc_row, allowed_size, region_row, region_rows}
use Rattle.rcnp_layout.specs.Reading.{vdc_of, region, sum_region}
use Rattle.rcnp_reader.specs.declared.Opened.{Opened}
use Rattle.rcnp_reader.specs.declared.Opened.TheVariants.{Whole, Chamber}

-- a word that `vdc_value` takes, and its row
unfoldable pub vdc_good : (begun : Bool) (w : ℕ) → Bool
vdc_good begun w = eqb w (vdc_word (vdc_of w)) && vdc_fits begun (vdc_of w)

abbrev pub vdc_word_row : ℕ → Row
vdc_word_row w = vdc_row (vdc_of w)

-- the check sum region, and nothing after it
abbrev pub last_parts : Parser ℕ ℕ
last_parts = sum_region >>= λ w. finish 6 >> give w

-- a header with this form's id and this size stands at i; the words are there, and as many as the form allows
pub record Headed (ws : List ℕ) (i : ℕ) (f : Form) (size : ℕ) : Type 0 where
  pub in_bits : (get_or ws i 0 / 2 ^ 12 ≡ id_of f) × (get_or ws i 0 % 2 ^ 12 ≡ size)
  pub inside : i + 1 + size ≤ length ws
  pub allowed : T (allowed_size f size)

-- the region at i was read after k rows; or it is refused; or it is a VDC region, of which its own row is stored
module _ (ws : List ℕ) (i k : ℕ) (before after : List ℕ) where
  abbrev OpensAs : Result Opened Refusal → Type 0
  OpensAs (Ok (Whole p)) = scanning.Whole region_rows (region i (drop i ws)) ws k before after p.next p.count
  OpensAs (Ok (Chamber end)) = Headed ws i vdc (end - (i + 1)) × (i < end) × (after ≡ store_row before k (region_row (id_of vdc) (end - (i + 1))))
  OpensAs (Err r) = scanning.RefusedAs (region i (drop i ws)) r

  pub record Opens (r : Result Opened Refusal) : Type 0 where
    pub opened : OpensAs r
