-- What stands before the modules, as the code reads it (the contracts of private functions).
-- Assumes nothing.
use Rattle.std.specs.Prelude.{ℕ, ◌%◌, ◌^◌, ◌≤◌, ◌≡◌, List, [], length, get_or, drop, Result, Ok, Err}
use Rattle.event.specs.declared.Part.{Part}
use Rattle.event.specs.declared.refusal.Refusal.{Refusal}
use Rattle.event.specs.declared.Row.{Row}
use Rattle.event.specs.Parser.{ok, ended, many, each}
use Rattle.event.specs.Refusal.{PartAnswer}
use Rattle.event.specs.Scanning.{RefusedAs, reading, BeginsBy}
use Rattle.frs_layout.specs.Event.{Stamp}
use Rattle.frs_layout.specs.Layout.{stamp_row, module_rows, rows, geos}
use Rattle.frs_layout.specs.Reading.{stamp, one_module, event_parser}

-- a part that ends within the words, with no more rows than words
abbrev pub Within : List ℕ → Part → Type 0
Within ws p = (p.next ≤ length ws) × (p.count ≤ p.next)

abbrev pub stamp_at : List ℕ → Stamp
stamp_at ws = record { word1 = get_or ws 1 0 % 2 ^ 16; word2 = get_or ws 2 0 % 2 ^ 16; word3 = get_or ws 3 0 % 2 ^ 16 }

-- the stamp's row, or the stamp's refusal
abbrev StampRead : (ws : List ℕ) → Result Row Refusal → Type 0
StampRead ws (Ok r) = (stamp 0 ws ≡ ok (stamp_at ws) 4 (drop 4 ws)) × (r ≡ stamp_row (stamp_at ws))
StampRead ws (Err r) = RefusedAs (stamp 0 ws) r

pub record Stamped (ws : List ℕ) (r : Result Row Refusal) : Type 0 where
  pub stamp : StampRead ws r

-- what stands before the modules is refused; or the scan of the modules ends as that of the event does
abbrev pub Begins : (ws before after : List ℕ) → PartAnswer → Type 0
Begins ws = BeginsBy reading (each module_rows) (many one_module geos ended []) rows (event_parser (length ws) 0 ws) ws 0
