-- One module, as the code reads it (the contracts of private functions).
-- Assumes nothing.
use Rattle.std.specs.Prelude.{ℕ, ◌+◌, ◌/◌, ◌%◌, ◌^◌, ◌≡◌, cond, List, [], map, eqb, leb, length, get_or, drop, Result, Ok, Err, Option, Some, None}
use Rattle.std.proofs.Math.Seq.{slice}
use Rattle.event.specs.declared.Part.{Part}
use Rattle.event.specs.declared.refusal.Refusal.{Refusal}
use Rattle.event.specs.declared.Row.{Row}
use Rattle.event.specs.Channels.{Blocked}
use Rattle.event.specs.Parser.{ok}
use Rattle.event.specs.Refusal.{PartAnswer, refusal}
use Rattle.event.specs.Scanning.{RefusedAs, PartOf}
use Rattle.frs_layout.specs.Layout.{empty_row, module_row, value_row, module_rows}
use Rattle.frs_layout.specs.Reading.{value_of, values, one_module}
use Rattle.frs_reader.specs.declared.module.Opened.{Opened}
use Rattle.frs_reader.specs.Longword.{header_fault}

abbrev pub opened : Row → Option ℕ → Opened
opened r end = record { row = r; end = end }

-- the longword at `at` after the GEOs seen: refused, an empty module, or a block with n data longwords and a footer, whose counter stands in the module's own row
unfoldable pub opened_of : (ws : List ℕ) (at seen : ℕ) → Result Opened Refusal
opened_of ws at seen =
    let w = get_or ws at 0 in
    let end = at + 1 + w % 2 ^ 6 in
    cond (eqb (header_fault seen w) 0)
    (cond (eqb (w / 2 ^ 24 % 2 ^ 3) 6)
    (Ok (opened (empty_row (w / 2 ^ 27)) None))
    (cond (leb (length ws) end) (Err (refusal 5 at)) (Ok (opened (module_row (w / 2 ^ 27) (w % 2 ^ 6) (get_or ws end 0 % 2 ^ 16)) (Some end)))))
    (Err (refusal (header_fault seen w) at))

-- the row of a data longword
abbrev pub row_of : (geo w : ℕ) → Row
row_of geo w = value_row geo (value_of w)

-- the data longwords from `first` up to `end` are all good, or they are refused
abbrev Judged : (geo : ℕ) → (ws : List ℕ) → (first end : ℕ) → Result (Unit {0}) Refusal → Type 0
Judged g ws first end (Ok u) = values g first (slice first end ws) ≡ ok (map value_of (slice first end ws)) end []
Judged g ws first end (Err r) = RefusedAs (values g first (slice first end ws)) r

pub record ValuesJudged (geo : ℕ) (ws : List ℕ) (first end : ℕ) (r : Result (Unit {0}) Refusal) : Type 0 where
  pub judged : Judged geo ws first end r

-- the module at a place, after the GEOs that are in the set
pub record ReadsModule (set : ℕ) (ws : List ℕ) (from : Part) (before after : List ℕ) (r : PartAnswer) : Type 0 where
  pub reads : (seen : List ℕ) → Blocked 0 set seen → PartOf module_rows (one_module seen from.next (drop from.next ws)) ws from.count before after r
