-- What the parts of an event leave behind when they are written (the contracts of private functions).
-- Assumes nothing.
use Rattle.std.specs.Prelude.{ℕ, List, [], ◌∷◌, drop}
use Rattle.event.specs.declared.Row.{Row}
use Rattle.event.specs.Parser.{ended, many, each}
use Rattle.event.specs.Channels.{Blocked}
use Rattle.event.specs.Scanning.{writing_part, BeginsBy, Writes}
use Rattle.frs_layout.specs.Event.{Value}
use Rattle.frs_layout.specs.Layout.{value_word, module_words, words, geos}
use Rattle.frs_layout.specs.Writing.{one_module, event_rows_up_to}
use Rattle.event.specs.Refusal.{PartAnswer}

-- the longword of one value
abbrev pub value_words : (geo : ℕ) → Value → List ℕ
value_words g v = value_word g v ∷ []

-- the module at row i, after the GEOs that are in the set
pub record WritesModule (set : ℕ) (rs : List Row) (i : ℕ) (before : List ℕ) (r : PartAnswer) (after : List ℕ) : Type 0 where
  pub writes : (seen : List ℕ) → Blocked 0 set seen → Writes 32 module_words (one_module seen i (drop i rs)) rs 0 before r after

-- what stands before the modules is refused; or the writing of the modules ends as that of the event does
abbrev pub Begins : (rs : List Row) (before after : List ℕ) → PartAnswer → Type 0
Begins rs = BeginsBy (writing_part 32) (each module_words) (many one_module geos ended []) words (event_rows_up_to ended 0 rs) rs 0
