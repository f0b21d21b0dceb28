-- Rows: four numbers each, in a buffer one after another (document 01, 'Rows').
-- Assumes nothing.
use Rattle.std.specs.Prelude.{ℕ, ◌*◌, ◌/◌, cond, List, [], ◌∷◌, ◌++◌, ltb, length}
use Rattle.std.proofs.lemmas.List.Edits.{sets}
use Rattle.event.specs.declared.Row.{Row}

abbrev pub row : ℕ → ℕ → ℕ → ℕ → Row
row k u c d = record { kind = k; unit = u; channel = c; datum = d }

abbrev pub flat_row : Row → List ℕ
flat_row r = r.kind ∷ r.unit ∷ r.channel ∷ r.datum ∷ []

-- rows as the elements of a buffer
abbrev pub flat : List Row → List ℕ
flat [] = []
flat (r ∷ rs) = flat_row r ++ flat rs

-- the rows that a buffer of n elements has room for
abbrev pub room : ℕ → ℕ
room n = n / 4

-- a buffer with r as its row k, where it has room for it
unfoldable pub store_row : List ℕ → ℕ → Row → List ℕ
store_row buffer k r = cond (ltb k (room (length buffer))) (sets buffer (k * 4) (flat_row r)) buffer
