-- Writings of dialect F of about 1,062 longwords, computed. The expected outcomes are document 01's.
-- Assumes nothing.
use mathlib.Core.Path.{◌≡◌, refl}
use mathlib.Core.List.{List, [], ◌∷◌, ◌++◌, map}
use lib.ListN.{take}
use Rattle.event.specs.declared.Row.{Row}
use Rattle.event.specs.Parser.{each}
use Rattle.event.specs.Rows.{row}
use Rattle.event.proofs.Vectors.{rising, rising_rows}
use Rattle.frs_layout.specs.Writing.{writing}
use Rattle.frs_layout.proofs.Edges.{geos, whole, whole_rows, unit, unit_row}
use Rattle.frs_layout.proofs.EdgesOfWriting.{Vector, ok_scaler, no_scaler, one}

-- the rows of the largest event, from row 1 on
abbrev largest_rows : List Row
largest_rows = row 17 6 32 0 ∷ (rising_rows 18 6 0 100 32 ++ (unit_row ∷ each whole_rows geos))

-- 21 where its last row is missing, or a row behind it may not stand there; 22 a further module, whose GEO is taken
abbrev pub vectors : List Vector
vectors =
    ok_scaler largest_rows (0x32000020 ∷ (rising 100 1 32 ++ (0x34000000 ∷ (unit ++ each whole geos))))
    ∷ no_scaler (take 1023 largest_rows) 21 1024
    ∷ no_scaler (largest_rows ++ (row 20 0 0 0 ∷ [])) 22 1025 ∷ no_scaler (largest_rows ++ one 31) 22 1025
    ∷ no_scaler (largest_rows ++ (row 22 31 0 0 ∷ [])) 21 1025 ∷ []

-- each writing is the expected one
pub sizes : map (λ (v : Vector). writing v.elements) vectors ≡ map (λ (v : Vector). v.outcome) vectors
sizes = refl
