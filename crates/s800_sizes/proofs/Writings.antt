-- Writings of dialect S of about 4,096 words, computed. The expected outcomes are those of documents 01 and 02.
-- Assumes nothing.
use Prim.Native.Nat.{ℕ}
use mathlib.Core.Path.{◌≡◌, refl}
use mathlib.Core.List.{List, [], ◌∷◌, ◌++◌, map}
use lib.ListN.{replicate}
use Rattle.event.specs.declared.Row.{Row}
use Rattle.event.specs.declared.StampOrder.TheVariants.{Crossed}
use Rattle.event.specs.Parser.{each}
use Rattle.event.specs.Rows.{row}
use Rattle.event.proofs.Vectors.{write_into, RoomCase, case}
use Rattle.s800_layout.specs.Writing.{writing}
use Rattle.s800_layout.proofs.EdgesOfWriting.{Vector, ok, no}
use Rattle.event.specs.Refusal.{refusal}
use Rattle.std.specs.Prelude.{Err}

-- n groups of one data word, as rows; and the rows of a packet 0x5840 with its groups
abbrev group_rows : ℕ → List Row
group_rows n = each (λ (n : ℕ). row 8 37 18 0 ∷ row 12 37 146 300 ∷ []) (replicate n 0)

abbrev crdc_rows : List Row → List Row
crdc_rows rs = row 1 0x5840 1 0 ∷ row 7 0 0 9 ∷ (rs ++ (row 9 0 1 2 ∷ []))

-- M's rows and those of an opaque packet that makes 4,097 words of them
abbrev too_large : Vector
too_large = no (row 1 0x5830 0 0 ∷ replicate 4081 (row 11 0 0 0xffff)) 23 4097

-- 23, after all rows: more than 4,096 words, place the words needed
abbrev pub vectors : List Vector
vectors =
    ok (row 1 0x5830 0 0 ∷ replicate 4080 (row 11 0 0 0xffff)) (0x0ff2 ∷ 0x5830 ∷ replicate 4080 0xffff)
    ∷ too_large
    ∷ no (row 1 0x5830 0 0 ∷ (replicate 4081 (row 11 0 0 0xffff) ++ (row 5 0 0 0 ∷ []))) 21 4086
    ∷ no (row 1 0x5830 0 0 ∷ (replicate 4081 (row 11 0 0 0xffff) ++ (row 1 0x5801 0 0 ∷ []))) 21 4087
    ∷ ok (crdc_rows (group_rows 2036)) (0x0ff2 ∷ 0x5840 ∷ 1 ∷ 0x0feb ∷ 0x5841 ∷ 9 ∷ (each (λ (n : ℕ). 0x8952 ∷ 0x092c ∷ []) (replicate 2036 0) ++ (4 ∷ 0x5845 ∷ 1 ∷ 2 ∷ [])))
    ∷ no (crdc_rows (group_rows 2036 ++ (row 12 37 210 300 ∷ []))) 23 4097
    ∷ no (crdc_rows (group_rows 2037)) 23 4098
    ∷ no (replicate 2042 (row 1 0x5802 0 0)) 23 4098 ∷ []

-- each writing is the expected one
pub sizes : map (λ (v : Vector). writing v.order v.elements) vectors ≡ map (λ (v : Vector). v.outcome) vectors
sizes = refl

-- 24 comes after 23
abbrev crowded : RoomCase
crowded = case too_large.elements [] (Err (refusal 23 4097)) []

pub room : write_into (writing Crossed) crowded.lent ≡ crowded.left
room = refl
