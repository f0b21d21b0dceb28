-- Writings of dialect R of about 4,096 words, computed. The expected outcomes are documents 01's ('Writing') and 02's, #101.
-- Assumes nothing.
use Prim.Native.Nat.{ℕ}
use mathlib.Core.Path.{◌≡◌, refl}
use mathlib.Core.List.{List, [], ◌∷◌, ◌++◌}
use lib.ListN.{replicate}
use Rattle.event.specs.declared.Row.{Row}
use Rattle.event.specs.Rows.{row}
use Rattle.event.proofs.Vectors.{Vector, AsExpected, rising_rows, write_into, RoomCase, case}
use Rattle.rcnp_layout.specs.Writing.{writing}
use Rattle.rcnp_layout.proofs.EdgesOfWriting.{ok, no}
use Rattle.event.specs.Refusal.{refusal}
use Rattle.std.specs.Prelude.{Err}

-- rows of 4,097 words, with this word of the check sum. (0x3ffe + 4,094 × 1 + 0xf001 + 0xc003 = 0x20000.)
abbrev large : (sum : ℕ) → List Row
large w = row 32 3 4094 0 ∷ (replicate 4094 (row 33 0 0 1) ++ (row 32 15 1 0 ∷ row 33 0 0 w ∷ []))

abbrev too_large : Vector ℕ
too_large = no (large 0xc003) 23 4097

-- 23, place the words needed, after the sum. A size of 4,095 is in its range.
abbrev pub vectors : List (Vector ℕ)
vectors =
    ok (row 32 3 4093 0 ∷ replicate 4093 (row 33 0 0 1)) 0xc005 (0x3ffd ∷ replicate 4093 1)
    ∷ too_large ∷ no (large 0xc004) 22 4096
    -- words are counted, and not rows
    ∷ no (row 32 6 4094 0 ∷ (rising_rows 34 0 0 0 2047 ++ (row 32 15 1 0 ∷ row 33 0 0 0xac00 ∷ []))) 23 4097
    ∷ no (row 32 6 4094 0 ∷ (rising_rows 34 0 0 0 2047 ++ (row 32 15 1 0 ∷ row 33 0 0 0xac01 ∷ []))) 22 2049
    ∷ no (row 32 3 4095 0 ∷ (replicate 4095 (row 33 0 0 1) ++ (row 32 15 1 0 ∷ row 33 0 0 0xc001 ∷ []))) 23 4098
    ∷ no (row 32 3 4096 0 ∷ (replicate 4096 (row 33 0 0 1) ++ (row 32 15 1 0 ∷ row 33 0 0 0xbfff ∷ []))) 22 0 ∷ []

pub sizes : AsExpected writing vectors
sizes = refl

-- 24 comes after 23
abbrev crowded : RoomCase
crowded = case too_large.input [] (Err (refusal 23 4097)) []

pub room : write_into writing crowded.lent ≡ crowded.left
room = refl
