-- Readings of dialect R of about 4,096 words, computed. The expected outcomes are document 02's, #101.
-- Assumes nothing.
use mathlib.Core.Path.{refl}
use mathlib.Core.List.{List, [], ◌∷◌, ◌++◌, map}
use lib.ListN.{replicate}
use Rattle.event.specs.declared.Row.{Row}
use Rattle.event.specs.Rows.{row}
use Rattle.event.proofs.Vectors.{Vector, AsExpected, rising}
use Rattle.rcnp_layout.specs.Reading.{reading}
use Rattle.rcnp_layout.proofs.Edges.{bare, ok, no}

-- 1: more than 4,096 words, before all else. (0x3ffd + 4,093 × 1 + 0xf001 + 0xc005 = 0x20000.)
abbrev pub vectors : List (Vector Row)
vectors =
    ok (0x3ffd ∷ replicate 4093 1) 0xc005 (row 32 3 4093 0 ∷ replicate 4093 (row 33 0 0 1))
    ∷ no (0x3ffd ∷ replicate 4093 1) 0xc006 13 4095
    -- the sum passes 65,536 thousands of times
    ∷ ok (0x3ffd ∷ replicate 4093 0xffff) 0xdfff (row 32 3 4093 0 ∷ replicate 4093 (row 33 0 0 0xffff))
    ∷ ok (0x7ffd ∷ 0x8000 ∷ replicate 4092 0) 0x1002 (row 32 7 4093 0 ∷ row 35 0 0 0 ∷ replicate 4092 (row 36 0 0 0))
    ∷ ok (0x6ffc ∷ (replicate 4092 0 ++ (0x3000 ∷ []))) 0x7003 (row 32 6 4092 0 ∷ (map (λ i. row 34 0 i 0) (rising 0 1 2046) ++ (row 32 3 0 0 ∷ [])))
    -- the largest size fits, or does not
    ∷ bare (0x3fff ∷ replicate 4095 0) 6 4096 ∷ bare (0x3fff ∷ replicate 4094 0) 5 0
    ∷ bare (0x2fff ∷ replicate 4095 0) 7 0 ∷ bare (0x6fff ∷ replicate 4095 0) 7 0 ∷ bare (0xffff ∷ replicate 4095 0) 7 0
    ∷ no (0x3ffe ∷ replicate 4094 1) 0xc003 1 0 ∷ bare (replicate 4097 0) 1 0 ∷ []

pub sizes : AsExpected reading vectors
sizes = refl
