-- Readings of dialect S of about 4,096 words, computed. The expected outcomes are those of documents 01 and 02.
-- Assumes nothing.
use Prim.Native.Nat.{ℕ}
use mathlib.Core.Path.{◌≡◌, refl}
use mathlib.Core.List.{List, [], ◌∷◌, ◌++◌, map}
use lib.ListN.{replicate}
use Rattle.event.specs.Parser.{each}
use Rattle.event.specs.Rows.{row}
use Rattle.s800_layout.specs.Reading.{reading}
use Rattle.s800_layout.proofs.Edges.{Vector, ok, no}

-- 2,036 groups of one data word, as words
abbrev groups : List ℕ
groups = each (λ (n : ℕ). 0x8952 ∷ 0x092c ∷ []) (replicate 2036 0)

-- 1: more than 4,096 words
abbrev pub vectors : List Vector
vectors =
    ok (0x0ff2 ∷ 0x5830 ∷ replicate 4080 0xffff) (row 1 0x5830 0 0 ∷ replicate 4080 (row 11 0 0 0xffff))
    ∷ no (0x0ff3 ∷ 0x5830 ∷ replicate 4081 0xffff) 1 0
    ∷ ok (0x0ff2 ∷ 0x5840 ∷ 1 ∷ 0x0feb ∷ 0x5841 ∷ 9 ∷ (groups ++ (4 ∷ 0x5845 ∷ 1 ∷ 2 ∷ [])))
    (row 1 0x5840 1 0 ∷ row 7 0 0 9 ∷ (each (λ (n : ℕ). row 8 37 18 0 ∷ row 12 37 146 300 ∷ []) (replicate 2036 0) ++ (row 9 0 1 2 ∷ [])))
    ∷ []

-- each reading is the expected one
pub sizes : map (λ (v : Vector). reading v.order v.words) vectors ≡ map (λ (v : Vector). v.outcome) vectors
sizes = refl
