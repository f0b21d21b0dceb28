-- Writings of dialect R at the edges of its tables, computed. The expected outcomes are documents 01's ('Writing') and 02's, #101.
-- Assumes nothing.
use Prim.Native.Nat.{ℕ}
use mathlib.Core.Path.{refl}
use mathlib.Core.List.{List, [], ◌∷◌, ◌++◌, map}
use Rattle.event.specs.declared.Row.{Row}
use Rattle.event.specs.Outcome.{done, refused}
use Rattle.event.specs.Rows.{row, flat}
use Rattle.event.proofs.Vectors.{Vector, vector, AsExpected}
use Rattle.rcnp_layout.specs.Writing.{writing}

-- these rows and those of a check sum region with this word have these words and the region's two
abbrev pub ok : List Row → (sum : ℕ) → List ℕ → Vector ℕ
ok rows w ws = vector (flat (rows ++ (row 32 15 1 0 ∷ row 33 0 0 w ∷ []))) (done (ws ++ (0xf001 ∷ w ∷ [])))

-- these rows are refused
abbrev pub no : List Row → (number place : ℕ) → Vector ℕ
no rows n k = vector (flat rows) (refused n k)

-- 20, before all else. Rows that end too early: 21 at the row count.
abbrev ends : List (Vector ℕ)
ends =
    vector (1 ∷ []) (refused 20 0) ∷ vector (32 ∷ 15 ∷ []) (refused 20 0) ∷ vector (32 ∷ 15 ∷ 1 ∷ []) (refused 20 0) ∷ vector (32 ∷ 15 ∷ 1 ∷ 0 ∷ 33 ∷ []) (refused 20 0)
    ∷ no [] 21 0 ∷ no (row 32 15 1 0 ∷ []) 21 1 ∷ no (row 32 3 0 0 ∷ []) 21 1 ∷ no (row 32 3 2 0 ∷ row 33 0 0 1 ∷ []) 21 2 ∷ no (row 32 2 1 0 ∷ []) 21 1
    ∷ no (row 32 6 4 0 ∷ row 34 0 0 1 ∷ []) 21 2 ∷ no (row 32 7 2 0 ∷ row 35 0 0 0 ∷ []) 21 2 ∷ no (row 32 3 1 0 ∷ row 33 0 0 1 ∷ []) 21 2 ∷ ok [] 0x0fff [] ∷ []

-- kind 32 where a region begins: 21. Its id, its size, its datum: 22. Size 4095 is in its range.
abbrev headers : List (Vector ℕ)
headers =
    map (λ k. no (row k 3 0 0 ∷ []) 21 0) (0 ∷ 1 ∷ 16 ∷ 31 ∷ 33 ∷ 34 ∷ 35 ∷ 36 ∷ 0x00010020 ∷ [])
    ++ map (λ id. no (row 32 id 0 0 ∷ []) 22 0) (0 ∷ 1 ∷ 2 ∷ 5 ∷ 8 ∷ 9 ∷ 15 ∷ 16 ∷ 19 ∷ 32 ∷ 35 ∷ 0x00010003 ∷ 0x01000003 ∷ 0xffffffff ∷ [])
    ++ map (λ id. no (row 32 id 1 0 ∷ []) 22 0) (18 ∷ 31 ∷ 34 ∷ [])
    ++ map (λ r. no (r ∷ []) 22 0)
    (row 32 2 2 0 ∷ row 32 2 4095 0 ∷ row 32 2 4097 0 ∷ row 32 6 1 0 ∷ row 32 6 3 0 ∷ row 32 6 4095 0 ∷ row 32 6 4096 0 ∷ row 32 6 0xfffffffe 0 ∷ row 32 7 4096 0
    ∷ row 32 3 4096 0 ∷ row 32 3 0x00010001 0 ∷ row 32 3 0xffffffff 0 ∷ row 32 15 2 0 ∷ row 32 15 4097 0
    ∷ row 32 2 1 1 ∷ row 32 3 1 1 ∷ row 32 3 0 0x80000000 ∷ row 32 6 0 1 ∷ row 32 7 0 1 ∷ row 32 15 1 1 ∷ [])
    ++ map (λ r. no (r ∷ []) 21 1) (row 32 3 4095 0 ∷ row 32 6 4094 0 ∷ row 32 7 4095 0 ∷ [])
    ++ (no (row 32 15 0 0 ∷ row 33 0 0 0x1000 ∷ []) 22 0 ∷ no (row 32 3 0 0 ∷ row 32 1 0 0 ∷ []) 22 1
    ∷ ok (row 32 4 0 0 ∷ row 32 10 0 0 ∷ row 32 11 0 0 ∷ row 32 12 0 0 ∷ row 32 13 0 0 ∷ []) 0xefff (0x4000 ∷ 0xa000 ∷ 0xb000 ∷ 0xc000 ∷ 0xd000 ∷ [])
    ∷ ok (row 32 6 0 0 ∷ row 32 7 0 0 ∷ row 32 3 0 0 ∷ row 32 14 0 0 ∷ []) 0x2fff (0x6000 ∷ 0x7000 ∷ 0x3000 ∷ 0xe000 ∷ []) ∷ [])

-- a size says how many words follow: one row too few or too many is 21 where it shows
abbrev counts : List (Vector ℕ)
counts =
    no (row 32 3 1 0 ∷ row 32 15 1 0 ∷ []) 21 1 ∷ no (row 32 3 1 0 ∷ row 33 0 0 1 ∷ row 33 0 0 1 ∷ []) 21 2 ∷ no (row 32 3 0 0 ∷ row 33 0 0 1 ∷ []) 21 1
    ∷ no (row 32 2 1 0 ∷ row 33 0 0 1 ∷ row 33 0 0 1 ∷ []) 21 2 ∷ no (row 32 6 4 0 ∷ row 34 0 0 1 ∷ row 32 15 1 0 ∷ []) 21 2
    ∷ no (row 32 6 2 0 ∷ row 34 0 0 1 ∷ row 34 0 1 1 ∷ []) 21 2
    ∷ no (row 32 7 2 0 ∷ row 35 0 0 0 ∷ row 32 15 1 0 ∷ []) 21 2 ∷ no (row 32 7 1 0 ∷ row 35 0 0 0 ∷ row 36 0 0 0 ∷ []) 21 2 ∷ no (row 32 7 0 0 ∷ row 35 0 0 0 ∷ []) 21 1
    ∷ no (row 32 2 1 0 ∷ row 32 15 1 0 ∷ []) 21 1 ∷ no (row 32 2 1 0 ∷ row 34 0 0 1 ∷ []) 21 1 ∷ no (row 32 6 0 0 ∷ row 34 0 0 1 ∷ []) 21 1
    ∷ no (row 32 7 1 0 ∷ row 35 0 0 0 ∷ row 32 7 1 0 ∷ row 36 0 0 0 ∷ []) 21 3
    ∷ map (λ k. no (row 32 3 1 0 ∷ row k 0 0 1 ∷ []) 21 1) (0 ∷ 11 ∷ 32 ∷ 34 ∷ 35 ∷ 36 ∷ [])
    ++ map (λ k. no (row 32 6 2 0 ∷ row k 0 0 1 ∷ []) 21 1) (18 ∷ 32 ∷ 33 ∷ 35 ∷ 36 ∷ [])
    ++ map (λ k. no (row 32 7 1 0 ∷ row k 0 0 1 ∷ []) 21 1) (32 ∷ 33 ∷ 34 ∷ 36 ∷ 37 ∷ [])
    ++ map (λ k. no (row 32 7 2 0 ∷ row 35 0 0 0 ∷ row k 0 0 1 ∷ []) 21 2) (32 ∷ 33 ∷ 34 ∷ 37 ∷ [])

-- words of 16 bits, scalers of 24 with their index, modules of 8, 3 and 3, data of 5 and 10: 22
abbrev fields : List (Vector ℕ)
fields =
    ok (row 32 2 1 0 ∷ row 33 0 0 0xffff ∷ []) 0xefff (0x2001 ∷ 0xffff ∷ [])
    ∷ ok (row 32 6 4 0 ∷ row 34 0 0 0xffffff ∷ row 34 0 1 0x8cc66 ∷ []) 0xe28f (0x6004 ∷ 0xffff ∷ 0x00ff ∷ 0xcc66 ∷ 8 ∷ [])
    ∷ ok (row 32 7 4 0 ∷ row 35 255 7 7 ∷ row 36 0 31 0x03ff ∷ row 35 97 1 2 ∷ row 36 0 0 0 ∷ []) 0xd59c (0x7004 ∷ 0xbfff ∷ 0x7fff ∷ 0x8a61 ∷ 0 ∷ [])
    ∷ map (λ r. no (row 32 3 1 0 ∷ r ∷ []) 22 1) (row 33 0 0 65536 ∷ row 33 0 0 0xffffffff ∷ row 33 1 0 0 ∷ row 33 0 1 0 ∷ [])
    ++ map (λ r. no (row 32 2 1 0 ∷ r ∷ []) 22 1) (row 33 0 0 65536 ∷ row 33 1 0 0 ∷ row 33 0 1 0 ∷ [])
    ++ map (λ r. no (row 32 6 4 0 ∷ row 34 0 0 7 ∷ r ∷ []) 22 2) (row 34 0 1 0x01000000 ∷ row 34 0 0 7 ∷ row 34 0 2 7 ∷ row 34 1 1 7 ∷ [])
    ++ map (λ r. no (row 32 6 2 0 ∷ r ∷ []) 22 1) (row 34 0 0 0x01000000 ∷ row 34 0 0 0xffffffff ∷ row 34 0 1 7 ∷ row 34 1 0 7 ∷ [])
    ++ map (λ r. no (row 32 7 1 0 ∷ r ∷ []) 22 1) (row 35 256 0 0 ∷ row 35 0xffffffff 0 0 ∷ row 35 0 8 0 ∷ row 35 0 0 8 ∷ [])
    ++ map (λ r. no (row 32 7 2 0 ∷ row 35 0 0 0 ∷ r ∷ []) 22 2) (row 35 256 0 0 ∷ row 35 0 8 0 ∷ row 35 0 0 8 ∷ row 36 1 0 0 ∷ row 36 0 32 0 ∷ row 36 0 0 1024 ∷ [])

-- regions repeat, modules and channels too, and each region's scalers count from 0
abbrev repeats : List (Vector ℕ)
repeats =
    ok (row 32 6 6 0 ∷ row 34 0 0 1 ∷ row 34 0 1 2 ∷ row 34 0 2 3 ∷ row 32 6 2 0 ∷ row 34 0 0 1 ∷ row 32 2 1 0 ∷ row 33 0 0 1 ∷ row 32 2 1 0 ∷ row 33 0 0 1 ∷ []) 0x0fec
    (0x6006 ∷ 1 ∷ 0 ∷ 2 ∷ 0 ∷ 3 ∷ 0 ∷ 0x6002 ∷ 1 ∷ 0 ∷ 0x2001 ∷ 1 ∷ 0x2001 ∷ 1 ∷ [])
    ∷ no (row 32 6 2 0 ∷ row 34 0 0 1 ∷ row 32 6 2 0 ∷ row 34 0 1 1 ∷ []) 22 3
    ∷ ok (row 32 7 4 0 ∷ row 35 97 1 1 ∷ row 36 0 23 377 ∷ row 36 0 23 377 ∷ row 35 97 1 1 ∷ []) 0xd247 (0x7004 ∷ 0x8961 ∷ 0x5d79 ∷ 0x5d79 ∷ 0x8961 ∷ []) ∷ []

-- the sum's word: 22 at its own row out of its range; wrong, after all rows, so that a row more is 21 there. (23 comes after it: crate rcnp_sizes.)
abbrev sums : List (Vector ℕ)
sums =
    map (λ w. no (row 32 15 1 0 ∷ row 33 0 0 w ∷ []) 22 1) (0 ∷ 0x0ffe ∷ 0x1000 ∷ 0x8fff ∷ 0x00010fff ∷ [])
    ++ (ok (row 32 3 1 0 ∷ row 33 0 0 0xffff ∷ []) 0xdfff (0x3001 ∷ 0xffff ∷ []) ∷ ok (row 32 3 1 0 ∷ row 33 0 0 0xdffe ∷ []) 0 (0x3001 ∷ 0xdffe ∷ [])
    ∷ ok (row 32 3 1 0 ∷ row 33 0 0 0xdfff ∷ []) 0xffff (0x3001 ∷ 0xdfff ∷ [])
    ∷ no (row 32 3 0 0 ∷ row 32 15 1 0 ∷ row 33 0 0 0x0fff ∷ []) 22 2
    ∷ no (row 32 15 1 0 ∷ row 33 1 0 0x0fff ∷ []) 22 1 ∷ no (row 32 15 1 0 ∷ row 33 0 1 0x0fff ∷ []) 22 1
    ∷ no (row 32 15 1 0 ∷ row 32 15 1 0 ∷ []) 21 1 ∷ no (row 32 15 1 0 ∷ row 34 0 0 0x0fff ∷ []) 21 1 ∷ no (row 32 15 1 0 ∷ row 36 0 0 0x0fff ∷ []) 21 1
    ∷ no (row 32 15 1 0 ∷ row 33 0 0 0x0fff ∷ row 33 0 0 0 ∷ []) 21 2 ∷ no (row 32 15 1 0 ∷ row 33 0 0 0 ∷ row 32 3 0 0 ∷ []) 21 2
    ∷ no (row 32 15 1 0 ∷ row 33 0 0 0x0fff ∷ row 32 15 1 0 ∷ row 33 0 0 0x0fff ∷ []) 21 2
    ∷ no (row 32 15 1 0 ∷ row 33 0 0 65535 ∷ row 0 0 0 0 ∷ []) 21 2 ∷ no (row 32 15 1 0 ∷ row 33 0 0 65536 ∷ row 0 0 0 0 ∷ []) 22 1 ∷ [])

pub edges : AsExpected writing (ends ++ headers ++ counts ++ fields ++ repeats ++ sums)
edges = refl
