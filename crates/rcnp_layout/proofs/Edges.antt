-- Readings of dialect R at the edges of its tables, computed. The expected outcomes are document 02's, #101.
-- Assumes nothing.
use Prim.Native.Nat.{ℕ}
use mathlib.Core.Path.{refl}
use mathlib.Core.List.{List, [], ◌∷◌, ◌++◌, map}
use lib.ListN.{replicate}
use Rattle.event.specs.declared.Row.{Row}
use Rattle.event.specs.Outcome.{done, refused}
use Rattle.event.specs.Rows.{row}
use Rattle.event.proofs.Vectors.{Vector, vector, AsExpected}
use Rattle.rcnp_layout.specs.Reading.{reading}

-- these words are refused
abbrev pub bare : List ℕ → (number place : ℕ) → Vector Row
bare ws n k = vector ws (refused n k)

-- these words and a check sum region with this word have these rows and the region's two, or are refused
abbrev pub ok : List ℕ → (sum : ℕ) → List Row → Vector Row
ok ws w rows = vector (ws ++ (0xf001 ∷ w ∷ [])) (done (rows ++ (row 32 15 1 0 ∷ row 33 0 0 w ∷ [])))

abbrev pub no : List ℕ → (sum number place : ℕ) → Vector Row
no ws w n k = bare (ws ++ (0xf001 ∷ w ∷ [])) n k

-- 1: 2 to 4,096 words, before all else. (The largest events: crate rcnp_sizes.)
abbrev events : List (Vector Row)
events =
    bare [] 1 0 ∷ bare (0xf001 ∷ []) 1 0 ∷ bare (0 ∷ []) 1 0 ∷ ok [] 0x0fff [] ∷ bare (replicate 4096 0) 6 0 ∷ bare (replicate 4097 0) 1 0 ∷ []

-- 6 at a header: ids 0, 1, 5, 8 and 9, before 5 and 7; a word after region 15, be it another region 15; the word count where none came
abbrev ids : List (Vector Row)
ids =
    map (λ w. no (w ∷ []) 0 6 0) (0x0000 ∷ 0x0001 ∷ 0x0fff ∷ 0x1000 ∷ 0x1001 ∷ 0x1fff ∷ 0x5000 ∷ 0x5fff ∷ 0x8000 ∷ 0x8961 ∷ 0x9000 ∷ 0x9fff ∷ [])
    ++ map (λ w. no (0x2001 ∷ 0x1c3a ∷ w ∷ []) 0 6 2) (0x0000 ∷ 0x1000 ∷ 0x5001 ∷ 0x8fff ∷ 0x9000 ∷ [])
    ++ map (λ w. bare (0xf001 ∷ 0x0fff ∷ w ∷ []) 6 2) (0x0000 ∷ 0x2000 ∷ 0x2001 ∷ 0x3000 ∷ 0x6001 ∷ 0x7000 ∷ 0xa000 ∷ 0xf000 ∷ 0xf001 ∷ 0xffff ∷ [])
    ++ (bare (0xf001 ∷ 0x0fff ∷ 0xf001 ∷ 0x0fff ∷ []) 6 2 ∷ bare (0xf001 ∷ 0 ∷ 0 ∷ []) 6 2
    ∷ bare (0x3000 ∷ 0xd000 ∷ []) 6 2 ∷ bare (0x3001 ∷ 0xcfff ∷ []) 6 2 ∷ bare (0x2001 ∷ 0xdfff ∷ []) 6 2 ∷ bare (0x3002 ∷ 0xf001 ∷ 0x0fff ∷ []) 6 3 ∷ [])

-- 5 at the header: fewer words than its size, before 7 and 10
abbrev extents : List (Vector Row)
extents =
    map (λ w. bare (w ∷ 0 ∷ []) 5 0) (0x4fff ∷ 0x7fff ∷ 0xefff ∷ [])
    ++ (bare (0x6004 ∷ 0 ∷ 0x0100 ∷ 0 ∷ []) 5 0 ∷ bare (0x3002 ∷ 0 ∷ []) 5 0 ∷ bare (0x3003 ∷ 0xf001 ∷ 0x0fff ∷ []) 5 0 ∷ bare (0x3fff ∷ 0 ∷ []) 5 0 ∷ bare (0x2001 ∷ 0 ∷ 0x2001 ∷ []) 5 2
    ∷ bare (0x2002 ∷ 0 ∷ []) 5 0
    ∷ bare (0x6003 ∷ 0 ∷ 0 ∷ []) 5 0 ∷ bare (0x7002 ∷ 0 ∷ []) 5 0 ∷ bare (0xf002 ∷ 0 ∷ []) 5 0 ∷ bare (0x3000 ∷ 0xf001 ∷ []) 5 1 ∷ bare (0xffff ∷ 0 ∷ []) 5 0 ∷ [])

-- 7 at the header: id 2 has size 1, id 6 an even size, id 15 size 1; before 10
abbrev sizes : List (Vector Row)
sizes =
    no (0x2000 ∷ []) 0xefff 7 0 ∷ no (0x2002 ∷ 1 ∷ 2 ∷ []) 0xeffa 7 0 ∷ no (0x2003 ∷ 1 ∷ 2 ∷ 3 ∷ []) 0xeff6 7 0
    ∷ no (0x6001 ∷ 1 ∷ []) 0xaffd 7 0 ∷ no (0x6003 ∷ 1 ∷ 0xffff ∷ 3 ∷ []) 0xaff9 7 0 ∷ no (0x2001 ∷ 5 ∷ 0x6001 ∷ 1 ∷ []) 0x8ff7 7 2
    ∷ bare (0xf000 ∷ 0 ∷ []) 7 0 ∷ bare (0xf002 ∷ 0x0ffe ∷ 0 ∷ []) 7 0 ∷ bare (0xf003 ∷ 0 ∷ 0 ∷ 0 ∷ []) 7 0 ∷ bare (0x3000 ∷ 0xf000 ∷ []) 7 1
    ∷ ok (0x6000 ∷ 0x7000 ∷ 0x3000 ∷ 0x4000 ∷ []) 0xcfff (row 32 6 0 0 ∷ row 32 7 0 0 ∷ row 32 3 0 0 ∷ row 32 4 0 0 ∷ [])
    ∷ ok (0xa000 ∷ 0xb000 ∷ 0xc000 ∷ 0xd000 ∷ 0xe000 ∷ []) 0x4fff (row 32 10 0 0 ∷ row 32 11 0 0 ∷ row 32 12 0 0 ∷ row 32 13 0 0 ∷ row 32 14 0 0 ∷ []) ∷ []

-- id 2 and opaque words: any 16 bits; regions in any order, and repeated
abbrev opaques : List (Vector Row)
opaques =
    ok (0x2001 ∷ 0x1c3a ∷ []) 0xd3c4 (row 32 2 1 0 ∷ row 33 0 0 0x1c3a ∷ [])
    ∷ ok (0x2001 ∷ 0xffff ∷ 0x2001 ∷ 0 ∷ []) 0xcffe (row 32 2 1 0 ∷ row 33 0 0 0xffff ∷ row 32 2 1 0 ∷ row 33 0 0 0 ∷ [])
    ∷ ok (0x3001 ∷ 0xf001 ∷ []) 0xeffd (row 32 3 1 0 ∷ row 33 0 0 0xf001 ∷ [])
    ∷ ok (0xd003 ∷ 0xb001 ∷ 0x0096 ∷ 0x0873 ∷ 0x4001 ∷ 0xffff ∷ []) 0x46f2
    (row 32 13 3 0 ∷ row 33 0 0 0xb001 ∷ row 33 0 0 150 ∷ row 33 0 0 0x0873 ∷ row 32 4 1 0 ∷ row 33 0 0 0xffff ∷ [])
    ∷ ok (0xa001 ∷ 0xffff ∷ 0xb002 ∷ 0x8000 ∷ 1 ∷ 0xc001 ∷ 0xffff ∷ 0xe003 ∷ 0 ∷ 1 ∷ 2 ∷ 0x3000 ∷ 0x3000 ∷ []) 0x3ff6
    (row 32 10 1 0 ∷ row 33 0 0 0xffff ∷ row 32 11 2 0 ∷ row 33 0 0 0x8000 ∷ row 33 0 0 1 ∷ row 32 12 1 0 ∷ row 33 0 0 0xffff
    ∷ row 32 14 3 0 ∷ row 33 0 0 0 ∷ row 33 0 0 1 ∷ row 33 0 0 2 ∷ row 32 3 0 0 ∷ row 32 3 0 0 ∷ []) ∷ []

-- id 6: low 16 bits, then the upper 8 bits with zero above (10)
abbrev scalers : List (Vector Row)
scalers =
    ok (0x6004 ∷ 0 ∷ 0 ∷ 0xcc66 ∷ 8 ∷ []) 0xe38d (row 32 6 4 0 ∷ row 34 0 0 0 ∷ row 34 0 1 0x8cc66 ∷ [])
    ∷ ok (0x6002 ∷ 0xffff ∷ 0x00ff ∷ []) 0xaeff (row 32 6 2 0 ∷ row 34 0 0 0xffffff ∷ [])
    ∷ ok (0x6002 ∷ 1 ∷ 0 ∷ 0x6002 ∷ 0 ∷ 1 ∷ []) 0x4ff9 (row 32 6 2 0 ∷ row 34 0 0 1 ∷ row 32 6 2 0 ∷ row 34 0 0 0x10000 ∷ [])
    ∷ ok (0x6006 ∷ 1 ∷ 0 ∷ 2 ∷ 0 ∷ 3 ∷ 0 ∷ []) 0xaff3 (row 32 6 6 0 ∷ row 34 0 0 1 ∷ row 34 0 1 2 ∷ row 34 0 2 3 ∷ [])
    ∷ no (0x6002 ∷ 0 ∷ 0x0100 ∷ []) 0xaefd 10 2 ∷ no (0x6002 ∷ 0 ∷ 0xffff ∷ []) 0xaffe 10 2 ∷ no (0x6004 ∷ 0 ∷ 0 ∷ 0 ∷ 0x8000 ∷ []) 0x2ffb 10 4
    ∷ no (0x6004 ∷ 0 ∷ 0x0100 ∷ 0 ∷ 0x0100 ∷ []) 0xadfb 10 2 ∷ []

-- id 7: headers (bit 15 set, bit 14 zero) and data words (bit 15 clear), a header first: 10. The first rows are of document 003's listing.
abbrev vdcs : List (Vector Row)
vdcs =
    ok (0x7005 ∷ 0x8961 ∷ 0x5d79 ∷ 0x61fa ∷ 0x659d ∷ 0x8900 ∷ []) 0x6889
    (row 32 7 5 0 ∷ row 35 97 1 1 ∷ row 36 0 23 0x0179 ∷ row 36 0 24 0x01fa ∷ row 36 0 25 0x019d ∷ row 35 0 1 1 ∷ [])
    ∷ ok (0x7004 ∷ 0xbfff ∷ 0x7fff ∷ 0x8000 ∷ 0 ∷ []) 0xdffd (row 32 7 4 0 ∷ row 35 255 7 7 ∷ row 36 0 31 0x03ff ∷ row 35 0 0 0 ∷ row 36 0 0 0 ∷ [])
    ∷ ok (0x7002 ∷ 0x8800 ∷ 0x8100 ∷ []) 0x96fd (row 32 7 2 0 ∷ row 35 0 1 0 ∷ row 35 0 0 1 ∷ [])
    ∷ ok (0x7001 ∷ 0x8000 ∷ []) 0x1ffe (row 32 7 1 0 ∷ row 35 0 0 0 ∷ [])
    ∷ ok (0x7002 ∷ 0x8000 ∷ 0xbfff ∷ []) 0x5ffe (row 32 7 2 0 ∷ row 35 0 0 0 ∷ row 35 255 7 7 ∷ [])
    ∷ ok (0x7008 ∷ 0x80ff ∷ 0x8100 ∷ 0x8700 ∷ 0x8800 ∷ 0xb800 ∷ 0x03ff ∷ 0x0400 ∷ 0x7c00 ∷ []) 0x52f9
    (row 32 7 8 0 ∷ row 35 255 0 0 ∷ row 35 0 0 1 ∷ row 35 0 0 7 ∷ row 35 0 1 0 ∷ row 35 0 7 0 ∷ row 36 0 0 1023 ∷ row 36 0 1 0 ∷ row 36 0 31 0 ∷ [])
    ∷ ok (0x7004 ∷ 0x8961 ∷ 0x5d79 ∷ 0x5d79 ∷ 0x8961 ∷ []) 0xd247 (row 32 7 4 0 ∷ row 35 97 1 1 ∷ row 36 0 23 377 ∷ row 36 0 23 377 ∷ row 35 97 1 1 ∷ [])
    ∷ ok (0x7001 ∷ 0x8961 ∷ 0x7001 ∷ 0x8961 ∷ []) 0x1d3b (row 32 7 1 0 ∷ row 35 97 1 1 ∷ row 32 7 1 0 ∷ row 35 97 1 1 ∷ [])
    ∷ no (0x7002 ∷ 0x8000 ∷ 0xc000 ∷ []) 0x5ffd 10 2 ∷ no (0x7001 ∷ 0 ∷ []) 0x9ffe 10 1 ∷ no (0x7001 ∷ 0x7fff ∷ []) 0x1fff 10 1 ∷ no (0x7002 ∷ 0x5d79 ∷ 0x8961 ∷ []) 0xb923 10 1
    ∷ no (0x7001 ∷ 0xc000 ∷ []) 0xdffe 10 1 ∷ no (0x7001 ∷ 0xffff ∷ []) 0x9fff 10 1 ∷ no (0x7002 ∷ 0x8961 ∷ 0xc961 ∷ []) 0x4d3b 10 2
    ∷ no (0x7003 ∷ 0x8961 ∷ 0x5d79 ∷ 0xffff ∷ []) 0xb923 10 3
    ∷ no (0x7001 ∷ 0x8961 ∷ 0x7001 ∷ 0x5d79 ∷ []) 0x4923 10 3 ∷ []

-- 13 at the last word: the sum of all words, headers too; after 6 and 10
abbrev sums : List (Vector Row)
sums =
    bare (0xf001 ∷ 0x0ffe ∷ []) 13 1 ∷ bare (0xf001 ∷ 0x1000 ∷ []) 13 1 ∷ bare (0xf001 ∷ 0 ∷ []) 13 1 ∷ bare (0xf001 ∷ 0xffff ∷ []) 13 1
    ∷ bare (0x3000 ∷ 0xf001 ∷ 0x0fff ∷ []) 13 2 ∷ ok (0x3000 ∷ []) 0xdfff (row 32 3 0 0 ∷ [])
    ∷ bare (0x3001 ∷ 1 ∷ 0xf001 ∷ 0xdffe ∷ []) 13 3 ∷ ok (0x3001 ∷ 1 ∷ []) 0xdffd (row 32 3 1 0 ∷ row 33 0 0 1 ∷ [])
    ∷ ok (0x3002 ∷ 0x0fff ∷ 0xc000 ∷ []) 0x0ffe (row 32 3 2 0 ∷ row 33 0 0 0x0fff ∷ row 33 0 0 0xc000 ∷ [])
    ∷ ok (0x3001 ∷ 0xdffe ∷ []) 0 (row 32 3 1 0 ∷ row 33 0 0 0xdffe ∷ []) ∷ ok (0x3001 ∷ 0xdfff ∷ []) 0xffff (row 32 3 1 0 ∷ row 33 0 0 0xdfff ∷ [])
    ∷ bare (0xf001 ∷ 0x8fff ∷ []) 13 1 ∷ bare (0x7001 ∷ 0 ∷ 0xf001 ∷ 0 ∷ []) 10 1 ∷ []

-- region by region: 10 in a region comes before 6, 5 and 7 of the next, and before 6 where the words end
abbrev orders : List (Vector Row)
orders =
    bare (0x7001 ∷ 0 ∷ 0x1000 ∷ []) 10 1 ∷ bare (0x6002 ∷ 0 ∷ 0x0100 ∷ 0x3001 ∷ []) 10 2 ∷ no (0x7001 ∷ 0 ∷ 0x2000 ∷ []) 0x7ffe 10 1 ∷ bare (0x7001 ∷ 0 ∷ []) 10 1 ∷ []

pub edges : AsExpected reading (events ++ ids ++ extents ++ sizes ++ opaques ++ scalers ++ vdcs ++ sums ++ orders)
edges = refl
