-- Writings of dialect F at the edges of its tables, computed (those of the largest event: crate frs_sizes). The expected outcomes are document 01's, and
-- document 02's (#106) for a datum. (23 is none of them: 4 + 34 + 4 + 30 × 34 longwords are the most that rows can ask for.)
-- Assumes nothing.
use Prim.Native.Nat.{ℕ, ◌+◌, ◌*◌, ◌^◌}
use mathlib.Core.Path.{◌≡◌, refl}
use mathlib.Core.List.{List, [], ◌∷◌, ◌++◌, map}
use lib.ListN.{take, set, replicate}
use Rattle.event.specs.declared.Row.{Row}
use Rattle.event.specs.Outcome.{Outcome, done, refused}
use Rattle.event.specs.Parser.{each}
use Rattle.event.specs.Rows.{row, flat}
use Rattle.event.proofs.Vectors.{rising, rising_rows}
use Rattle.frs_layout.specs.Writing.{writing}
use Rattle.frs_layout.proofs.Edges.{geos, whole, whole_rows, unit, unit_row}

pub record Vector : Type 0 where
  pub elements : List ℕ
  pub outcome : Outcome ℕ

abbrev vector : List ℕ → Outcome ℕ → Vector
vector xs x = record { elements = xs; outcome = x }

-- the rows of document 01's case 10 with rows added. Those are rows 3 and on.
abbrev f : List Row → List Row
f more = row 16 0x17ff 0x38e1 0x0563 ∷ row 17 6 1 0 ∷ row 18 6 0 42 ∷ more

-- case 10's rows with these added have its longwords and these
abbrev ok : List Row → List ℕ → Vector
ok more words = vector (flat (f more)) (done (0x00000200 ∷ 0x00f717ff ∷ 0x01f738e1 ∷ 0x02f70563 ∷ 0x32000001 ∷ 0x0000002a ∷ 0x34000000 ∷ words))

-- case 10's rows with these added are refused
abbrev no : List Row → (number place : ℕ) → Vector
no more n k = vector (flat (f more)) (refused n k)

-- case 10's rows with one exchanged are refused
abbrev no_at : (at : ℕ) → Row → (number place : ℕ) → Vector
no_at i r n k = vector (flat (set (f []) i r)) (refused n k)

-- the row of case 10's stamp with these after it, rows 1 and on, has the stamp's longwords and these, or is refused
abbrev pub ok_scaler : List Row → List ℕ → Vector
ok_scaler more words = vector (flat (row 16 0x17ff 0x38e1 0x0563 ∷ more)) (done (0x00000200 ∷ 0x00f717ff ∷ 0x01f738e1 ∷ 0x02f70563 ∷ words))

abbrev pub no_scaler : List Row → (number place : ℕ) → Vector
no_scaler more n k = vector (flat (row 16 0x17ff 0x38e1 0x0563 ∷ more)) (refused n k)

-- a module with channel 0 alone
abbrev pub one : (g : ℕ) → List Row
one g = row 21 g 1 0 ∷ row 22 g 0 0 ∷ []

-- 20, before all else. Rows that end too early: 21 at the row count, after each row of the stamp and the scaler.
abbrev ends : List Vector
ends =
    vector (1 ∷ []) (refused 20 0) ∷ vector (16 ∷ 0 ∷ []) (refused 20 0) ∷ vector (16 ∷ 0 ∷ 0 ∷ []) (refused 20 0)
    ∷ vector (take 11 (flat (f []))) (refused 20 0) ∷ vector (flat (f []) ++ (20 ∷ [])) (refused 20 0) ∷ vector (flat (f []) ++ (20 ∷ 8 ∷ 0 ∷ [])) (refused 20 0)
    ∷ vector (replicate 5 0) (refused 20 0)
    ∷ vector [] (refused 21 0) ∷ vector (take 4 (flat (f []))) (refused 21 1) ∷ vector (take 8 (flat (f []))) (refused 21 2)
    ∷ ok [] []
    ∷ no_scaler (row 17 6 2 0 ∷ row 18 6 0 100 ∷ []) 21 3 ∷ no_scaler (row 17 6 32 0 ∷ []) 21 2 ∷ no_scaler (row 17 6 32 0 ∷ rising_rows 18 6 0 100 31) 21 33
    ∷ ok_scaler (row 17 6 32 0 ∷ rising_rows 18 6 0 100 32) (0x32000020 ∷ (rising 100 1 32 ++ (0x34000000 ∷ []))) ∷ []

-- Row 0, the stamp: kind 16; three words of 16 bits.
abbrev stamps : List Vector
stamps =
    map (λ k. no_at 0 (row k 0 0 0) 21 0) (0 ∷ 1 ∷ 2 ∷ 15 ∷ 17 ∷ 18 ∷ 19 ∷ 20 ∷ 21 ∷ 22 ∷ 23 ∷ 0x00010010 ∷ 0xffffffff ∷ [])
    ++ (no_at 0 (row 16 0x00010000 0 0) 22 0 ∷ no_at 0 (row 16 0 0x00010000 0) 22 0 ∷ no_at 0 (row 16 0 0 0x00010000) 22 0 ∷ no_at 0 (row 16 0xffffffff 0 0) 22 0
    ∷ no_at 0 (row 17 0x00010000 0x00010000 0x00010000) 21 0
    ∷ vector (flat (row 16 0xffff 0 1 ∷ row 17 6 1 0 ∷ row 18 6 0 0 ∷ [])) (done (0x00000200 ∷ 0x00f7ffff ∷ 0x01f70000 ∷ 0x02f70001 ∷ 0x32000001 ∷ 0 ∷ 0x34000000 ∷ []))
    ∷ vector (flat (row 16 0 0xffff 0xffff ∷ row 17 6 1 0 ∷ row 18 6 0 0xffffffff ∷ [])) (done (0x00000200 ∷ 0x00f70000 ∷ 0x01f7ffff ∷ 0x02f7ffff ∷ 0x32000001 ∷ 0xffffffff ∷ 0x34000000 ∷ []))
    ∷ vector (flat (set (set (f []) 0 (row 16 0x00010000 0 0)) 1 (row 0 0 0 0))) (refused 22 0) ∷ [])

-- Row 1, the scaler block: kind 17; unit 6, count 1 to 32, 0. Then as many scalers, kind 18; unit 6, index from 0, value. One too few or too many is 21 where it shows.
abbrev scalers : List Vector
scalers =
    map (λ k. no_at 1 (row k 6 1 0) 21 1) (0 ∷ 1 ∷ 16 ∷ 18 ∷ 19 ∷ 20 ∷ 21 ∷ 22 ∷ 0x00010011 ∷ [])
    ++ map (λ u. no_at 1 (row 17 u 1 0) 22 1) (0 ∷ 5 ∷ 7 ∷ 32 ∷ 38 ∷ 0xffffffff ∷ [])
    ++ map (λ c. no_at 1 (row 17 6 c 0) 22 1) (0 ∷ 33 ∷ 64 ∷ 65 ∷ 0x00010001 ∷ 0xffffffff ∷ [])
    ++ map (λ d. no_at 1 (row 17 6 1 d) 22 1) (1 ∷ 0x80000000 ∷ [])
    ++ map (λ k. no_at 2 (row k 6 0 42) 21 2) (0 ∷ 1 ∷ 16 ∷ 17 ∷ 19 ∷ 20 ∷ 21 ∷ 22 ∷ 0x00010012 ∷ [])
    ++ map (λ u. no_at 2 (row 18 u 0 42) 22 2) (0 ∷ 5 ∷ 7 ∷ 38 ∷ [])
    ++ map (λ c. no_at 2 (row 18 6 c 42) 22 2) (1 ∷ 32 ∷ 0xffffffff ∷ [])
    ++ (no_scaler (row 17 6 0 0 ∷ []) 22 1 ∷ no_scaler (row 17 6 33 0 ∷ rising_rows 18 6 0 100 33) 22 1
    ∷ ok_scaler (row 17 6 2 0 ∷ row 18 6 0 0x34000000 ∷ row 18 6 1 0 ∷ []) (0x32000002 ∷ 0x34000000 ∷ 0 ∷ 0x34000000 ∷ [])
    ∷ no_scaler (row 17 6 2 0 ∷ row 18 6 0 100 ∷ row 18 6 0 100 ∷ []) 22 3 ∷ no_scaler (row 17 6 2 0 ∷ row 18 6 0 100 ∷ row 18 6 2 100 ∷ []) 22 3
    ∷ no_scaler (row 17 6 2 0 ∷ row 18 6 1 100 ∷ row 18 6 0 100 ∷ []) 22 2
    ∷ no_scaler (row 17 6 2 0 ∷ row 18 6 0 100 ∷ unit_row ∷ []) 21 3 ∷ no_scaler (row 17 6 2 0 ∷ row 18 6 0 100 ∷ row 20 8 0 0 ∷ []) 21 3
    ∷ no (row 18 6 1 43 ∷ []) 21 3 ∷ no (row 18 6 0 42 ∷ []) 21 3 ∷ no_scaler (row 17 6 31 0 ∷ rising_rows 18 6 0 100 32) 21 33
    ∷ no_scaler (row 17 6 32 0 ∷ rising_rows 18 6 0 100 33) 21 34 ∷ no (row 17 6 1 0 ∷ row 18 6 0 42 ∷ []) 21 3 ∷ no (f []) 21 3 ∷ [])

-- Pattern unit, kind 19, only next after the scalers; unit 5, multiplicity and register of 16 bits
abbrev pattern_units : List Vector
pattern_units =
    ok (unit_row ∷ []) unit
    ∷ ok (row 19 5 0xffff 0 ∷ []) (0x2a000002 ∷ 0x28000000 ∷ 0x2801ffff ∷ 0x2c000000 ∷ [])
    ∷ ok (row 19 5 0 0xffff ∷ []) (0x2a000002 ∷ 0x2800ffff ∷ 0x28010000 ∷ 0x2c000000 ∷ [])
    ∷ ok (unit_row ∷ row 20 8 0 0 ∷ []) (unit ++ (0x46000000 ∷ []))
    ∷ map (λ r. no (r ∷ []) 22 3) (row 19 0 3 0x1234 ∷ row 19 4 3 0x1234 ∷ row 19 6 3 0x1234 ∷ row 19 37 3 0x1234 ∷ row 19 5 0x00010000 0x1234 ∷ row 19 5 3 0x00010000 ∷ row 19 5 3 0xffffffff ∷ [])
    ++ (no (unit_row ∷ unit_row ∷ []) 21 4 ∷ no (row 20 8 0 0 ∷ unit_row ∷ []) 21 4 ∷ no (one 8 ++ (unit_row ∷ [])) 21 5 ∷ no (unit_row ∷ row 20 8 0 0 ∷ row 19 0 0 0 ∷ []) 21 5
    ∷ no (unit_row ∷ row 18 6 1 43 ∷ []) 21 4 ∷ [])

-- Modules: only kinds 20 and 21 may begin one, with or without a pattern unit before, after an empty module and after one with data
abbrev kinds : List Vector
kinds =
    each (λ k. no (row k 8 1 0 ∷ []) 21 3 ∷ no (unit_row ∷ row k 8 1 0 ∷ []) 21 4 ∷ no (row 20 9 0 0 ∷ row k 9 1 0 ∷ []) 21 4 ∷ no (one 9 ++ (row k 9 1 0 ∷ [])) 21 5 ∷ [])
    (0 ∷ 1 ∷ 2 ∷ 11 ∷ 12 ∷ 15 ∷ 16 ∷ 17 ∷ 18 ∷ 22 ∷ 23 ∷ 0x00010014 ∷ 0x00010015 ∷ 0xffffffff ∷ [])

-- any GEO but 5 and 6, each once; an empty module's other fields 0; a count of 1 to 32, a counter of 16 bits
abbrev headers : List Vector
headers =
    map (λ g. ok (row 20 g 0 0 ∷ []) ((g * 2 ^ 27 + 0x06000000) ∷ [])) geos
    ++ map (λ g. ok (one g) ((g * 2 ^ 27 + 0x02000001) ∷ g * 2 ^ 27 ∷ (g * 2 ^ 27 + 0x04000000) ∷ [])) geos
    ++ each (λ g. no (row 20 g 0 0 ∷ []) 22 3 ∷ no (one g) 22 3 ∷ no (unit_row ∷ row 20 g 0 0 ∷ []) 22 4 ∷ no (row 20 8 0 0 ∷ one g) 22 4 ∷ []) (5 ∷ 6 ∷ 32 ∷ 37 ∷ 64 ∷ 0xffffffff ∷ [])
    ++ map (λ r. no (r ∷ row 22 8 0 0 ∷ []) 22 3)
    (row 20 8 1 0 ∷ row 20 8 0 1 ∷ row 20 8 0x80000000 0 ∷ row 20 8 0 0x80000000 ∷ row 21 8 0 0 ∷ row 21 8 33 0 ∷ row 21 8 64 0 ∷ row 21 8 65 0 ∷ row 21 8 0xffffffff 0 ∷ row 21 8 1 0x00010000
    ∷ row 21 8 1 0xffffffff ∷ [])
    ++ (ok (row 21 13 1 0xffff ∷ row 22 13 4 97 ∷ []) (0x6a000001 ∷ 0x68040061 ∷ 0x6c00ffff ∷ [])
    ∷ no (row 20 8 0 0 ∷ row 20 8 0 0 ∷ []) 22 4 ∷ no (row 20 8 0 0 ∷ one 8) 22 4 ∷ no (one 8 ++ (row 20 8 0 0 ∷ [])) 22 5 ∷ no (one 8 ++ one 8) 22 5
    ∷ no (row 20 8 0 0 ∷ row 20 9 0 0 ∷ row 20 8 0 0 ∷ []) 22 5 ∷ no (row 20 0 0 0 ∷ row 20 0 0 0 ∷ []) 22 4 ∷ no (row 20 31 0 0 ∷ row 20 31 0 0 ∷ []) 22 4
    ∷ ok (row 20 9 0 0 ∷ row 20 8 0 0 ∷ row 20 0 0 0 ∷ []) (0x4e000000 ∷ 0x46000000 ∷ 0x06000000 ∷ [])
    ∷ ok (map (λ g. row 20 g 0 0) geos) (map (λ g. g * 2 ^ 27 + 0x06000000) geos) ∷ no (map (λ g. row 20 g 0 0) geos ++ (row 20 7 0 0 ∷ [])) 22 33 ∷ [])

-- as many values as the count says, kind 22; the same GEO, channel 0 to 31 and none twice, a datum of 15 bits (#106). One too few or too many is 21 where it shows.
abbrev values : List Vector
values =
    no (row 21 13 1 5 ∷ []) 21 4 ∷ no (row 21 13 2 5 ∷ row 22 13 4 97 ∷ []) 21 5 ∷ no (row 21 13 32 5 ∷ rising_rows 22 13 0 100 31) 21 35
    ∷ no (row 21 13 1 5 ∷ row 22 13 4 97 ∷ row 22 13 5 97 ∷ []) 21 5 ∷ no (row 21 13 31 5 ∷ rising_rows 22 13 0 100 32) 21 35 ∷ no (whole_rows 13 ++ (row 22 13 0 100 ∷ [])) 21 36
    ∷ no (row 20 13 0 0 ∷ row 22 13 4 97 ∷ []) 21 4
    ∷ ok (whole_rows 13) (whole 13) ∷ ok (whole_rows 13 ++ (row 20 0 0 0 ∷ [])) (whole 13 ++ (0x06000000 ∷ []))
    ∷ ok (row 21 13 2 5 ∷ row 22 13 31 16383 ∷ row 22 13 0 0 ∷ []) (0x6a000002 ∷ 0x681f3fff ∷ 0x68000000 ∷ 0x6c000005 ∷ [])
    ∷ ok (row 21 13 2 5 ∷ row 22 13 31 16384 ∷ row 22 13 0 16383 ∷ []) (0x6a000002 ∷ 0x681f4000 ∷ 0x68003fff ∷ 0x6c000005 ∷ [])
    ∷ ok (row 21 13 2 5 ∷ row 22 13 31 32767 ∷ row 22 13 0 16384 ∷ []) (0x6a000002 ∷ 0x681f7fff ∷ 0x68004000 ∷ 0x6c000005 ∷ [])
    ∷ ok (row 21 13 1 5 ∷ row 22 13 0 32767 ∷ []) (0x6a000001 ∷ 0x68007fff ∷ 0x6c000005 ∷ [])
    ∷ ok (row 21 13 32 5 ∷ map (λ c. row 22 13 c 32767) (rising 0 1 32)) (0x6a000020 ∷ (rising 0x68007fff 0x00010000 32 ++ (0x6c000005 ∷ [])))
    ∷ ok (row 21 13 15 5 ∷ map (λ c. row 22 13 c (2 ^ c)) (rising 0 1 15)) (0x6a00000f ∷ (map (λ c. 0x68000000 + c * 2 ^ 16 + 2 ^ c) (rising 0 1 15) ++ (0x6c000005 ∷ [])))
    ∷ map (λ k. no (row 21 13 1 5 ∷ row k 13 4 97 ∷ []) 21 4) (0 ∷ 1 ∷ 16 ∷ 17 ∷ 18 ∷ 19 ∷ 20 ∷ 21 ∷ 23 ∷ 0x00010016 ∷ [])
    ++ (no (row 21 13 2 5 ∷ row 22 13 4 97 ∷ row 20 14 0 0 ∷ []) 21 5 ∷ no (row 21 13 2 5 ∷ row 22 13 4 97 ∷ one 14) 21 5 ∷ [])
    ++ map (λ r. no (row 21 13 2 5 ∷ row 22 13 4 97 ∷ r ∷ []) 22 5)
    (row 22 12 5 97 ∷ row 22 14 5 97 ∷ row 22 0 5 97 ∷ row 22 45 5 97 ∷ row 22 13 32 97 ∷ row 22 13 36 97 ∷ row 22 13 0xffffffff 97
    ∷ row 22 13 5 32768 ∷ row 22 13 5 49152 ∷ row 22 13 5 65535 ∷ row 22 13 5 0x0001404b ∷ row 22 13 5 0xffffffff ∷ row 22 13 4 97 ∷ row 22 13 4 98 ∷ [])
    ++ map (λ r. no (row 21 13 1 5 ∷ r ∷ []) 22 4) (row 22 12 4 97 ∷ row 22 14 4 97 ∷ row 22 13 32 97 ∷ row 22 13 4 65536 ∷ [])
    ++ map (λ c. no (row 21 13 1 5 ∷ row 22 13 c 32768 ∷ []) 22 4) (rising 0 1 32) ++ map (λ g. no (row 21 g 1 5 ∷ row 22 g 4 32768 ∷ []) 22 4) geos
    ++ (no (set (whole_rows 13) 32 (row 22 13 31 32768)) 22 35 ∷ no (row 21 13 1 5 ∷ row 18 13 4 32768 ∷ []) 21 4
    ∷ no (set (whole_rows 13) 32 (row 22 13 30 0)) 22 35 ∷ no (set (whole_rows 13) 32 (row 22 13 0 0)) 22 35
    ∷ ok (row 21 13 1 5 ∷ row 22 13 4 97 ∷ row 21 14 1 5 ∷ row 22 14 4 97 ∷ []) (0x6a000001 ∷ 0x68040061 ∷ 0x6c000005 ∷ 0x72000001 ∷ 0x70040061 ∷ 0x74000005 ∷ [])
    ∷ no (row 21 13 1 5 ∷ row 22 13 4 97 ∷ row 21 14 1 5 ∷ row 22 13 5 97 ∷ []) 22 6
    ∷ no (row 21 13 2 5 ∷ row 22 13 4 32768 ∷ row 20 14 0 0 ∷ []) 22 4 ∷ no (row 21 13 2 5 ∷ row 20 5 1 1 ∷ []) 21 4 ∷ [])

abbrev pub vectors : List Vector
vectors = ends ++ stamps ++ scalers ++ pattern_units ++ kinds ++ headers ++ values

-- each writing is the expected one
pub edges : map (λ (v : Vector). writing v.elements) vectors ≡ map (λ (v : Vector). v.outcome) vectors
edges = refl
