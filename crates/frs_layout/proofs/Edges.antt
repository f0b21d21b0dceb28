-- Readings of dialect F at the edges of its tables, computed. The expected outcomes are document 01's, and document 02's (#106) for a datum.
-- Assumes nothing.
use Prim.Native.Nat.{ℕ, ◌+◌, ◌*◌, ◌^◌}
use mathlib.Core.Path.{◌≡◌, refl}
use mathlib.Core.List.{List, [], ◌∷◌, ◌++◌, map}
use lib.ListN.{take, set, replicate}
use Rattle.event.specs.declared.Row.{Row}
use Rattle.event.specs.Outcome.{Outcome, done, refused}
use Rattle.event.specs.Parser.{each}
use Rattle.event.specs.Rows.{row}
use Rattle.event.proofs.Vectors.{rising, rising_rows}
use Rattle.frs_layout.specs.Reading.{reading}

pub record Vector : Type 0 where
  pub words : List ℕ
  pub outcome : Outcome Row

abbrev vector : List ℕ → Outcome Row → Vector
vector ws x = record { words = ws; outcome = x }

-- document 01's case 10 with words added. Those stand at place 7 and on.
abbrev f : List ℕ → List ℕ
f more = 0x00000200 ∷ 0x00f717ff ∷ 0x01f738e1 ∷ 0x02f70563 ∷ 0x32000001 ∷ 0x0000002a ∷ 0x34000000 ∷ more

-- its stamp with words added. Those, the scaler first, stand at place 4 and on.
abbrev s : List ℕ → List ℕ
s more = 0x00000200 ∷ 0x00f717ff ∷ 0x01f738e1 ∷ 0x02f70563 ∷ more

-- case 10 with these words added has its three rows and these
abbrev ok : List ℕ → List Row → Vector
ok more rows = vector (f more) (done (row 16 0x17ff 0x38e1 0x0563 ∷ row 17 6 1 0 ∷ row 18 6 0 42 ∷ rows))

-- case 10 with these words added is refused
abbrev no : List ℕ → (number place : ℕ) → Vector
no more n k = vector (f more) (refused n k)

-- case 10 with the word at a place exchanged is refused
abbrev no_at : (at word : ℕ) → (number place : ℕ) → Vector
no_at i w n k = vector (set (f []) i w) (refused n k)

-- the stamp with these words after it has the stamp's row and these, or is refused
abbrev ok_scaler : List ℕ → List Row → Vector
ok_scaler more rows = vector (s more) (done (row 16 0x17ff 0x38e1 0x0563 ∷ rows))

abbrev no_scaler : List ℕ → (number place : ℕ) → Vector
no_scaler more n k = vector (s more) (refused n k)

-- every GEO but 5 and 6
abbrev pub geos : List ℕ
geos = rising 0 1 5 ++ rising 7 1 25

-- a module with all of its channels, its data 0x3ff0 to 0x400f, either side of bit 14, and its rows; a GEO stands in bits 31-27
abbrev pub whole : (g : ℕ) → List ℕ
whole g = (g * 2 ^ 27 + 0x02000020) ∷ (rising (g * 2 ^ 27 + 0x00003ff0) 0x00010001 32 ++ ((g * 2 ^ 27 + 0x04000009) ∷ []))

abbrev pub whole_rows : (g : ℕ) → List Row
whole_rows g = row 21 g 32 9 ∷ rising_rows 22 g 0 0x3ff0 32

-- a module with channel 0 alone
abbrev one : (g : ℕ) → List ℕ
one g = (g * 2 ^ 27 + 0x02000001) ∷ g * 2 ^ 27 ∷ (g * 2 ^ 27 + 0x04000000) ∷ []

-- a pattern unit, and its row
abbrev pub unit : List ℕ
unit = 0x2a000002 ∷ 0x28001234 ∷ 0x28010003 ∷ 0x2c000000 ∷ []

abbrev pub unit_row : Row
unit_row = row 19 5 3 0x1234

-- the largest event: 4 + 34 + 4 + 30 × 34 words
abbrev largest : List ℕ
largest = s (0x32000020 ∷ (rising 100 1 32 ++ (0x34000000 ∷ (unit ++ each whole geos))))

abbrev largest_rows : List Row
largest_rows = row 16 0x17ff 0x38e1 0x0563 ∷ row 17 6 32 0 ∷ (rising_rows 18 6 0 100 32 ++ (unit_row ∷ each whole_rows geos))

-- 1: 7 to 1,062 longwords, before all else
abbrev events : List Vector
events =
    vector [] (refused 1 0) ∷ vector (take 6 (f [])) (refused 1 0) ∷ vector (replicate 6 0) (refused 1 0)
    ∷ ok [] []
    ∷ vector (replicate 7 0) (refused 10 0)
    ∷ vector largest (done largest_rows)
    ∷ vector (largest ++ (0x46000000 ∷ [])) (refused 1 0) ∷ vector (replicate 1063 0) (refused 1 0)
    ∷ vector (replicate 1062 0) (refused 10 0) ∷ []

-- Stamp: 0x00000200, then upper halves 0x00f7, 0x01f7, 0x02f7 over 16 data bits. 10, the first wrong one, before the scaler.
abbrev stamps : List Vector
stamps =
    map (λ w. no_at 0 w 10 0) (0 ∷ 0x000001ff ∷ 0x00000201 ∷ 0x00010200 ∷ 0x80000200 ∷ 0x00f717ff ∷ [])
    ++ map (λ w. no_at 1 w 10 1) (0x00f6ffff ∷ 0x00f80000 ∷ 0x000017ff ∷ 0x01f717ff ∷ 0x02f717ff ∷ 0x80f717ff ∷ 0x17ff00f7 ∷ [])
    ++ map (λ w. no_at 2 w 10 2) (0x01f6ffff ∷ 0x01f80000 ∷ 0x00f738e1 ∷ 0x02f738e1 ∷ 0x81f738e1 ∷ [])
    ++ map (λ w. no_at 3 w 10 3) (0x02f6ffff ∷ 0x02f80000 ∷ 0x00f70563 ∷ 0x01f70563 ∷ 0x03f70563 ∷ 0x82f70563 ∷ [])
    ++ map (λ i. vector (set (set (f []) i 0) 4 0) (refused 10 i)) (0 ∷ 1 ∷ 2 ∷ 3 ∷ [])
    ++ (vector (set (set (f []) 3 0) 1 0) (refused 10 1) ∷ vector (set (set (f []) 3 0) 2 0) (refused 10 2)
    ∷ vector (0x00000200 ∷ 0x00f70000 ∷ 0x01f70000 ∷ 0x02f70000 ∷ 0x32000001 ∷ 0 ∷ 0x34000000 ∷ []) (done (row 16 0 0 0 ∷ row 17 6 1 0 ∷ row 18 6 0 0 ∷ []))
    ∷ vector (0x00000200 ∷ 0x00f7ffff ∷ 0x01f7ffff ∷ 0x02f7ffff ∷ 0x32000001 ∷ 0xffffffff ∷ 0x34000000 ∷ []) (done (row 16 0xffff 0xffff 0xffff ∷ row 17 6 1 0 ∷ row 18 6 0 0xffffffff ∷ []))
    ∷ vector (0x00000200 ∷ 0x00f70001 ∷ 0x01f70002 ∷ 0x02f70003 ∷ 0x32000001 ∷ 0x34000000 ∷ 0x34000000 ∷ []) (done (row 16 1 2 3 ∷ row 17 6 1 0 ∷ row 18 6 0 0x34000000 ∷ [])) ∷ [])

-- Scaler, GEO 6: header flag 2, count 1 to 32 in bits 5-0, bits 23-6 zero. 6 (count 0, 33, 63; bits 6 and 23; flags; GEO 5, 7 and others), before 5.
abbrev scaler_headers : List Vector
scaler_headers =
    map (λ w. no_at 4 w 6 4)
    (0 ∷ 0x32000000 ∷ 0x32000021 ∷ 0x3200003f ∷ 0x32000041 ∷ 0x32000081 ∷ 0x32010001 ∷ 0x32800001 ∷ 0x30000001 ∷ 0x31000001 ∷ 0x33000001 ∷ 0x34000001 ∷ 0x35000001 ∷ 0x36000001
    ∷ 0x37000001 ∷ 0x36000000 ∷ 0x34000000 ∷ 0x2a000001 ∷ 0x2a000002 ∷ 0x3a000001 ∷ 0x12000001 ∷ 0x72000001 ∷ 0xb2000001 ∷ 0x02000001 ∷ 0x6a000001 ∷ 0x46000000 ∷ 0x3a000020 ∷ 0xffffffff ∷ [])
    ++ (no_scaler (0x32000000 ∷ (0x34000000 ∷ 0x46000000 ∷ [])) 6 4
    ∷ no_scaler (0x32000021 ∷ (rising 100 1 33 ++ (0x34000000 ∷ []))) 6 4
    ∷ no_scaler unit 6 4 ∷ no_scaler (one 13) 6 4 ∷ [])

-- The block fits, 5 at its header, before any later word; that many values, any longword; footer 0x34000000, 9.
abbrev scalers : List Vector
scalers =
    no_scaler (0x32000002 ∷ 100 ∷ 0x34000000 ∷ []) 5 4 ∷ no_scaler (0x32000020 ∷ 100 ∷ 0 ∷ []) 5 4
    ∷ ok_scaler (0x32000002 ∷ 100 ∷ 101 ∷ 0x34000000 ∷ []) (row 17 6 2 0 ∷ rising_rows 18 6 0 100 2)
    ∷ no_scaler (0x32000002 ∷ 100 ∷ 0x34000000 ∷ 0x46000000 ∷ []) 9 7
    ∷ no_scaler (0x3200001f ∷ rising 100 1 31) 5 4
    ∷ no_scaler (0x32000020 ∷ (rising 100 1 31 ++ (0x34000000 ∷ []))) 5 4
    ∷ no_scaler (0x32000020 ∷ rising 100 1 32) 5 4
    ∷ ok_scaler (0x3200001f ∷ (rising 100 1 31 ++ (0x34000000 ∷ []))) (row 17 6 31 0 ∷ rising_rows 18 6 0 100 31)
    ∷ ok_scaler (0x32000020 ∷ (rising 100 1 32 ++ (0x34000000 ∷ []))) (row 17 6 32 0 ∷ rising_rows 18 6 0 100 32)
    ∷ no_scaler (0x32000020 ∷ (rising 100 1 32 ++ (0x34000001 ∷ []))) 9 37
    ∷ map (λ w. no_at 6 w 9 6)
    (0 ∷ 0x33ffffff ∷ 0x34000001 ∷ 0x34008000 ∷ 0x34010000 ∷ 0x34800000 ∷ 0x30000000 ∷ 0x32000000 ∷ 0x32000001 ∷ 0x35000000 ∷ 0x36000000 ∷ 0x2c000000 ∷ 0x3c000000 ∷ 0x14000000 ∷ 0xb4000000 ∷ [])
    ++ (vector (set (f (0 ∷ [])) 6 0) (refused 9 6) ∷ [])

-- Pattern unit, next after the scaler: 0x2a000002, upper half 0x2800 over the register, 0x2801 over the multiplicity, 0x2c000000. There a word with GEO 5 is judged as one: 6, then 5,
-- then 10, 10, 9.
abbrev pattern_units : List Vector
pattern_units =
    ok unit (unit_row ∷ [])
    ∷ ok (0x2a000002 ∷ 0x28000000 ∷ 0x2801ffff ∷ 0x2c000000 ∷ []) (row 19 5 0xffff 0 ∷ [])
    ∷ ok (0x2a000002 ∷ 0x2800ffff ∷ 0x28010000 ∷ 0x2c000000 ∷ []) (row 19 5 0 0xffff ∷ [])
    ∷ ok (unit ++ (0x46000000 ∷ [])) (unit_row ∷ row 20 8 0 0 ∷ [])
    ∷ ok_scaler (0x32000002 ∷ 100 ∷ 101 ∷ 0x34000000 ∷ unit) (row 17 6 2 0 ∷ (rising_rows 18 6 0 100 2 ++ (unit_row ∷ [])))
    ∷ no (0x2a000002 ∷ []) 5 7 ∷ no (0x2a000002 ∷ 0x28001234 ∷ []) 5 7 ∷ no (0x2a000002 ∷ 0x28001234 ∷ 0x28010003 ∷ []) 5 7 ∷ no (0x2a000002 ∷ 0 ∷ 0 ∷ []) 5 7
    ∷ map (λ w. no (w ∷ 0x28001234 ∷ 0x28010003 ∷ 0x2c000000 ∷ []) 6 7)
    (0x2a000000 ∷ 0x2a000001 ∷ 0x2a000003 ∷ 0x2a000020 ∷ 0x2a000042 ∷ 0x2a010002 ∷ 0x2a800002 ∷ 0x28000002 ∷ 0x29000002 ∷ 0x2b000002 ∷ 0x2c000002 ∷ 0x2d000002 ∷ 0x2e000002 ∷ 0x2f000002
    ∷ 0x28000000 ∷ 0x2fffffff ∷ 0x2c000000 ∷ 0x2e000000 ∷ 0x32000002 ∷ [])
    ++ map (λ w. no (w ∷ []) 6 7) (0x2a000001 ∷ 0x2a000003 ∷ 0x2e000000 ∷ 0x28000000 ∷ [])
    ++ map (λ w. no (0x2a000002 ∷ w ∷ 0x28010003 ∷ 0x2c000000 ∷ []) 10 8) (0 ∷ 0x27ffffff ∷ 0x28010000 ∷ 0x28801234 ∷ 0x29001234 ∷ 0x20001234 ∷ 0x30001234 ∷ 0xa8001234 ∷ [])
    ++ map (λ w. no (0x2a000002 ∷ 0x28001234 ∷ w ∷ 0x2c000000 ∷ []) 10 9) (0 ∷ 0x2800ffff ∷ 0x28020000 ∷ 0x28810003 ∷ 0x29010003 ∷ 0x20010003 ∷ 0x30010003 ∷ 0xa8010003 ∷ [])
    ++ map (λ w. no (0x2a000002 ∷ 0x28001234 ∷ 0x28010003 ∷ w ∷ []) 9 10)
    (0 ∷ 0x2bffffff ∷ 0x2c000001 ∷ 0x2c010000 ∷ 0x2c800000 ∷ 0x28000000 ∷ 0x2a000000 ∷ 0x2d000000 ∷ 0x2e000000 ∷ 0x24000000 ∷ 0x34000000 ∷ 0xac000000 ∷ [])
    ++ (no (0x2a000002 ∷ 0x28010003 ∷ 0x28001234 ∷ 0x2c000000 ∷ []) 10 8 ∷ no (0x2a000002 ∷ 0x28001234 ∷ 0 ∷ 0 ∷ []) 10 9 ∷ no (0x2a000002 ∷ 0x28001234 ∷ 0x28010003 ∷ 0 ∷ 0 ∷ []) 9 10
    ∷ no (unit ++ unit) 6 11 ∷ no (unit ++ (0x2e000000 ∷ [])) 6 11 ∷ no (0x46000000 ∷ unit) 6 8 ∷ no (one 8 ++ unit) 6 10 ∷ no (unit ++ (0x46000000 ∷ unit)) 6 12 ∷ [])

-- A module's header, any GEO but 5 and 6. Empty: flag 6, bits 23-0 zero. Else flag 2, count 1 to 32 in bits 5-0, bits 23-6 zero.
abbrev headers : List Vector
headers =
    map (λ g. ok ((g * 2 ^ 27 + 0x06000000) ∷ []) (row 20 g 0 0 ∷ [])) geos
    ++ map (λ g. ok (one g) (row 21 g 1 0 ∷ row 22 g 0 0 ∷ [])) geos
    ++ (no (one 5) 6 7 ∷ no (one 6) 6 7 ∷ no (unit ++ one 5) 6 11 ∷ no (unit ++ one 6) 6 11 ∷ no (0x46000000 ∷ one 5) 6 8 ∷ no (0x46000000 ∷ one 6) 6 8
    ∷ no (0x32000001 ∷ 42 ∷ 0x34000000 ∷ []) 6 7 ∷ no (unit ++ (0x36000000 ∷ [])) 6 11 ∷ no (0x46000000 ∷ 0x2e000000 ∷ []) 6 8 ∷ [])
    ++ map (λ w. no (w ∷ []) 6 7) (0x36000000 ∷ 0x46000001 ∷ 0x46000020 ∷ 0x46000040 ∷ 0x46010000 ∷ 0x46800000 ∷ 0x40000000 ∷ 0x41000000 ∷ 0x43000000 ∷ 0x44000000 ∷ 0x45000000 ∷ 0x47000000 ∷ [])
    ++ map (λ w. no (w ∷ 0x40000000 ∷ 0x44000000 ∷ []) 6 7)
    (0x40000001 ∷ 0x41000001 ∷ 0x43000001 ∷ 0x44000001 ∷ 0x45000001 ∷ 0x46000001 ∷ 0x47000001 ∷ 0x42000000 ∷ 0x42000021 ∷ 0x4200003f ∷ 0x42000041 ∷ 0x42000081 ∷ 0x42010001 ∷ 0x42800001 ∷ [])
    ++ (no (0x42000021 ∷ (rising 0x40000000 0x00010000 33 ++ (0x44000000 ∷ []))) 6 7 ∷ ok (whole 31) (whole_rows 31) ∷ ok (0x46000000 ∷ whole 0) (row 20 8 0 0 ∷ whole_rows 0) ∷ [])

-- A module: its place is 7, its data stand at 8 and on. Here GEO 13, of document 01's case 11.
abbrev module1 : (datum footer : ℕ) → List ℕ
module1 d z = 0x6a000001 ∷ d ∷ z ∷ []

abbrev module2 : (datum datum' footer : ℕ) → List ℕ
module2 d e z = 0x6a000002 ∷ d ∷ e ∷ z ∷ []

-- 5: the block doesn't fit, at its header and before any of its data; it fits
abbrev fits : List Vector
fits =
    no (0x6a000001 ∷ []) 5 7 ∷ no (0x6a000001 ∷ 0x68040061 ∷ []) 5 7 ∷ no (0x6a000001 ∷ 0 ∷ []) 5 7
    ∷ ok (module1 0x68040061 0x6c000005) (row 21 13 1 5 ∷ row 22 13 4 97 ∷ [])
    ∷ no (0x6a000002 ∷ 0x68040061 ∷ 0x6c000005 ∷ []) 5 7 ∷ no (0x6a000002 ∷ 0 ∷ 0 ∷ []) 5 7 ∷ no (0x6a000002 ∷ 0x68048061 ∷ 0x6c000005 ∷ []) 5 7
    ∷ no (0x6a000002 ∷ 0x68040061 ∷ 0x68040061 ∷ []) 5 7
    ∷ ok (module2 0x68040061 0x68030060 0x6c000005) (row 21 13 2 5 ∷ row 22 13 4 97 ∷ row 22 13 3 96 ∷ [])
    ∷ no (take 33 (whole 13)) 5 7 ∷ no (take 32 (whole 13)) 5 7 ∷ no (0x46000000 ∷ take 33 (whole 13)) 5 8 ∷ no (unit ++ take 33 (whole 13)) 5 11
    ∷ no (0x6a000020 ∷ module1 0x68040061 0x6c000005) 5 7
    ∷ ok (whole 13) (whole_rows 13) ∷ ok (whole 13 ++ whole 12) (whole_rows 13 ++ whole_rows 12) ∷ []

-- Data with the same GEO, flag 0, channel in bits 20-16, bits 23-21 and 15 zero, datum in bits 14-0 (#106)
abbrev good_data : List Vector
good_data =
    ok (module1 0x68000000 0x6c000005) (row 21 13 1 5 ∷ row 22 13 0 0 ∷ []) ∷ ok (module1 0x681f0000 0x6c000005) (row 21 13 1 5 ∷ row 22 13 31 0 ∷ [])
    ∷ ok (module1 0x68003fff 0x6c000005) (row 21 13 1 5 ∷ row 22 13 0 16383 ∷ []) ∷ ok (module1 0x681f3fff 0x6c000005) (row 21 13 1 5 ∷ row 22 13 31 16383 ∷ [])
    ∷ ok (module1 0x68004000 0x6c000005) (row 21 13 1 5 ∷ row 22 13 0 16384 ∷ []) ∷ ok (module1 0x681f4000 0x6c000005) (row 21 13 1 5 ∷ row 22 13 31 16384 ∷ [])
    ∷ ok (module1 0x68007fff 0x6c000005) (row 21 13 1 5 ∷ row 22 13 0 32767 ∷ []) ∷ ok (module1 0x681f7fff 0x6c000005) (row 21 13 1 5 ∷ row 22 13 31 32767 ∷ [])
    ∷ ok (module2 0x6804404b 0x6803004b 0x6c000005) (row 21 13 2 5 ∷ row 22 13 4 16459 ∷ row 22 13 3 75 ∷ [])
    ∷ ok (unit ++ module1 0x6804404b 0x6c000005) (unit_row ∷ row 21 13 1 5 ∷ row 22 13 4 16459 ∷ [])
    ∷ ok (set (whole 13) 32 0x681f4000) (set (whole_rows 13) 32 (row 22 13 31 16384))
    ∷ ok (0x6a000020 ∷ (rising 0x68007fff 0x00010000 32 ++ (0x6c000005 ∷ []))) (row 21 13 32 5 ∷ map (λ c. row 22 13 c 32767) (rising 0 1 32))
    -- each bit alone, in the channel of its number; bit 14 in every GEO
    ∷ ok (0x6a00000f ∷ (map (λ c. 0x68000000 + c * 2 ^ 16 + 2 ^ c) (rising 0 1 15) ++ (0x6c000005 ∷ []))) (row 21 13 15 5 ∷ map (λ c. row 22 13 c (2 ^ c)) (rising 0 1 15))
    ∷ ok (each (λ g. (g * 2 ^ 27 + 0x02000001) ∷ (g * 2 ^ 27 + 0x0004404b) ∷ (g * 2 ^ 27 + 0x04000005) ∷ []) geos) (each (λ g. row 21 g 1 5 ∷ row 22 g 4 16459 ∷ []) geos) ∷ []

-- else 10. No channel twice: 11, at the second; another module's channels are its own.
abbrev bad_data : List Vector
bad_data =
    map (λ w. no (module1 w 0x6c000005) 10 8)
    (0 ∷ 0x60040061 ∷ 0x6004404b ∷ 0x70040061 ∷ 0x28040061 ∷ 0xe8040061 ∷ 0x69040061 ∷ 0x6a040061 ∷ 0x6c040061 ∷ 0x6e040061 ∷ 0x6f040061 ∷ 0x68240061 ∷ 0x68440061 ∷ 0x68840061
    ∷ 0x68200000 ∷ 0x6804bfff ∷ 0x6804c061 ∷ 0x6804ffff ∷ 0x67ffffff ∷ 0x6c000005 ∷ [])
    ++ map (λ w. no (module2 0x68050061 w 0x6c000005) 10 9)
    (0x60040061 ∷ 0x70040061 ∷ 0x69040061 ∷ 0x68240061 ∷ 0x68844061 ∷ 0x6c000005 ∷ 0x69050061 ∷ 0x60050061 ∷ 0x68058061 ∷ 0x6805c061 ∷ 0x68250061 ∷ [])
    ++ (no (module2 0x68040061 0x68040061 0x6c000005) 11 9 ∷ no (module2 0x68040061 0x68040000 0) 11 9 ∷ no (module2 0x68000000 0x68000001 0x6c000005) 11 9
    ∷ no (module2 0x681f0000 0x681f3fff 0x6c000005) 11 9 ∷ no (module2 0x6804004b 0x6804404b 0x6c000005) 11 9 ∷ no (module2 0x60040061 0x60040061 0) 10 8
    ∷ no (module1 0x68048061 0x6c010000) 10 8 ∷ no (module1 0x68044061 0x6c010000) 9 9
    ∷ no (0x6a000003 ∷ 0x68040061 ∷ 0x68050061 ∷ 0x68040062 ∷ 0x6c000005 ∷ []) 11 10
    ∷ no (0x6a000003 ∷ 0x68040061 ∷ 0x68040061 ∷ 0 ∷ 0x6c000005 ∷ []) 11 9 ∷ no (0x6a000003 ∷ 0x68040061 ∷ 0 ∷ 0x68040061 ∷ 0x6c000005 ∷ []) 10 9
    ∷ no (set (whole 13) 32 0x68000000) 11 39 ∷ no (set (whole 13) 32 0x681e0000) 11 39 ∷ no (set (whole 13) 32 0x681f8000) 10 39
    ∷ ok (module1 0x68040061 0x6c000005 ++ (0x72000001 ∷ 0x70040061 ∷ 0x74000005 ∷ [])) (row 21 13 1 5 ∷ row 22 13 4 97 ∷ row 21 14 1 5 ∷ row 22 14 4 97 ∷ [])
    ∷ no (module1 0x68040061 0x6c000005 ++ (0x72000001 ∷ 0x68050061 ∷ 0x74000005 ∷ [])) 10 11 ∷ [])
    -- bit 15 in every channel, and in every GEO
    ++ map (λ c. no (module1 (0x68008000 + c * 2 ^ 16) 0x6c000005) 10 8) (rising 0 1 32)
    ++ map (λ g. no ((g * 2 ^ 27 + 0x02000001) ∷ (g * 2 ^ 27 + 0x00048000) ∷ (g * 2 ^ 27 + 0x04000005) ∷ []) 10 8) geos

-- Footer with the same GEO, flag 4, bits 23-16 zero, counter in bits 15-0: 9, after the data and before the next block
abbrev footers : List Vector
footers =
    ok (module1 0x68040061 0x6c000000) (row 21 13 1 0 ∷ row 22 13 4 97 ∷ []) ∷ ok (module1 0x68040061 0x6c00ffff) (row 21 13 1 65535 ∷ row 22 13 4 97 ∷ [])
    ∷ map (λ w. no (module1 0x68040061 w) 9 9)
    (0 ∷ 0x64000005 ∷ 0x74000005 ∷ 0x2c000000 ∷ 0x34000000 ∷ 0xec000005 ∷ 0x68000005 ∷ 0x69000005 ∷ 0x6a000001 ∷ 0x6b000005 ∷ 0x6d000005 ∷ 0x6e000000 ∷ 0x6f000005 ∷ 0x6c010000 ∷ 0x6c100005
    ∷ 0x6c800000 ∷ 0x68050061 ∷ [])
    ++ (no (module1 0x68040061 0x6c010000 ++ (0 ∷ [])) 9 9 ∷ no (module1 0x60040061 0) 10 8 ∷ no (set (whole 13) 33 0x6d000009) 9 40
    ∷ no (0x6a000001 ∷ 0x68040061 ∷ 0x68050061 ∷ 0x6c000005 ∷ []) 9 9 ∷ no (module1 0x68040061 0x6c000005 ++ (0 ∷ [])) 6 10 ∷ [])

-- Each GEO once: 11 at the second header. On a header 6 before 11 before 5.
abbrev twice : List Vector
twice =
    no (0x46000000 ∷ 0x46000000 ∷ []) 11 8 ∷ no (0x46000000 ∷ one 8) 11 8 ∷ no (one 8 ++ (0x46000000 ∷ [])) 11 10 ∷ no (one 8 ++ one 8) 11 10
    ∷ no (0x06000000 ∷ 0x06000000 ∷ []) 11 8 ∷ no (0xfe000000 ∷ 0xfe000000 ∷ []) 11 8
    ∷ no (0x46000000 ∷ 0x4e000000 ∷ 0x46000000 ∷ []) 11 9 ∷ no (0x46000000 ∷ 0x4e000000 ∷ 0x4e000000 ∷ 0x46000000 ∷ []) 11 9 ∷ no (unit ++ (0x46000000 ∷ 0x46000000 ∷ [])) 11 12
    ∷ no (map (λ g. g * 2 ^ 27 + 0x06000000) geos ++ (0x06000000 ∷ [])) 11 37 ∷ no (map (λ g. g * 2 ^ 27 + 0x06000000) geos ++ (0xfe000000 ∷ [])) 11 37
    ∷ ok (map (λ g. g * 2 ^ 27 + 0x06000000) geos) (map (λ g. row 20 g 0 0) geos)
    ∷ ok (0x4e000000 ∷ 0x46000000 ∷ 0x06000000 ∷ []) (row 20 9 0 0 ∷ row 20 8 0 0 ∷ row 20 0 0 0 ∷ [])
    ∷ map (λ w. no (0x46000000 ∷ w ∷ []) 6 8) (0x46000001 ∷ 0x42000000 ∷ 0x42000021 ∷ 0x42000041 ∷ 0x44000000 ∷ [])
    ++ (no (0x46000000 ∷ 0x42000001 ∷ []) 11 8 ∷ no (0x46000000 ∷ 0x42000020 ∷ 0 ∷ []) 11 8 ∷ no (0x46000000 ∷ 0x42000001 ∷ 0 ∷ 0 ∷ []) 11 8
    ∷ no (one 8 ++ (0x42000020 ∷ [])) 11 10 ∷ no (0x46000000 ∷ 0x4a000001 ∷ []) 5 8 ∷ [])

abbrev pub vectors : List Vector
vectors = events ++ stamps ++ scaler_headers ++ scalers ++ pattern_units ++ headers ++ fits ++ good_data ++ bad_data ++ footers ++ twice

-- each reading is the expected one
pub edges : map (λ (v : Vector). reading v.words) vectors ≡ map (λ (v : Vector). v.outcome) vectors
edges = refl
