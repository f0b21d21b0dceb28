-- Readings of dialect S at the edges of its tables, computed (those of the largest events: crate s800_sizes). The expected outcomes are those of documents 01 and 02.
-- Assumes nothing.
use Prim.Native.Nat.{ℕ, ◌+◌}
use mathlib.Core.Path.{◌≡◌, refl}
use mathlib.Core.List.{List, [], ◌∷◌, ◌++◌, map}
use lib.ListN.{length, take, set, replicate}
use Rattle.event.specs.declared.Row.{Row}
use Rattle.event.specs.declared.StampOrder.{StampOrder}
use Rattle.event.specs.declared.StampOrder.TheVariants.{Crossed, Rising}
use Rattle.event.specs.Outcome.{Outcome, done, refused}
use Rattle.event.specs.Rows.{row}
use Rattle.event.proofs.Vectors.{rising, rising_rows}
use Rattle.s800_layout.specs.Reading.{reading}

pub record Vector : Type 0 where
  pub order : StampOrder
  pub words : List ℕ
  pub outcome : Outcome Row

abbrev vector : StampOrder → List ℕ → Outcome Row → Vector
vector o ws x = record { order = o; words = ws; outcome = x }

-- document 01 calls its first line M: here with words added, its length word counting them. Those stand at place 14 and on.
abbrev m : List ℕ → List ℕ
m more = (14 + length more) ∷ 0x5800 ∷ 0x0005 ∷ 0x0006 ∷ 0x5803 ∷ 0x1234 ∷ 0x0000 ∷ 0x0001 ∷ 0x0000 ∷ 0x0005 ∷ 0x5804 ∷ 0x0007 ∷ 0x0000 ∷ 0x0000 ∷ more

-- M with these words added has M's four rows and these
abbrev pub ok : List ℕ → List Row → Vector
ok more rows = vector Crossed (m more) (done (row 1 0x5803 0 0 ∷ row 2 0 0 0x00011234 ∷ row 1 0x5804 0 0 ∷ row 3 0 0 7 ∷ rows))

-- M with these words added is refused
abbrev pub no : List ℕ → (number place : ℕ) → Vector
no more n k = vector Crossed (m more) (refused n k)

-- M with the word at a place exchanged is refused
abbrev no_at : (at word : ℕ) → (number place : ℕ) → Vector
no_at i w n k = vector Crossed (set (m []) i w) (refused n k)

-- 1: fewer than 14 words. 2, 3, 4: words 0, 1, 2; the first wrong one is named.
abbrev events : List Vector
events =
    vector Crossed (set (take 13 (m [])) 0 13) (refused 1 0) ∷ vector Crossed [] (refused 1 0)
    ∷ ok [] []
    ∷ no_at 0 0x000d 2 0 ∷ no_at 0 0x000f 2 0
    ∷ no_at 1 0x57ff 3 1 ∷ no_at 1 0x5801 3 1
    ∷ no_at 2 0x0004 4 2 ∷ no_at 2 0x0006 4 2
    ∷ vector Crossed (take 13 (m [])) (refused 1 0)
    ∷ vector Crossed (set (set (m []) 0 13) 1 0) (refused 2 0)
    ∷ vector Crossed (set (set (m []) 1 0) 2 0) (refused 3 1)
    ∷ vector Crossed (set (set (m []) 2 0) 3 0) (refused 4 2) ∷ []

-- 0x5803, length 6, first, in both stamp orders; 0x5804, length 5, second. 5: below 2, above what remains. 6: another tag there.
abbrev first_packets : List Vector
first_packets =
    vector Crossed (0x000e ∷ 0x5800 ∷ 5 ∷ 6 ∷ 0x5803 ∷ 0x1111 ∷ 0x2222 ∷ 0x3333 ∷ 0x4444 ∷ 5 ∷ 0x5804 ∷ 0x5555 ∷ 0x6666 ∷ 0x7777 ∷ [])
    (done (row 1 0x5803 0 0 ∷ row 2 0 0x44442222 0x33331111 ∷ row 1 0x5804 0 0 ∷ row 3 0 0x7777 0x66665555 ∷ []))
    ∷ vector Rising (0x000e ∷ 0x5800 ∷ 5 ∷ 6 ∷ 0x5803 ∷ 0x1111 ∷ 0x2222 ∷ 0x3333 ∷ 0x4444 ∷ 5 ∷ 0x5804 ∷ 0x5555 ∷ 0x6666 ∷ 0x7777 ∷ [])
    (done (row 1 0x5803 0 0 ∷ row 2 0 0x44443333 0x22221111 ∷ row 1 0x5804 0 0 ∷ row 3 0 0x7777 0x66665555 ∷ []))
    ∷ vector Crossed (0x000e ∷ 0x5800 ∷ 5 ∷ 6 ∷ 0x5803 ∷ 0xffff ∷ 0xffff ∷ 0xffff ∷ 0xffff ∷ 5 ∷ 0x5804 ∷ 0xffff ∷ 0xffff ∷ 0xffff ∷ [])
    (done (row 1 0x5803 0 0 ∷ row 2 0 0xffffffff 0xffffffff ∷ row 1 0x5804 0 0 ∷ row 3 0 0xffff 0xffffffff ∷ []))
    ∷ no_at 3 1 5 3 ∷ no_at 3 2 7 3 ∷ no_at 3 5 7 3 ∷ no_at 3 7 7 3 ∷ no_at 3 11 7 3 ∷ no_at 3 12 5 3
    ∷ no_at 4 0x5804 6 4 ∷ no_at 4 0x5802 6 4
    ∷ no_at 9 1 5 9 ∷ no_at 9 2 7 9 ∷ no_at 9 4 7 9 ∷ no_at 9 6 5 9
    ∷ vector Crossed (set (m (0 ∷ [])) 9 6) (refused 7 9)
    ∷ no_at 10 0x5803 6 10 ∷ no_at 10 0x5802 6 10 ∷ []

-- Others in any order, and repeated. 5: below 2, above what remains. 6 before 7: 0x5803 or 0x5804 again, a tag unknown (0, inner tags, one below or above a tag).
abbrev runs : List Vector
runs =
    ok (2 ∷ 0x5802 ∷ 3 ∷ 0x5801 ∷ 0 ∷ 2 ∷ 0x5802 ∷ []) (row 1 0x5802 0 0 ∷ row 1 0x5801 0 0 ∷ row 4 0 0 0 ∷ row 1 0x5802 0 0 ∷ [])
    ∷ ok (3 ∷ 0x5802 ∷ 0x4064 ∷ 3 ∷ 0x5802 ∷ 0x4065 ∷ []) (row 1 0x5802 0 0 ∷ row 5 0 4 100 ∷ row 1 0x5802 0 0 ∷ row 5 0 4 101 ∷ [])
    ∷ no (0 ∷ []) 5 14 ∷ no (2 ∷ []) 5 14 ∷ no (0 ∷ 0x5802 ∷ []) 5 14 ∷ no (1 ∷ 0 ∷ []) 5 14
    ∷ no (3 ∷ 0x5802 ∷ []) 5 14 ∷ no (0xffff ∷ 0 ∷ []) 5 14
    ∷ no (2 ∷ 0x5802 ∷ 1 ∷ 0x5802 ∷ []) 5 16 ∷ no (2 ∷ 0x5802 ∷ 3 ∷ 0x5802 ∷ []) 5 16
    ∷ no (2 ∷ 0x5802 ∷ 2 ∷ 0x5801 ∷ []) 7 16
    ∷ no (6 ∷ 0x5803 ∷ 0x1234 ∷ 0 ∷ 1 ∷ 0 ∷ []) 6 15
    ∷ no (5 ∷ 0x5804 ∷ 7 ∷ 0 ∷ 0 ∷ []) 6 15
    ∷ no (2 ∷ 0x5802 ∷ 6 ∷ 0x5803 ∷ 0x1234 ∷ 0 ∷ 1 ∷ 0 ∷ []) 6 17
    ∷ no (2 ∷ 0x5802 ∷ 5 ∷ 0x5804 ∷ 7 ∷ 0 ∷ 0 ∷ []) 6 17
    ∷ map (λ t. no (2 ∷ t ∷ []) 6 15)
    (0 ∷ 0xffff ∷ 0x5800 ∷ 0x5803 ∷ 0x5804 ∷ 0x5805 ∷ 0x580f ∷ 0x5811 ∷ 0x581f ∷ 0x5821 ∷ 0x582f ∷ 0x5831 ∷ 0x583f ∷ 0x5841 ∷ 0x5845 ∷ 0x584f ∷ 0x5851 ∷ 0x585f
    ∷ 0x5861 ∷ 0x586f ∷ 0x5871 ∷ 0x587f ∷ 0x5881 ∷ 0x588f ∷ 0x5891 ∷ 0x589f ∷ 0x58a1 ∷ 0x58af ∷ 0x58b1 ∷ 0x58bf ∷ 0x58c1 ∷ 0x58d0 ∷ [])

-- 0x5801, 3 to 7: pattern (bits 5-15 zero), times, channel 8 to 11, none twice. The first wrong word is named.
abbrev trigger : List Vector
trigger =
    no (2 ∷ 0x5801 ∷ []) 7 14
    ∷ ok (3 ∷ 0x5801 ∷ 0x001f ∷ []) (row 1 0x5801 0 0 ∷ row 4 0 0 31 ∷ [])
    ∷ ok (7 ∷ 0x5801 ∷ 0 ∷ rising 0x8064 0x1001 4) (row 1 0x5801 0 0 ∷ row 4 0 0 0 ∷ rising_rows 5 0 8 100 4)
    ∷ no (8 ∷ 0x5801 ∷ 0 ∷ rising 0x8064 0x1001 5) 7 14
    ∷ no (3 ∷ 0x5801 ∷ 0x0020 ∷ []) 10 16 ∷ no (3 ∷ 0x5801 ∷ 0x8000 ∷ []) 10 16
    ∷ no (4 ∷ 0x5801 ∷ 1 ∷ 0x7fff ∷ []) 10 17
    ∷ ok (4 ∷ 0x5801 ∷ 1 ∷ 0x8000 ∷ []) (row 1 0x5801 0 0 ∷ row 4 0 0 1 ∷ row 5 0 8 0 ∷ [])
    ∷ ok (4 ∷ 0x5801 ∷ 1 ∷ 0xbfff ∷ []) (row 1 0x5801 0 0 ∷ row 4 0 0 1 ∷ row 5 0 11 4095 ∷ [])
    ∷ no (4 ∷ 0x5801 ∷ 1 ∷ 0xc000 ∷ []) 10 17
    ∷ no (6 ∷ 0x5801 ∷ 1 ∷ 0x8064 ∷ 0x9064 ∷ 0x8065 ∷ []) 11 19
    ∷ no (6 ∷ 0x5801 ∷ 1 ∷ 0x8064 ∷ 0x8064 ∷ 0xc064 ∷ []) 11 18
    ∷ no (5 ∷ 0x5801 ∷ 1 ∷ 0x7064 ∷ 0x7064 ∷ []) 10 17 ∷ []

-- 0x5802, 2 to 10: times, channel 4 to 7 or 12 to 15, none twice
abbrev time_of_flight : List Vector
time_of_flight =
    no (1 ∷ 0x5802 ∷ []) 5 14
    ∷ ok (2 ∷ 0x5802 ∷ []) (row 1 0x5802 0 0 ∷ [])
    ∷ ok (10 ∷ 0x5802 ∷ (rising 0x4064 0x1001 4 ++ rising 0xc068 0x1001 4)) (row 1 0x5802 0 0 ∷ (rising_rows 5 0 4 100 4 ++ rising_rows 5 0 12 104 4))
    ∷ no (11 ∷ 0x5802 ∷ rising 0x4064 0x1001 9) 7 14
    ∷ no (3 ∷ 0x5802 ∷ 0x3fff ∷ []) 10 16
    ∷ ok (3 ∷ 0x5802 ∷ 0x4000 ∷ []) (row 1 0x5802 0 0 ∷ row 5 0 4 0 ∷ [])
    ∷ ok (3 ∷ 0x5802 ∷ 0x7fff ∷ []) (row 1 0x5802 0 0 ∷ row 5 0 7 4095 ∷ [])
    ∷ no (3 ∷ 0x5802 ∷ 0x8000 ∷ []) 10 16 ∷ no (3 ∷ 0x5802 ∷ 0xbfff ∷ []) 10 16
    ∷ ok (3 ∷ 0x5802 ∷ 0xc000 ∷ []) (row 1 0x5802 0 0 ∷ row 5 0 12 0 ∷ [])
    ∷ ok (3 ∷ 0x5802 ∷ 0xffff ∷ []) (row 1 0x5802 0 0 ∷ row 5 0 15 4095 ∷ [])
    ∷ no (5 ∷ 0x5802 ∷ 0xf064 ∷ 0x4064 ∷ 0xf065 ∷ []) 11 18 ∷ []

-- 0x5810, even, 2 to 14: pairs of an energy and a time, channel 0 to 5, the same in both, none twice. 10 before 11 on one word.
abbrev scintillator : List Vector
scintillator =
    no (1 ∷ 0x5810 ∷ []) 5 14
    ∷ ok (2 ∷ 0x5810 ∷ []) (row 1 0x5810 0 0 ∷ [])
    ∷ no (3 ∷ 0x5810 ∷ 0x0064 ∷ []) 7 14 ∷ no (13 ∷ 0x5810 ∷ replicate 11 0x0064) 7 14
    ∷ ok (14 ∷ 0x5810 ∷ 0x0001 ∷ 0x0002 ∷ 0x1003 ∷ 0x1004 ∷ 0x2005 ∷ 0x2006 ∷ 0x3007 ∷ 0x3008 ∷ 0x4009 ∷ 0x400a ∷ 0x500b ∷ 0x500c ∷ [])
    (row 1 0x5810 0 0 ∷ row 6 0 0 1 ∷ row 5 0 0 2 ∷ row 6 0 1 3 ∷ row 5 0 1 4 ∷ row 6 0 2 5 ∷ row 5 0 2 6
    ∷ row 6 0 3 7 ∷ row 5 0 3 8 ∷ row 6 0 4 9 ∷ row 5 0 4 10 ∷ row 6 0 5 11 ∷ row 5 0 5 12 ∷ [])
    ∷ no (15 ∷ 0x5810 ∷ replicate 13 0x0064) 7 14 ∷ no (16 ∷ 0x5810 ∷ replicate 14 0x0064) 7 14
    ∷ ok (4 ∷ 0x5810 ∷ 0x0000 ∷ 0x0fff ∷ []) (row 1 0x5810 0 0 ∷ row 6 0 0 0 ∷ row 5 0 0 4095 ∷ [])
    ∷ ok (4 ∷ 0x5810 ∷ 0x5fff ∷ 0x5000 ∷ []) (row 1 0x5810 0 0 ∷ row 6 0 5 4095 ∷ row 5 0 5 0 ∷ [])
    ∷ no (4 ∷ 0x5810 ∷ 0x6000 ∷ 0x6000 ∷ []) 10 16 ∷ no (4 ∷ 0x5810 ∷ 0xf000 ∷ 0xf000 ∷ []) 10 16
    ∷ no (4 ∷ 0x5810 ∷ 0x2064 ∷ 0x1064 ∷ []) 10 17 ∷ no (4 ∷ 0x5810 ∷ 0x2064 ∷ 0x3064 ∷ []) 10 17
    ∷ no (8 ∷ 0x5810 ∷ 0x2064 ∷ 0x2064 ∷ 0x3064 ∷ 0x3064 ∷ 0x2065 ∷ 0x2065 ∷ []) 11 20
    ∷ no (6 ∷ 0x5810 ∷ 0x2064 ∷ 0x2064 ∷ 0x3065 ∷ 0x2065 ∷ []) 10 19 ∷ []

-- 0x5820, 4 to 20: one inner packet 0x5821 that fills it, length first; energies, no channel twice. 9: inner length, then tag.
abbrev ion_chamber : List Vector
ion_chamber =
    no (2 ∷ 0x5820 ∷ []) 7 14 ∷ no (3 ∷ 0x5820 ∷ 1 ∷ []) 7 14
    ∷ ok (4 ∷ 0x5820 ∷ 2 ∷ 0x5821 ∷ []) (row 1 0x5820 0 0 ∷ [])
    ∷ ok (20 ∷ 0x5820 ∷ 18 ∷ 0x5821 ∷ rising 0x0064 0x1001 16) (row 1 0x5820 0 0 ∷ rising_rows 6 0 0 100 16)
    ∷ no (21 ∷ 0x5820 ∷ 19 ∷ 0x5821 ∷ replicate 17 0x0064) 7 14
    ∷ no (5 ∷ 0x5820 ∷ 2 ∷ 0x5821 ∷ 0x0064 ∷ []) 9 16
    ∷ no (5 ∷ 0x5820 ∷ 4 ∷ 0x5821 ∷ 0x0064 ∷ 2 ∷ 0x5802 ∷ []) 9 16
    ∷ no (5 ∷ 0x5820 ∷ 3 ∷ 0x5820 ∷ 0x0064 ∷ []) 9 17 ∷ no (5 ∷ 0x5820 ∷ 3 ∷ 0x5822 ∷ 0x0064 ∷ []) 9 17
    ∷ no (4 ∷ 0x5820 ∷ 0x5821 ∷ 2 ∷ []) 9 16
    ∷ ok (6 ∷ 0x5820 ∷ 4 ∷ 0x5821 ∷ 0xffff ∷ 0x0000 ∷ []) (row 1 0x5820 0 0 ∷ row 6 0 15 4095 ∷ row 6 0 0 0 ∷ [])
    ∷ no (7 ∷ 0x5820 ∷ 5 ∷ 0x5821 ∷ 0xf064 ∷ 0x0064 ∷ 0xf065 ∷ []) 11 20 ∷ []

-- 0x5840, 10 and up: id 0 or 1; 0x5841 as long as the packet less 7 (its groups: proofs/GroupEdges); 0x5845 of length 4. 8 before 9.
abbrev crdc : List Vector
crdc =
    no (8 ∷ 0x5840 ∷ 0 ∷ 1 ∷ 0x5841 ∷ 4 ∷ 0x5845 ∷ 0 ∷ []) 7 14
    ∷ no (9 ∷ 0x5840 ∷ 0 ∷ 2 ∷ 0x5841 ∷ 4 ∷ 0x5845 ∷ 1 ∷ 2 ∷ []) 7 14
    ∷ ok (10 ∷ 0x5840 ∷ 0 ∷ 3 ∷ 0x5841 ∷ 0xffff ∷ 4 ∷ 0x5845 ∷ 0xffff ∷ 0xfffe ∷ []) (row 1 0x5840 0 0 ∷ row 7 0 0 0xffff ∷ row 9 0 0xffff 0xfffe ∷ [])
    ∷ no (11 ∷ 0x5840 ∷ 0 ∷ 4 ∷ 0x5841 ∷ 9 ∷ 0x8000 ∷ 4 ∷ 0x5845 ∷ 1 ∷ 2 ∷ []) 10 20
    ∷ no (11 ∷ 0x5840 ∷ 0 ∷ 3 ∷ 0x5841 ∷ 9 ∷ 0x8000 ∷ 4 ∷ 0x5845 ∷ 1 ∷ 2 ∷ []) 9 17
    ∷ ok (12 ∷ 0x5840 ∷ 0 ∷ 5 ∷ 0x5841 ∷ 9 ∷ 0x8000 ∷ 0 ∷ 4 ∷ 0x5845 ∷ 1 ∷ 2 ∷ []) (row 1 0x5840 0 0 ∷ row 7 0 0 9 ∷ row 8 0 0 0 ∷ row 12 0 0 0 ∷ row 9 0 1 2 ∷ [])
    ∷ ok (13 ∷ 0x5840 ∷ 0 ∷ 6 ∷ 0x5841 ∷ 9 ∷ 0x8000 ∷ 0 ∷ 0x0400 ∷ 4 ∷ 0x5845 ∷ 1 ∷ 2 ∷ [])
    (row 1 0x5840 0 0 ∷ row 7 0 0 9 ∷ row 8 0 0 0 ∷ row 12 0 0 0 ∷ row 12 0 64 0 ∷ row 9 0 1 2 ∷ [])
    ∷ no (10 ∷ 0x5840 ∷ 2 ∷ 3 ∷ 0x5841 ∷ 9 ∷ 4 ∷ 0x5845 ∷ 1 ∷ 2 ∷ []) 8 16
    ∷ no (10 ∷ 0x5840 ∷ 0x0100 ∷ 4 ∷ 0x5841 ∷ 9 ∷ 4 ∷ 0x5845 ∷ 1 ∷ 2 ∷ []) 8 16
    ∷ no (10 ∷ 0x5840 ∷ 1 ∷ 2 ∷ 0x5841 ∷ 9 ∷ 4 ∷ 0x5845 ∷ 1 ∷ 2 ∷ []) 9 17
    ∷ no (10 ∷ 0x5840 ∷ 1 ∷ 4 ∷ 0x5841 ∷ 9 ∷ 4 ∷ 0x5845 ∷ 1 ∷ 2 ∷ []) 9 17
    ∷ no (10 ∷ 0x5840 ∷ 1 ∷ 3 ∷ 0x5840 ∷ 9 ∷ 4 ∷ 0x5845 ∷ 1 ∷ 2 ∷ []) 9 18
    ∷ no (10 ∷ 0x5840 ∷ 1 ∷ 3 ∷ 0x5842 ∷ 9 ∷ 4 ∷ 0x5845 ∷ 1 ∷ 2 ∷ []) 9 18
    ∷ no (10 ∷ 0x5840 ∷ 1 ∷ 3 ∷ 0x5841 ∷ 9 ∷ 3 ∷ 0x5845 ∷ 1 ∷ 2 ∷ []) 9 20
    ∷ no (10 ∷ 0x5840 ∷ 1 ∷ 3 ∷ 0x5841 ∷ 9 ∷ 5 ∷ 0x5845 ∷ 1 ∷ 2 ∷ 2 ∷ 0x5802 ∷ []) 9 20
    ∷ no (10 ∷ 0x5840 ∷ 1 ∷ 3 ∷ 0x5841 ∷ 9 ∷ 4 ∷ 0x5844 ∷ 1 ∷ 2 ∷ []) 9 21
    ∷ no (10 ∷ 0x5840 ∷ 1 ∷ 3 ∷ 0x5841 ∷ 9 ∷ 4 ∷ 0x5846 ∷ 1 ∷ 2 ∷ []) 9 21 ∷ []

-- 0x58B0: id 0 or 1, 3 to 19: energies, row channel 16 × id + channel, none twice. Id 2, length 6: A, B, time. 7, then 8, then 7 again.
abbrev hodoscope : List Vector
hodoscope =
    no (2 ∷ 0x58b0 ∷ []) 7 14
    ∷ ok (3 ∷ 0x58b0 ∷ 0 ∷ []) (row 1 0x58b0 0 0 ∷ [])
    ∷ ok (19 ∷ 0x58b0 ∷ 0 ∷ rising 0x0064 0x1001 16) (row 1 0x58b0 0 0 ∷ rising_rows 6 0 0 100 16)
    ∷ ok (19 ∷ 0x58b0 ∷ 1 ∷ rising 0x0064 0x1001 16) (row 1 0x58b0 1 0 ∷ rising_rows 6 0 16 100 16)
    ∷ no (20 ∷ 0x58b0 ∷ 0 ∷ replicate 17 0x0064) 7 14 ∷ no (20 ∷ 0x58b0 ∷ 3 ∷ replicate 17 0x0064) 7 14
    ∷ no (3 ∷ 0x58b0 ∷ 2 ∷ []) 7 14
    ∷ no (5 ∷ 0x58b0 ∷ 2 ∷ 0x0064 ∷ 0x1064 ∷ 2 ∷ 0x5802 ∷ []) 7 14
    ∷ ok (6 ∷ 0x58b0 ∷ 2 ∷ 0xffff ∷ 0xfffe ∷ 0xfffd ∷ []) (row 1 0x58b0 2 0 ∷ row 10 0xffff 0xfffe 0xfffd ∷ [])
    ∷ no (7 ∷ 0x58b0 ∷ 2 ∷ 0x0064 ∷ 0x1064 ∷ 0x2064 ∷ 0x3064 ∷ []) 7 14
    ∷ no (3 ∷ 0x58b0 ∷ 3 ∷ []) 8 16 ∷ no (6 ∷ 0x58b0 ∷ 3 ∷ 0 ∷ 0 ∷ 0 ∷ []) 8 16
    ∷ no (4 ∷ 0x58b0 ∷ 0x0100 ∷ 0x0064 ∷ []) 8 16
    ∷ no (6 ∷ 0x58b0 ∷ 1 ∷ 0xf064 ∷ 0x0064 ∷ 0xf065 ∷ []) 11 19 ∷ []

-- 0x58A0, length 3: one energy. 0x58C0, 3 to 11: id 0 to 3, channel in bits 15-13, energy in bits 12-0, row channel 8 × id + channel, none twice.
abbrev others : List Vector
others =
    no (2 ∷ 0x58a0 ∷ []) 7 14
    ∷ ok (3 ∷ 0x58a0 ∷ 0x0fff ∷ []) (row 1 0x58a0 0 0 ∷ row 6 0 0 4095 ∷ [])
    ∷ ok (3 ∷ 0x58a0 ∷ 0xf000 ∷ []) (row 1 0x58a0 0 0 ∷ row 6 0 15 0 ∷ [])
    ∷ no (4 ∷ 0x58a0 ∷ 0x0064 ∷ 0x1064 ∷ []) 7 14
    ∷ no (2 ∷ 0x58c0 ∷ []) 7 14
    ∷ ok (3 ∷ 0x58c0 ∷ 0 ∷ []) (row 1 0x58c0 0 0 ∷ [])
    ∷ ok (11 ∷ 0x58c0 ∷ 0 ∷ rising 0x0064 0x2001 8) (row 1 0x58c0 0 0 ∷ rising_rows 6 0 0 100 8)
    ∷ ok (11 ∷ 0x58c0 ∷ 3 ∷ rising 0x0064 0x2001 8) (row 1 0x58c0 3 0 ∷ rising_rows 6 0 24 100 8)
    ∷ no (12 ∷ 0x58c0 ∷ 0 ∷ replicate 9 0x0064) 7 14
    ∷ ok (4 ∷ 0x58c0 ∷ 2 ∷ 0xe000 ∷ []) (row 1 0x58c0 2 0 ∷ row 6 0 23 0 ∷ [])
    ∷ no (3 ∷ 0x58c0 ∷ 4 ∷ []) 8 16 ∷ no (4 ∷ 0x58c0 ∷ 0x0100 ∷ 0x0064 ∷ []) 8 16
    ∷ ok (5 ∷ 0x58c0 ∷ 1 ∷ 0xffff ∷ 0x1fff ∷ []) (row 1 0x58c0 1 0 ∷ row 6 0 15 8191 ∷ row 6 0 8 8191 ∷ [])
    ∷ no (5 ∷ 0x58c0 ∷ 2 ∷ 0x0064 ∷ 0x1064 ∷ []) 11 18 ∷ []

-- 0x5830, 0x5850, 0x5860, 0x5870, 0x5880, 0x5890, 2 and up: opaque words. (Their largest: crate s800_sizes.)
abbrev opaque_tags : List ℕ
opaque_tags = 0x5830 ∷ 0x5850 ∷ 0x5860 ∷ 0x5870 ∷ 0x5880 ∷ 0x5890 ∷ []

abbrev opaques : List Vector
opaques =
    map (λ t. no (1 ∷ t ∷ []) 5 14) opaque_tags
    ++ map (λ t. ok (2 ∷ t ∷ []) (row 1 t 0 0 ∷ [])) opaque_tags
    ++ map (λ t. ok (5 ∷ t ∷ 0xffff ∷ 0 ∷ 0xffff ∷ []) (row 1 t 0 0 ∷ row 11 0 0 0xffff ∷ row 11 0 0 0 ∷ row 11 0 0 0xffff ∷ [])) opaque_tags

abbrev pub vectors : List Vector
vectors = events ++ first_packets ++ runs ++ trigger ++ time_of_flight ++ scintillator ++ ion_chamber ++ crdc ++ hodoscope ++ others ++ opaques

-- each reading is the expected one
pub edges : map (λ (v : Vector). reading v.order v.words) vectors ≡ map (λ (v : Vector). v.outcome) vectors
edges = refl
