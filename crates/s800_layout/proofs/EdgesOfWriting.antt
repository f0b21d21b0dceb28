-- Writings of dialect S at the edges of its tables, computed (those of the largest events: crate s800_sizes). The expected outcomes are those of documents 01 and 02.
-- Assumes nothing.
use Prim.Native.Nat.{ℕ, ◌+◌}
use mathlib.Core.Bool.{cond}
use mathlib.Core.Path.{◌≡◌, refl}
use mathlib.Core.List.{List, [], ◌∷◌, ◌++◌, map}
use lib.ListN.{length, take, set, replicate}
use Rattle.event.specs.declared.Row.{Row}
use Rattle.event.specs.declared.StampOrder.{StampOrder}
use Rattle.event.specs.declared.StampOrder.TheVariants.{Crossed, Rising}
use Rattle.event.specs.Outcome.{Outcome, done, refused}
use Rattle.event.specs.Parser.{each, member}
use Rattle.event.specs.Rows.{row, flat}
use Rattle.event.proofs.Vectors.{rising, rising_rows}
use Rattle.s800_layout.specs.Writing.{writing}

pub record Vector : Type 0 where
  pub order : StampOrder
  pub elements : List ℕ
  pub outcome : Outcome ℕ

abbrev vector : StampOrder → List ℕ → Outcome ℕ → Vector
vector o xs x = record { order = o; elements = xs; outcome = x }

-- the rows of document 01's M with rows added. Those are rows 4 and on.
abbrev m : List Row → List Row
m more = row 1 0x5803 0 0 ∷ row 2 0 0 0x00011234 ∷ row 1 0x5804 0 0 ∷ row 3 0 0 7 ∷ more

-- M's rows with these added have M's words and these, the length word counting them
abbrev pub ok : List Row → List ℕ → Vector
ok more words = vector Crossed (flat (m more))
    (done ((14 + length words) ∷ 0x5800 ∷ 0x0005 ∷ 0x0006 ∷ 0x5803 ∷ 0x1234 ∷ 0x0000 ∷ 0x0001 ∷ 0x0000 ∷ 0x0005 ∷ 0x5804 ∷ 0x0007 ∷ 0x0000 ∷ 0x0000 ∷ words))

-- M's rows with these added are refused
abbrev pub no : List Row → (number place : ℕ) → Vector
no more n k = vector Crossed (flat (m more)) (refused n k)

-- M's rows with one exchanged are refused in both stamp orders
abbrev no_at : (at : ℕ) → Row → (number place : ℕ) → List Vector
no_at i r n k = vector Crossed (flat (set (m []) i r)) (refused n k) ∷ vector Rising (flat (set (m []) i r)) (refused n k) ∷ []

-- after M's rows and these, a row that may stand there and has a field that may not: 22 at it
abbrev pub bad : List Row → Row → Vector
bad before r = no (before ++ (r ∷ [])) 22 (4 + length before)

-- after M's rows and these, every kind but the allowed ones: 21 at it, though the tag is a good one and a field is wrong
abbrev but : (allowed : List ℕ) → List ℕ → List ℕ
but allowed [] = []
but allowed (k ∷ ks) = cond (member k allowed) (but allowed ks) (k ∷ but allowed ks)

abbrev kinds : List ℕ
kinds = 0 ∷ 1 ∷ 2 ∷ 3 ∷ 4 ∷ 5 ∷ 6 ∷ 7 ∷ 8 ∷ 9 ∷ 10 ∷ 11 ∷ 12 ∷ 13 ∷ 14 ∷ 15 ∷ 16 ∷ 17 ∷ 18 ∷ 19 ∷ 20 ∷ 21 ∷ 22 ∷ 32 ∷ 33 ∷ 34 ∷ 35 ∷ 36 ∷ 0x00010001 ∷ 0xffffffff ∷ []

abbrev pub only : (allowed : List ℕ) → List Row → List Vector
only allowed before = map (λ k. no (before ++ (row k 0x5802 0 0 ∷ [])) 21 (4 + length before)) (but allowed kinds)

-- the same where the packet may not end: 21 also at the row count, where the rows end
abbrev pub only_inside : (allowed : List ℕ) → List Row → List Vector
only_inside allowed before = no before 21 (4 + length before) ∷ only allowed before

-- 20, before all else. Rows that end too early: 21 at the row count.
abbrev sizes : List Vector
sizes =
    each (λ o. vector o (1 ∷ []) (refused 20 0) ∷ vector o (1 ∷ 0x5803 ∷ []) (refused 20 0) ∷ vector o (1 ∷ 0x5803 ∷ 0 ∷ []) (refused 20 0) ∷ vector o (take 15 (flat (m []))) (refused 20 0)
    ∷ vector o (flat (m []) ++ (0 ∷ [])) (refused 20 0) ∷ vector o (replicate 6 0) (refused 20 0) ∷ vector o [] (refused 21 0) ∷ vector o (take 4 (flat (m []))) (refused 21 1)
    ∷ vector o (take 8 (flat (m []))) (refused 21 2) ∷ vector o (take 12 (flat (m []))) (refused 21 3) ∷ []) (Crossed ∷ Rising ∷ [])
    ++ (ok [] [] ∷ [])

-- Rows 0 to 3: 0x5803 and the stamp, in both stamp orders, 0x5804 and the event number. 21 kind or tag, before 22.
abbrev first_rows : List Vector
first_rows =
    vector Crossed (flat (row 1 0x5803 0 0 ∷ row 2 0 0x44442222 0x33331111 ∷ row 1 0x5804 0 0 ∷ row 3 0 0x7777 0x66665555 ∷ []))
    (done (0x000e ∷ 0x5800 ∷ 5 ∷ 6 ∷ 0x5803 ∷ 0x1111 ∷ 0x2222 ∷ 0x3333 ∷ 0x4444 ∷ 5 ∷ 0x5804 ∷ 0x5555 ∷ 0x6666 ∷ 0x7777 ∷ []))
    ∷ vector Rising (flat (row 1 0x5803 0 0 ∷ row 2 0 0x44443333 0x22221111 ∷ row 1 0x5804 0 0 ∷ row 3 0 0x7777 0x66665555 ∷ []))
    (done (0x000e ∷ 0x5800 ∷ 5 ∷ 6 ∷ 0x5803 ∷ 0x1111 ∷ 0x2222 ∷ 0x3333 ∷ 0x4444 ∷ 5 ∷ 0x5804 ∷ 0x5555 ∷ 0x6666 ∷ 0x7777 ∷ []))
    ∷ each (λ o. vector o (flat (row 1 0x5803 0 0 ∷ row 2 0 0xffffffff 0xffffffff ∷ row 1 0x5804 0 0 ∷ row 3 0 0xffff 0xffffffff ∷ []))
    (done (0x000e ∷ 0x5800 ∷ 5 ∷ 6 ∷ 0x5803 ∷ 0xffff ∷ 0xffff ∷ 0xffff ∷ 0xffff ∷ 5 ∷ 0x5804 ∷ 0xffff ∷ 0xffff ∷ 0xffff ∷ [])) ∷ []) (Crossed ∷ Rising ∷ [])
    ++ each (λ k. no_at 0 (row k 0x5803 0 0) 21 0) (but (1 ∷ []) kinds) ++ each (λ t. no_at 0 (row 1 t 1 1) 21 0) (0 ∷ 0x5800 ∷ 0x5801 ∷ 0x5802 ∷ 0x5804 ∷ 0x00015803 ∷ [])
    ++ no_at 0 (row 1 0x5803 1 0) 22 0 ++ no_at 0 (row 1 0x5803 0 1) 22 0
    ++ each (λ k. no_at 1 (row k 1 0 0) 21 1) (but (2 ∷ []) kinds) ++ no_at 1 (row 2 1 0 0) 22 1 ++ no_at 1 (row 1 0x5803 0 0) 21 1
    ++ each (λ k. no_at 2 (row k 0x5804 0 0) 21 2) (but (1 ∷ []) kinds) ++ each (λ t. no_at 2 (row 1 t 1 1) 21 2) (0 ∷ 0x5800 ∷ 0x5801 ∷ 0x5802 ∷ 0x5803 ∷ 0x5805 ∷ 0x00015804 ∷ [])
    ++ no_at 2 (row 1 0x5804 1 0) 22 2 ++ no_at 2 (row 1 0x5804 0 1) 22 2
    ++ each (λ k. no_at 3 (row k 1 0 7) 21 3) (but (3 ∷ []) kinds) ++ no_at 3 (row 3 1 0 7) 22 3 ++ no_at 3 (row 3 0 0x00010000 7) 22 3 ++ no_at 3 (row 3 0 0xffffffff 7) 22 3 ++ no_at 3 (row 1 0x5801 0 0) 21 3

-- Packets, in any order and repeated. 21 a tag unknown, or 0x5803 or 0x5804 again, before 22 its id; 22 an id where the tag has none or above the largest, a datum.
abbrev runs : List Vector
runs =
    only (1 ∷ []) []
    ++ (ok (row 1 0x5802 0 0 ∷ row 1 0x5801 0 0 ∷ row 4 0 0 0 ∷ row 1 0x5802 0 0 ∷ []) (2 ∷ 0x5802 ∷ 3 ∷ 0x5801 ∷ 0 ∷ 2 ∷ 0x5802 ∷ [])
    ∷ ok (row 1 0x5802 0 0 ∷ row 5 0 4 100 ∷ row 1 0x5802 0 0 ∷ row 5 0 4 101 ∷ []) (3 ∷ 0x5802 ∷ 0x4064 ∷ 3 ∷ 0x5802 ∷ 0x4065 ∷ [])
    ∷ no (row 1 0x5802 0 0 ∷ row 1 0x5803 0 0 ∷ []) 21 5 ∷ no (row 1 0x5802 0 0 ∷ row 1 0x5804 0 0 ∷ []) 21 5 ∷ no (m []) 21 4 ∷ no (row 1 0x5802 1 0 ∷ row 0 0 0 0 ∷ []) 22 4 ∷ [])
    ++ map (λ t. no (row 1 t 0 0 ∷ []) 21 4)
    (0 ∷ 0xffff ∷ 0x5800 ∷ 0x5803 ∷ 0x5804 ∷ 0x5805 ∷ 0x580f ∷ 0x5811 ∷ 0x581f ∷ 0x5821 ∷ 0x582f ∷ 0x5831 ∷ 0x583f ∷ 0x5841 ∷ 0x5845 ∷ 0x584f ∷ 0x5851 ∷ 0x585f ∷ 0x5861 ∷ 0x586f ∷ 0x5871
    ∷ 0x587f ∷ 0x5881 ∷ 0x588f ∷ 0x5891 ∷ 0x589f ∷ 0x58a1 ∷ 0x58af ∷ 0x58b1 ∷ 0x58bf ∷ 0x58c1 ∷ 0x58d0 ∷ 0x00015801 ∷ 0x80005802 ∷ [])
    ++ map (λ t. no (row 1 t 9 9 ∷ []) 21 4) (0 ∷ 0x5803 ∷ 0x5804 ∷ 0x5805 ∷ 0x5821 ∷ [])
    ++ each (λ t. bad [] (row 1 t 1 0) ∷ bad [] (row 1 t 0xffffffff 0) ∷ bad [] (row 1 t 0 1) ∷ [])
    (0x5801 ∷ 0x5802 ∷ 0x5810 ∷ 0x5820 ∷ 0x58a0 ∷ 0x5830 ∷ 0x5850 ∷ 0x5860 ∷ 0x5870 ∷ 0x5880 ∷ 0x5890 ∷ [])
    ++ map (bad [])
    (row 1 0x5840 2 0 ∷ row 1 0x5840 0x0100 0 ∷ row 1 0x5840 0 1 ∷ row 1 0x58b0 3 0 ∷ row 1 0x58b0 0x00010002 0 ∷ row 1 0x58b0 2 1 ∷ row 1 0x58c0 4 0 ∷ row 1 0x58c0 0x00010000 0 ∷ row 1 0x58c0 3 1 ∷ [])

-- 0x5801: a pattern below 32, times, channel 8 to 11, none twice
abbrev trigger_row : Row
trigger_row = row 1 0x5801 0 0

abbrev trigger : List Vector
trigger =
    only_inside (4 ∷ []) (trigger_row ∷ [])
    ++ only (1 ∷ 5 ∷ []) (trigger_row ∷ row 4 0 0 1 ∷ []) ++ only (1 ∷ 5 ∷ []) (trigger_row ∷ row 4 0 0 1 ∷ row 5 0 8 100 ∷ [])
    ++ map (bad (trigger_row ∷ [])) (row 4 1 0 1 ∷ row 4 0 1 1 ∷ row 4 0 0 32 ∷ row 4 0 0 0x8000 ∷ row 4 0 0 0x00010000 ∷ [])
    ++ map (bad (trigger_row ∷ row 4 0 0 1 ∷ [])) (row 5 1 8 100 ∷ row 5 0 7 100 ∷ row 5 0 12 100 ∷ row 5 0 24 100 ∷ row 5 0 8 4096 ∷ row 5 0 0xffffffff 100 ∷ row 5 0 8 0xffffffff ∷ [])
    ++ map (bad (trigger_row ∷ row 4 0 0 1 ∷ row 5 0 9 100 ∷ row 5 0 8 100 ∷ [])) (row 5 0 8 100 ∷ row 5 0 9 101 ∷ row 5 0 12 100 ∷ [])
    ++ (ok (trigger_row ∷ row 4 0 0 31 ∷ []) (3 ∷ 0x5801 ∷ 0x001f ∷ [])
    ∷ ok (trigger_row ∷ row 4 0 0 0 ∷ rising_rows 5 0 8 100 4) (7 ∷ 0x5801 ∷ 0 ∷ rising 0x8064 0x1001 4)
    ∷ ok (trigger_row ∷ row 4 0 0 1 ∷ row 5 0 11 4095 ∷ row 5 0 8 0 ∷ []) (5 ∷ 0x5801 ∷ 1 ∷ 0xbfff ∷ 0x8000 ∷ []) ∷ [])

-- 0x5802: times, channel 4 to 7 or 12 to 15, none twice
abbrev time_of_flight : List Vector
time_of_flight =
    only (1 ∷ 5 ∷ []) (row 1 0x5802 0 0 ∷ []) ++ only (1 ∷ 5 ∷ []) (row 1 0x5802 0 0 ∷ row 5 0 4 100 ∷ [])
    ++ map (bad (row 1 0x5802 0 0 ∷ [])) (row 5 1 4 100 ∷ row 5 0 3 100 ∷ row 5 0 8 100 ∷ row 5 0 11 100 ∷ row 5 0 16 100 ∷ row 5 0 4 4096 ∷ [])
    ++ map (bad (row 1 0x5802 0 0 ∷ row 5 0 15 100 ∷ row 5 0 4 100 ∷ [])) (row 5 0 15 101 ∷ row 5 0 4 100 ∷ row 5 0 8 100 ∷ [])
    ++ (ok (row 1 0x5802 0 0 ∷ []) (2 ∷ 0x5802 ∷ [])
    ∷ ok (row 1 0x5802 0 0 ∷ (rising_rows 5 0 4 100 4 ++ rising_rows 5 0 12 104 4)) (10 ∷ 0x5802 ∷ (rising 0x4064 0x1001 4 ++ rising 0xc068 0x1001 4))
    ∷ ok (row 1 0x5802 0 0 ∷ row 5 0 15 4095 ∷ row 5 0 4 0 ∷ row 5 0 12 0 ∷ row 5 0 7 4095 ∷ []) (6 ∷ 0x5802 ∷ 0xffff ∷ 0x4000 ∷ 0xc000 ∷ 0x7fff ∷ []) ∷ [])

-- 0x5810: an energy, then a time, channel 0 to 5, the same in both, none twice
abbrev scintillator : List Vector
scintillator =
    only (1 ∷ 6 ∷ []) (row 1 0x5810 0 0 ∷ []) ++ only_inside (5 ∷ []) (row 1 0x5810 0 0 ∷ row 6 0 2 100 ∷ []) ++ only (1 ∷ 6 ∷ []) (row 1 0x5810 0 0 ∷ row 6 0 2 100 ∷ row 5 0 2 100 ∷ [])
    ++ map (bad (row 1 0x5810 0 0 ∷ [])) (row 6 1 2 100 ∷ row 6 0 6 100 ∷ row 6 0 15 100 ∷ row 6 0 2 4096 ∷ [])
    ++ map (bad (row 1 0x5810 0 0 ∷ row 6 0 2 100 ∷ [])) (row 5 1 2 100 ∷ row 5 0 1 100 ∷ row 5 0 3 100 ∷ row 5 0 2 4096 ∷ [])
    ++ map (bad (row 1 0x5810 0 0 ∷ row 6 0 2 100 ∷ row 5 0 2 100 ∷ row 6 0 3 100 ∷ row 5 0 3 100 ∷ [])) (row 6 0 2 100 ∷ row 6 0 3 101 ∷ row 6 0 6 100 ∷ [])
    ++ (only_inside (5 ∷ []) (row 1 0x5810 0 0 ∷ row 6 0 2 100 ∷ row 5 0 2 100 ∷ row 6 0 3 100 ∷ [])
    ++ (bad (row 1 0x5810 0 0 ∷ row 6 0 2 100 ∷ row 5 0 2 100 ∷ row 6 0 3 100 ∷ []) (row 5 0 2 100)
    ∷ ok (row 1 0x5810 0 0 ∷ []) (2 ∷ 0x5810 ∷ [])
    ∷ ok (row 1 0x5810 0 0 ∷ row 6 0 5 4095 ∷ row 5 0 5 0 ∷ row 6 0 0 0 ∷ row 5 0 0 4095 ∷ []) (6 ∷ 0x5810 ∷ 0x5fff ∷ 0x5000 ∷ 0x0000 ∷ 0x0fff ∷ [])
    ∷ ok (row 1 0x5810 0 0 ∷ row 6 0 0 1 ∷ row 5 0 0 2 ∷ row 6 0 1 3 ∷ row 5 0 1 4 ∷ row 6 0 2 5 ∷ row 5 0 2 6 ∷ row 6 0 3 7 ∷ row 5 0 3 8 ∷ row 6 0 4 9 ∷ row 5 0 4 10 ∷ row 6 0 5 11 ∷ row 5 0 5 12 ∷ [])
    (14 ∷ 0x5810 ∷ 0x0001 ∷ 0x0002 ∷ 0x1003 ∷ 0x1004 ∷ 0x2005 ∷ 0x2006 ∷ 0x3007 ∷ 0x3008 ∷ 0x4009 ∷ 0x400a ∷ 0x500b ∷ 0x500c ∷ []) ∷ []))

-- 0x5820: energies, channel 0 to 15, none twice; the inner packet's length and tag are written before them
abbrev ion_chamber : List Vector
ion_chamber =
    only (1 ∷ 6 ∷ []) (row 1 0x5820 0 0 ∷ []) ++ only (1 ∷ 6 ∷ []) (row 1 0x5820 0 0 ∷ row 6 0 4 100 ∷ [])
    ++ map (bad (row 1 0x5820 0 0 ∷ [])) (row 6 1 4 100 ∷ row 6 0 16 100 ∷ row 6 0 0x00010000 100 ∷ row 6 0 4 4096 ∷ [])
    ++ map (bad (row 1 0x5820 0 0 ∷ row 6 0 15 100 ∷ row 6 0 0 100 ∷ [])) (row 6 0 15 101 ∷ row 6 0 0 100 ∷ row 6 0 16 100 ∷ [])
    ++ (ok (row 1 0x5820 0 0 ∷ []) (4 ∷ 0x5820 ∷ 2 ∷ 0x5821 ∷ [])
    ∷ ok (row 1 0x5820 0 0 ∷ row 6 0 15 4095 ∷ row 6 0 0 0 ∷ []) (6 ∷ 0x5820 ∷ 4 ∷ 0x5821 ∷ 0xffff ∷ 0x0000 ∷ [])
    ∷ ok (row 1 0x5820 0 0 ∷ rising_rows 6 0 0 100 16) (20 ∷ 0x5820 ∷ 18 ∷ 0x5821 ∷ rising 0x0064 0x1001 16) ∷ [])

-- 0x5840: a threshold of 16 bits, groups (proofs/GroupEdges), an anode of 16 and 16 bits
abbrev crdc : List Vector
crdc =
    only_inside (7 ∷ []) (row 1 0x5840 1 0 ∷ []) ++ map (bad (row 1 0x5840 1 0 ∷ [])) (row 7 1 0 9 ∷ row 7 0 1 9 ∷ row 7 0 0 0x00010000 ∷ [])
    ++ map (bad (row 1 0x5840 1 0 ∷ row 7 0 0 9 ∷ [])) (row 9 1 1 2 ∷ row 9 0 0x00010000 2 ∷ row 9 0 1 0x00010000 ∷ row 9 0 1 0xffffffff ∷ [])
    ++ (ok (row 1 0x5840 0 0 ∷ row 7 0 0 0xffff ∷ row 9 0 0xffff 0xfffe ∷ []) (10 ∷ 0x5840 ∷ 0 ∷ 3 ∷ 0x5841 ∷ 0xffff ∷ 4 ∷ 0x5845 ∷ 0xffff ∷ 0xfffe ∷ []) ∷ [])

-- 0x58B0: id 0 or 1, energies, channel 16 × id to 16 × id + 15, none twice; id 2, one row of hits of 16, 16 and 16 bits
abbrev hodoscope : List Vector
hodoscope =
    only (1 ∷ 6 ∷ []) (row 1 0x58b0 0 0 ∷ []) ++ only (1 ∷ 6 ∷ []) (row 1 0x58b0 1 0 ∷ row 6 0 16 100 ∷ [])
    ++ only_inside (10 ∷ []) (row 1 0x58b0 2 0 ∷ []) ++ only (1 ∷ []) (row 1 0x58b0 2 0 ∷ row 10 1 2 3 ∷ [])
    ++ map (bad (row 1 0x58b0 0 0 ∷ [])) (row 6 1 4 100 ∷ row 6 0 16 100 ∷ row 6 0 31 100 ∷ row 6 0 0xffffffff 100 ∷ row 6 0 4 4096 ∷ [])
    ++ map (bad (row 1 0x58b0 1 0 ∷ [])) (row 6 1 20 100 ∷ row 6 0 0 100 ∷ row 6 0 15 100 ∷ row 6 0 32 100 ∷ row 6 0 20 4096 ∷ [])
    ++ map (bad (row 1 0x58b0 1 0 ∷ row 6 0 31 100 ∷ row 6 0 16 100 ∷ [])) (row 6 0 31 101 ∷ row 6 0 16 100 ∷ row 6 0 15 100 ∷ [])
    ++ map (bad (row 1 0x58b0 2 0 ∷ [])) (row 10 0x00010000 2 3 ∷ row 10 1 0x00010000 3 ∷ row 10 1 2 0x00010000 ∷ [])
    ++ (ok (row 1 0x58b0 0 0 ∷ []) (3 ∷ 0x58b0 ∷ 0 ∷ []) ∷ ok (row 1 0x58b0 1 0 ∷ []) (3 ∷ 0x58b0 ∷ 1 ∷ [])
    ∷ ok (row 1 0x58b0 0 0 ∷ rising_rows 6 0 0 100 16) (19 ∷ 0x58b0 ∷ 0 ∷ rising 0x0064 0x1001 16)
    ∷ ok (row 1 0x58b0 1 0 ∷ rising_rows 6 0 16 100 16) (19 ∷ 0x58b0 ∷ 1 ∷ rising 0x0064 0x1001 16)
    ∷ ok (row 1 0x58b0 2 0 ∷ row 10 0xffff 0xfffe 0xfffd ∷ []) (6 ∷ 0x58b0 ∷ 2 ∷ 0xffff ∷ 0xfffe ∷ 0xfffd ∷ [])
    ∷ ok (row 1 0x58b0 1 0 ∷ row 6 0 31 4095 ∷ row 6 0 16 0 ∷ row 1 0x58b0 0 0 ∷ row 6 0 15 4095 ∷ row 6 0 0 0 ∷ []) (5 ∷ 0x58b0 ∷ 1 ∷ 0xffff ∷ 0x0000 ∷ 5 ∷ 0x58b0 ∷ 0 ∷ 0xffff ∷ 0x0000 ∷ []) ∷ [])

-- 0x58A0: one energy. 0x58C0: energies of 13 bits, channel 8 × id to 8 × id + 7, none twice. The others: opaque words of 16 bits.
abbrev others : List Vector
others =
    only_inside (6 ∷ []) (row 1 0x58a0 0 0 ∷ []) ++ only (1 ∷ []) (row 1 0x58a0 0 0 ∷ row 6 0 4 100 ∷ [])
    ++ map (bad (row 1 0x58a0 0 0 ∷ [])) (row 6 1 4 100 ∷ row 6 0 16 100 ∷ row 6 0 4 4096 ∷ [])
    ++ (no (row 1 0x58a0 0 0 ∷ row 6 0 4 100 ∷ row 6 0 5 100 ∷ []) 21 6
    ∷ ok (row 1 0x58a0 0 0 ∷ row 6 0 0 4095 ∷ []) (3 ∷ 0x58a0 ∷ 0x0fff ∷ []) ∷ ok (row 1 0x58a0 0 0 ∷ row 6 0 15 0 ∷ []) (3 ∷ 0x58a0 ∷ 0xf000 ∷ []) ∷ [])
    ++ only (1 ∷ 6 ∷ []) (row 1 0x58c0 0 0 ∷ []) ++ only (1 ∷ 6 ∷ []) (row 1 0x58c0 3 0 ∷ row 6 0 24 100 ∷ [])
    ++ map (bad (row 1 0x58c0 0 0 ∷ [])) (row 6 1 4 100 ∷ row 6 0 8 100 ∷ row 6 0 0xffffffff 100 ∷ row 6 0 4 8192 ∷ [])
    ++ map (bad (row 1 0x58c0 2 0 ∷ [])) (row 6 1 20 100 ∷ row 6 0 15 100 ∷ row 6 0 24 100 ∷ row 6 0 4 100 ∷ row 6 0 20 8192 ∷ [])
    ++ map (bad (row 1 0x58c0 3 0 ∷ row 6 0 31 100 ∷ row 6 0 24 100 ∷ [])) (row 6 0 31 101 ∷ row 6 0 24 100 ∷ row 6 0 23 100 ∷ row 6 0 32 100 ∷ [])
    ++ (ok (row 1 0x58c0 0 0 ∷ []) (3 ∷ 0x58c0 ∷ 0 ∷ [])
    ∷ ok (row 1 0x58c0 0 0 ∷ rising_rows 6 0 0 100 8) (11 ∷ 0x58c0 ∷ 0 ∷ rising 0x0064 0x2001 8) ∷ ok (row 1 0x58c0 3 0 ∷ rising_rows 6 0 24 100 8) (11 ∷ 0x58c0 ∷ 3 ∷ rising 0x0064 0x2001 8)
    ∷ ok (row 1 0x58c0 1 0 ∷ row 6 0 15 8191 ∷ row 6 0 8 0 ∷ []) (5 ∷ 0x58c0 ∷ 1 ∷ 0xffff ∷ 0x0000 ∷ []) ∷ [])
    ++ each (λ t. only (1 ∷ 11 ∷ []) (row 1 t 0 0 ∷ [])
    ++ map (bad (row 1 t 0 0 ∷ row 11 0 0 1 ∷ [])) (row 11 1 0 1 ∷ row 11 0 1 1 ∷ row 11 0 0 0x00010000 ∷ row 11 0 0 0xffffffff ∷ [])
    ++ (ok (row 1 t 0 0 ∷ []) (2 ∷ t ∷ []) ∷ ok (row 1 t 0 0 ∷ row 11 0 0 0xffff ∷ row 11 0 0 0 ∷ row 11 0 0 0xffff ∷ []) (5 ∷ t ∷ 0xffff ∷ 0 ∷ 0xffff ∷ []) ∷ []))
    (0x5830 ∷ 0x5850 ∷ 0x5860 ∷ 0x5870 ∷ 0x5880 ∷ 0x5890 ∷ [])

-- All channels of a packet taken: a further row of their kind repeats one or is out of its range, 22 (0x58A0 takes one energy of any channel, so there a second is 21, above)
abbrev taken : List Vector
taken =
    each (λ c. bad (trigger_row ∷ row 4 0 0 0 ∷ rising_rows 5 0 8 100 4) (row 5 0 c 0) ∷ bad (row 1 0x5802 0 0 ∷ (rising_rows 5 0 4 100 4 ++ rising_rows 5 0 12 104 4)) (row 5 0 c 0)
    ∷ bad (row 1 0x5810 0 0 ∷ each (λ e. row 6 0 e 0 ∷ row 5 0 e 0 ∷ []) (0 ∷ 1 ∷ 2 ∷ 3 ∷ 4 ∷ 5 ∷ [])) (row 6 0 c 0) ∷ bad (row 1 0x5820 0 0 ∷ rising_rows 6 0 0 100 16) (row 6 0 c 0)
    ∷ bad (row 1 0x58b0 0 0 ∷ rising_rows 6 0 0 100 16) (row 6 0 c 0) ∷ bad (row 1 0x58b0 1 0 ∷ rising_rows 6 0 16 100 16) (row 6 0 c 0)
    ∷ bad (row 1 0x58c0 0 0 ∷ rising_rows 6 0 0 100 8) (row 6 0 c 0) ∷ bad (row 1 0x58c0 3 0 ∷ rising_rows 6 0 24 100 8) (row 6 0 c 0) ∷ []) (0 ∷ 5 ∷ 8 ∷ 15 ∷ 16 ∷ 31 ∷ 32 ∷ [])

abbrev pub vectors : List Vector
vectors = sizes ++ first_rows ++ runs ++ trigger ++ time_of_flight ++ scintillator ++ ion_chamber ++ crdc ++ hodoscope ++ others ++ taken

-- each writing is the expected one
pub edges : map (λ (v : Vector). writing v.order v.elements) vectors ≡ map (λ (v : Vector). v.outcome) vectors
edges = refl
