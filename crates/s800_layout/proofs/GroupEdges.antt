-- Readings and writings of dialect S at the edges of a group of samples, computed. The expected outcomes are document 02's (#103) and document 01's.
-- Assumes nothing.
use Prim.Native.Nat.{ℕ, ◌+◌}
use mathlib.Core.Path.{◌≡◌, refl}
use mathlib.Core.List.{List, [], ◌∷◌, ◌++◌, map}
use lib.ListN.{length}
use Rattle.event.specs.declared.Row.{Row}
use Rattle.event.specs.Rows.{row}
use Rattle.s800_layout.specs.Reading.{reading}
use Rattle.s800_layout.specs.Writing.{writing}
use Rattle.s800_layout.proofs.Edges.{Vector, ok, no}
use Rattle.s800_layout.proofs.EdgesOfWriting.{Vector as Written, ok as writtenOk, bad, only, only_inside}

-- a packet 0x5840 of id 1 whose groups have these words, at place 20 and on; and its rows, those of the groups being row 6 and on
abbrev packet : List ℕ → List ℕ
packet ws = (10 + length ws) ∷ 0x5840 ∷ 1 ∷ (3 + length ws) ∷ 0x5841 ∷ 9 ∷ (ws ++ (4 ∷ 0x5845 ∷ 1 ∷ 2 ∷ []))

abbrev packet_rows : List Row → List Row
packet_rows rs = row 1 0x5840 1 0 ∷ row 7 0 0 9 ∷ (rs ++ (row 9 0 1 2 ∷ []))

-- the words of groups, and their rows
pub record Groups : Type 0 where
  pub words : List ℕ
  pub rows : List Row

abbrev groups : List ℕ → List Row → Groups
groups ws rs = record { words = ws; rows = rs }

-- none; one data word, each field at its edges; case 7
abbrev single : List Groups
single =
    groups [] [] ∷ groups (0x8000 ∷ 0x0000 ∷ []) (row 8 0 0 0 ∷ row 12 0 0 0 ∷ []) ∷ groups (0xffff ∷ 0x0fff ∷ []) (row 8 511 63 0 ∷ row 12 511 255 1023 ∷ [])
    ∷ groups (0xffc0 ∷ 0x0c00 ∷ []) (row 8 511 0 0 ∷ row 12 511 192 0 ∷ []) ∷ groups (0x803f ∷ 0x03ff ∷ []) (row 8 0 63 0 ∷ row 12 0 63 1023 ∷ [])
    ∷ groups (0x8040 ∷ 0x0400 ∷ []) (row 8 1 0 0 ∷ row 12 1 64 0 ∷ []) ∷ groups (0x8952 ∷ 0x092c ∷ []) (row 8 37 18 0 ∷ row 12 37 146 300 ∷ []) ∷ []

-- two, three and four data words, every set of connectors; groups after a group, with the same pad too, and with heads that fall
abbrev several : List Groups
several =
    groups (0x8952 ∷ 0x0001 ∷ 0x0402 ∷ []) (row 8 37 18 0 ∷ row 12 37 18 1 ∷ row 12 37 82 2 ∷ [])
    ∷ groups (0x8952 ∷ 0x0001 ∷ 0x0c02 ∷ []) (row 8 37 18 0 ∷ row 12 37 18 1 ∷ row 12 37 210 2 ∷ [])
    ∷ groups (0x8952 ∷ 0x0801 ∷ 0x0c00 ∷ []) (row 8 37 18 0 ∷ row 12 37 146 1 ∷ row 12 37 210 0 ∷ [])
    ∷ groups (0x8952 ∷ 0x0001 ∷ 0x0802 ∷ []) (row 8 37 18 0 ∷ row 12 37 18 1 ∷ row 12 37 146 2 ∷ [])
    ∷ groups (0x8952 ∷ 0x0401 ∷ 0x0802 ∷ []) (row 8 37 18 0 ∷ row 12 37 82 1 ∷ row 12 37 146 2 ∷ [])
    ∷ groups (0x8952 ∷ 0x0401 ∷ 0x0c02 ∷ []) (row 8 37 18 0 ∷ row 12 37 82 1 ∷ row 12 37 210 2 ∷ [])
    ∷ groups (0x8952 ∷ 0x0001 ∷ 0x0402 ∷ 0x0803 ∷ []) (row 8 37 18 0 ∷ row 12 37 18 1 ∷ row 12 37 82 2 ∷ row 12 37 146 3 ∷ [])
    ∷ groups (0x8952 ∷ 0x0001 ∷ 0x0402 ∷ 0x0c03 ∷ []) (row 8 37 18 0 ∷ row 12 37 18 1 ∷ row 12 37 82 2 ∷ row 12 37 210 3 ∷ [])
    ∷ groups (0x8952 ∷ 0x0001 ∷ 0x0802 ∷ 0x0c03 ∷ []) (row 8 37 18 0 ∷ row 12 37 18 1 ∷ row 12 37 146 2 ∷ row 12 37 210 3 ∷ [])
    ∷ groups (0x8952 ∷ 0x0401 ∷ 0x0802 ∷ 0x0c03 ∷ []) (row 8 37 18 0 ∷ row 12 37 82 1 ∷ row 12 37 146 2 ∷ row 12 37 210 3 ∷ [])
    ∷ groups (0xffff ∷ 0x03ff ∷ 0x07ff ∷ 0x0bff ∷ 0x0fff ∷ []) (row 8 511 63 0 ∷ row 12 511 63 1023 ∷ row 12 511 127 1023 ∷ row 12 511 191 1023 ∷ row 12 511 255 1023 ∷ [])
    ∷ groups (0x8000 ∷ 0x0c00 ∷ 0x8041 ∷ 0x0000 ∷ 0x0400 ∷ []) (row 8 0 0 0 ∷ row 12 0 192 0 ∷ row 8 1 1 0 ∷ row 12 1 1 0 ∷ row 12 1 65 0 ∷ [])
    ∷ groups (0xffff ∷ 0x0000 ∷ 0x8041 ∷ 0x0c00 ∷ 0x8000 ∷ 0x0400 ∷ []) (row 8 511 63 0 ∷ row 12 511 63 0 ∷ row 8 1 1 0 ∷ row 12 1 193 0 ∷ row 8 0 0 0 ∷ row 12 0 64 0 ∷ [])
    ∷ groups (0x8000 ∷ 0x0001 ∷ 0x8000 ∷ 0x0002 ∷ []) (row 8 0 0 0 ∷ row 12 0 0 1 ∷ row 8 0 0 0 ∷ row 12 0 0 2 ∷ []) ∷ []

-- 10 at a place, by the words of the groups
abbrev refused : (place : ℕ) → List ℕ → Vector
refused k ws = no (packet ws) 10 k

-- a data word first; bits 14, 13 and 12 of a data word, at that word; a head without a data word, before a head or at the end, at the head
abbrev misplaced : List Vector
misplaced =
    map (refused 20) ((0x0000 ∷ []) ∷ (0x1000 ∷ []) ∷ (0x7fff ∷ 0x0000 ∷ []) ∷ (0x0000 ∷ 0x1000 ∷ []) ∷ (0x0000 ∷ 0x8000 ∷ 0x0000 ∷ []) ∷ [])
    ++ map (refused 21) ((0x8000 ∷ 0x4000 ∷ []) ∷ (0x8000 ∷ 0x2000 ∷ []) ∷ (0x8000 ∷ 0x1000 ∷ []) ∷ (0x8000 ∷ 0x7fff ∷ []) ∷ (0x8000 ∷ 0x1000 ∷ 0x8000 ∷ []) ∷ [])
    ++ map (refused 22) ((0x8000 ∷ 0x0000 ∷ 0x4400 ∷ []) ∷ (0x8000 ∷ 0x0000 ∷ 0x2400 ∷ []) ∷ (0x8000 ∷ 0x0000 ∷ 0x1400 ∷ []) ∷ [])
    ++ map (refused 20) ((0x8000 ∷ []) ∷ (0x8000 ∷ 0x8000 ∷ []) ∷ (0x8000 ∷ 0x8000 ∷ 0x0000 ∷ []) ∷ [])
    ++ map (refused 22) ((0x8000 ∷ 0x0000 ∷ 0x8000 ∷ []) ∷ (0x8000 ∷ 0x0000 ∷ 0x8000 ∷ 0x8000 ∷ 0x0000 ∷ []) ∷ [])

-- a connector equal to the one before, below it, or bit 12 after connector 3; a fifth data word; the second group has a rule of its own
abbrev not_rising : List Vector
not_rising =
    map (refused 22) ((0x8000 ∷ 0x0000 ∷ 0x0001 ∷ []) ∷ (0x8000 ∷ 0x0400 ∷ 0x07ff ∷ []) ∷ (0x8000 ∷ 0x0800 ∷ 0x0800 ∷ []) ∷ (0x8000 ∷ 0x0c00 ∷ 0x0c00 ∷ []) ∷ [])
    ++ map (refused 22) ((0x8000 ∷ 0x0800 ∷ 0x0000 ∷ []) ∷ (0x8000 ∷ 0x0800 ∷ 0x0400 ∷ []) ∷ (0x8000 ∷ 0x0c00 ∷ 0x0400 ∷ []) ∷ [])
    ++ map (refused 22) ((0x8000 ∷ 0x0400 ∷ 0x0000 ∷ []) ∷ (0x8000 ∷ 0x0c00 ∷ 0x0bff ∷ []) ∷ (0x8000 ∷ 0x0c00 ∷ 0x0000 ∷ []) ∷ (0x8000 ∷ 0x0c00 ∷ 0x1000 ∷ []) ∷ [])
    ++ map (refused 23) ((0x8000 ∷ 0x0000 ∷ 0x0800 ∷ 0x0400 ∷ []) ∷ (0x8000 ∷ 0x0000 ∷ 0x0400 ∷ 0x0000 ∷ []) ∷ (0x8000 ∷ 0x0000 ∷ 0x0400 ∷ 0x0400 ∷ []) ∷ [])
    ++ map (refused 24) ((0x8000 ∷ 0x0c00 ∷ 0x8000 ∷ 0x0400 ∷ 0x0400 ∷ []) ∷ (0x8000 ∷ 0x0000 ∷ 0x8000 ∷ 0x0800 ∷ 0x0400 ∷ []) ∷ [])
    ++ map (refused 25) ((0x8000 ∷ 0x0000 ∷ 0x0400 ∷ 0x0800 ∷ 0x0c00 ∷ 0x0000 ∷ []) ∷ (0x8000 ∷ 0x0000 ∷ 0x0400 ∷ 0x0800 ∷ 0x0c00 ∷ 0x0c00 ∷ []) ∷ [])

-- the anode behind a group: 9 at its length and at its tag, after 10 at a word of the groups; of two faults the first word's; 7 before 8; a threshold is no head
abbrev in_order : List Vector
in_order =
    map (refused 20) ((0x8000 ∷ 0x8000 ∷ 0x1000 ∷ []) ∷ (0x8000 ∷ 0x8000 ∷ 0x0400 ∷ 0x0000 ∷ []) ∷ []) ++ map (refused 22) ((0x8000 ∷ 0x0000 ∷ 0x0000 ∷ 0x8000 ∷ []) ∷ [])
    ++ (no (11 ∷ 0x5840 ∷ 1 ∷ 4 ∷ 0x5841 ∷ 0x8000 ∷ 0x0000 ∷ 4 ∷ 0x5845 ∷ 1 ∷ 2 ∷ []) 10 20
    ∷ no (12 ∷ 0x5840 ∷ 1 ∷ 5 ∷ 0x5841 ∷ 9 ∷ 0x8952 ∷ 0x092c ∷ 5 ∷ 0x5845 ∷ 1 ∷ 2 ∷ []) 9 22 ∷ no (12 ∷ 0x5840 ∷ 1 ∷ 5 ∷ 0x5841 ∷ 9 ∷ 0x8952 ∷ 0x092c ∷ 4 ∷ 0x5844 ∷ 1 ∷ 2 ∷ []) 9 23
    ∷ no (11 ∷ 0x5840 ∷ 1 ∷ 4 ∷ 0x5841 ∷ 9 ∷ 0x8000 ∷ 5 ∷ 0x5845 ∷ 1 ∷ 2 ∷ []) 10 20 ∷ no (9 ∷ 0x5840 ∷ 2 ∷ 2 ∷ 0x5841 ∷ 4 ∷ 0x5845 ∷ 1 ∷ 2 ∷ []) 7 14
    ∷ no (11 ∷ 0x5840 ∷ 2 ∷ 4 ∷ 0x5841 ∷ 9 ∷ 0x8000 ∷ 4 ∷ 0x5845 ∷ 1 ∷ 2 ∷ []) 8 16 ∷ [])

abbrev pub readings : List Vector
readings = map (λ g. ok (packet g.words) (packet_rows g.rows)) (single ++ several) ++ misplaced ++ not_rising ++ in_order

-- each reading is the expected one
pub readings_agree : map (λ (v : Vector). reading v.order v.words) readings ≡ map (λ (v : Vector). v.outcome) readings
readings_agree = refl

-- a packet's rows up to its threshold; with a head; with a row of kind 12 too
abbrev threshold : List Row
threshold = row 1 0x5840 1 0 ∷ row 7 0 0 9 ∷ []

abbrev headed : List Row
headed = threshold ++ (row 8 37 18 0 ∷ [])

abbrev begun : List Row
begun = headed ++ (row 12 37 146 300 ∷ [])

-- 21: what may stand after each of them. Rows that end there are refused at the row count, but after the anode, where a packet may end.
abbrev standing : List Written
standing =
    only_inside (8 ∷ 9 ∷ []) threshold ++ only_inside (12 ∷ []) headed ++ only_inside (8 ∷ 9 ∷ 12 ∷ []) begun
    ++ only_inside (8 ∷ 9 ∷ 12 ∷ []) (headed ++ (row 12 37 210 300 ∷ [])) ++ only_inside (12 ∷ []) (begun ++ (row 8 37 18 0 ∷ []))
    ++ only (1 ∷ []) (threshold ++ (row 9 0 1 2 ∷ [])) ++ only (1 ∷ []) (begun ++ (row 9 0 1 2 ∷ []))

-- 22: a head's sample, channel and datum; the sample and the channel of a row of kind 12, which are its own head's; its energy; its connector, above the one before; the
-- anode's fields
abbrev fields : List Written
fields =
    map (bad threshold) (row 8 512 18 0 ∷ row 8 37 64 0 ∷ row 8 37 146 0 ∷ row 8 37 18 1 ∷ row 8 37 18 300 ∷ row 8 0xffffffff 18 0 ∷ row 8 37 0x00010012 0 ∷ [])
    ++ map (bad headed) (row 12 38 146 300 ∷ row 12 36 146 300 ∷ row 12 512 146 300 ∷ row 12 0x00010025 146 300 ∷ row 12 37 147 300 ∷ row 12 37 145 300 ∷ row 12 37 82 1024 ∷ [])
    ++ map (bad headed) (row 12 37 274 300 ∷ row 12 37 0xffffffd2 300 ∷ row 12 37 146 0xffffffff ∷ [])
    ++ map (bad begun) (row 12 37 146 301 ∷ row 12 37 82 300 ∷ row 12 37 18 300 ∷ row 12 37 274 300 ∷ row 12 38 210 300 ∷ row 12 37 211 300 ∷ row 12 37 210 1024 ∷ [])
    ++ map (bad begun) (row 8 512 18 0 ∷ row 8 37 64 0 ∷ row 8 37 18 1 ∷ row 9 1 1 2 ∷ row 9 0 0x00010000 2 ∷ row 9 0 1 0x00010000 ∷ [])
    ++ map (bad (begun ++ (row 8 38 19 0 ∷ []))) (row 12 37 147 300 ∷ row 12 38 146 300 ∷ row 12 37 146 300 ∷ row 12 38 18 300 ∷ [])
    ++ map (bad (headed ++ (row 12 37 18 1 ∷ row 12 37 82 2 ∷ row 12 37 146 3 ∷ row 12 37 210 4 ∷ []))) (row 12 37 210 5 ∷ row 12 37 274 5 ∷ row 12 37 18 5 ∷ [])

abbrev pub writings : List Written
writings = map (λ g. writtenOk (packet_rows g.rows) (packet g.words)) (single ++ several) ++ standing ++ fields

-- each writing is the expected one
pub writings_agree : map (λ (v : Written). writing v.order v.elements) writings ≡ map (λ (v : Written). v.outcome) writings
writings_agree = refl
