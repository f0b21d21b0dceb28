-- Readings and writings of dialect S into buffers at the edges of their room, computed: refusals 12 and 24, and what the buffer holds afterwards. The expected
-- answers are those of documents 01 and 02.
-- Assumes nothing.
use Prim.Native.Nat.{ℕ}
use mathlib.Core.Path.{◌≡◌, refl}
use mathlib.Core.List.{List, [], ◌∷◌, ◌++◌, map}
use Rattle.event.specs.declared.StampOrder.TheVariants.{Crossed}
use Rattle.event.proofs.Vectors.{read_into, write_into, nines, RoomCase, case}
use Rattle.s800_layout.specs.Reading.{reading}
use Rattle.s800_layout.specs.Writing.{writing}
use Rattle.std.specs.Prelude.{Err, Ok}
use Rattle.event.specs.Refusal.{refusal}

-- document 01's M, and M with a trigger packet whose time has channel 7, which is refused at 17
abbrev m : List ℕ
m = 0x000e ∷ 0x5800 ∷ 0x0005 ∷ 0x0006 ∷ 0x5803 ∷ 0x1234 ∷ 0x0000 ∷ 0x0001 ∷ 0x0000 ∷ 0x0005 ∷ 0x5804 ∷ 0x0007 ∷ 0x0000 ∷ 0x0000 ∷ []

abbrev bad : List ℕ
bad = 0x0012 ∷ 0x5800 ∷ 0x0005 ∷ 0x0006 ∷ 0x5803 ∷ 0x1234 ∷ 0x0000 ∷ 0x0001 ∷ 0x0000 ∷ 0x0005 ∷ 0x5804 ∷ 0x0007 ∷ 0x0000 ∷ 0x0000 ∷ 0x0004 ∷ 0x5801 ∷ 0x0000 ∷ 0x7064 ∷ []

-- the elements of M's rows
abbrev elements : List ℕ
elements = 1 ∷ 0x5803 ∷ 0 ∷ 0 ∷ 2 ∷ 0 ∷ 0 ∷ 0x00011234 ∷ 1 ∷ 0x5804 ∷ 0 ∷ 0 ∷ 3 ∷ 0 ∷ 0 ∷ 7 ∷ []

-- M with a packet 0x5840 of case 7's group, and the elements of that packet's rows
abbrev grouped : List ℕ
grouped =
    0x001a ∷ 0x5800 ∷ 0x0005 ∷ 0x0006 ∷ 0x5803 ∷ 0x1234 ∷ 0x0000 ∷ 0x0001 ∷ 0x0000 ∷ 0x0005 ∷ 0x5804 ∷ 0x0007 ∷ 0x0000 ∷ 0x0000
    ∷ 0x000c ∷ 0x5840 ∷ 0 ∷ 0x0005 ∷ 0x5841 ∷ 0 ∷ 0x8952 ∷ 0x092c ∷ 0x0004 ∷ 0x5845 ∷ 0 ∷ 0 ∷ []

abbrev group_elements : List ℕ
group_elements = 1 ∷ 0x5840 ∷ 0 ∷ 0 ∷ 7 ∷ 0 ∷ 0 ∷ 0 ∷ 8 ∷ 37 ∷ 18 ∷ 0 ∷ 12 ∷ 37 ∷ 146 ∷ 300 ∷ 9 ∷ 0 ∷ 0 ∷ 0 ∷ []

abbrev readings : List RoomCase
readings =
    -- 12, place the rows needed, the buffer as it was
    case m [] (Err (refusal 12 4)) []
    ∷ case m (nines 3) (Err (refusal 12 4)) (nines 3)
    ∷ case m (nines 4) (Err (refusal 12 4)) (nines 4)
    ∷ case m (nines 15) (Err (refusal 12 4)) (nines 15)
    -- room: only the elements of the rows given are written
    ∷ case m (nines 16) (Ok 4) elements
    ∷ case m (nines 17) (Ok 4) (elements ++ nines 1)
    ∷ case m (nines 19) (Ok 4) (elements ++ nines 3)
    ∷ case m (nines 40) (Ok 4) (elements ++ nines 24)
    -- M with case 7's group: a row for its head and one for its data word
    ∷ case grouped (nines 35) (Err (refusal 12 9)) (nines 35)
    ∷ case grouped (nines 36) (Ok 9) (elements ++ group_elements)
    -- 12 comes last, and no refusal writes
    ∷ case bad [] (Err (refusal 10 17)) []
    ∷ case bad (nines 15) (Err (refusal 10 17)) (nines 15)
    ∷ case bad (nines 40) (Err (refusal 10 17)) (nines 40)
    ∷ []

-- M's rows with a third chunk of the event number that is wider than a word: 22 at row 3
abbrev bad_elements : List ℕ
bad_elements = 1 ∷ 0x5803 ∷ 0 ∷ 0 ∷ 2 ∷ 0 ∷ 0 ∷ 0x00011234 ∷ 1 ∷ 0x5804 ∷ 0 ∷ 0 ∷ 3 ∷ 0 ∷ 0x10000 ∷ 7 ∷ []

abbrev writings : List RoomCase
writings =
    -- 24, place the words needed, the buffer as it was
    case elements [] (Err (refusal 24 14)) []
    ∷ case elements (nines 13) (Err (refusal 24 14)) (nines 13)
    -- room: only the words given are written
    ∷ case elements (nines 14) (Ok 14) m
    ∷ case elements (nines 15) (Ok 14) (m ++ nines 1)
    ∷ case elements (nines 40) (Ok 14) (m ++ nines 26)
    ∷ case (elements ++ group_elements) (nines 25) (Err (refusal 24 26)) (nines 25)
    ∷ case (elements ++ group_elements) (nines 27) (Ok 26) (grouped ++ nines 1)
    -- 24 comes last (after 23: crate s800_sizes), and no refusal writes
    ∷ case (9 ∷ elements) [] (Err (refusal 20 0)) []
    ∷ case bad_elements [] (Err (refusal 22 3)) []
    ∷ case bad_elements (nines 40) (Err (refusal 22 3)) (nines 40)
    ∷ []

pub rooms : map (λ (c : RoomCase). read_into (reading Crossed) c.lent) readings ≡ map (λ (c : RoomCase). c.left) readings
rooms = refl

pub word_rooms : map (λ (c : RoomCase). write_into (writing Crossed) c.lent) writings ≡ map (λ (c : RoomCase). c.left) writings
word_rooms = refl
