-- Readings and writings of dialect F into buffers at the edges of their room, computed: refusals 12 and 24, and what the buffer holds afterwards. The expected
-- answers are those of documents 01 and 02.
-- Assumes nothing.
use Prim.Native.Nat.{ℕ}
use mathlib.Core.Path.{◌≡◌, refl}
use mathlib.Core.List.{List, [], ◌∷◌, ◌++◌, map}
use Rattle.event.proofs.Vectors.{read_into, write_into, nines, RoomCase, case}
use Rattle.frs_layout.specs.Reading.{reading}
use Rattle.frs_layout.specs.Writing.{writing}
use Rattle.std.specs.Prelude.{Err, Ok}
use Rattle.event.specs.Refusal.{refusal}

-- document 01's case 11, and case 11 with another GEO in its last module's datum, which is refused at 8
abbrev f : List ℕ
f = 0x00000200 ∷ 0x00f717ff ∷ 0x01f738e1 ∷ 0x02f70563 ∷ 0x32000001 ∷ 0x0000002a ∷ 0x34000000 ∷ 0x6a000001 ∷ 0x68040061 ∷ 0x6c000005 ∷ []

abbrev bad : List ℕ
bad = 0x00000200 ∷ 0x00f717ff ∷ 0x01f738e1 ∷ 0x02f70563 ∷ 0x32000001 ∷ 0x0000002a ∷ 0x34000000 ∷ 0x6a000001 ∷ 0x60040061 ∷ 0x6c000005 ∷ []

-- the elements of case 11's rows
abbrev elements : List ℕ
elements = 16 ∷ 0x17ff ∷ 0x38e1 ∷ 0x0563 ∷ 17 ∷ 6 ∷ 1 ∷ 0 ∷ 18 ∷ 6 ∷ 0 ∷ 42 ∷ 21 ∷ 13 ∷ 1 ∷ 5 ∷ 22 ∷ 13 ∷ 4 ∷ 97 ∷ []

abbrev readings : List RoomCase
readings =
    -- 12, place the rows needed, the buffer as it was
    case f [] (Err (refusal 12 5)) []
    ∷ case f (nines 3) (Err (refusal 12 5)) (nines 3)
    ∷ case f (nines 4) (Err (refusal 12 5)) (nines 4)
    ∷ case f (nines 16) (Err (refusal 12 5)) (nines 16)
    ∷ case f (nines 19) (Err (refusal 12 5)) (nines 19)
    -- room: only the elements of the rows given are written
    ∷ case f (nines 20) (Ok 5) elements
    ∷ case f (nines 21) (Ok 5) (elements ++ nines 1)
    ∷ case f (nines 23) (Ok 5) (elements ++ nines 3)
    ∷ case f (nines 40) (Ok 5) (elements ++ nines 20)
    -- 12 comes last, and no refusal writes
    ∷ case bad [] (Err (refusal 10 8)) []
    ∷ case bad (nines 19) (Err (refusal 10 8)) (nines 19)
    ∷ case bad (nines 40) (Err (refusal 10 8)) (nines 40)
    ∷ []

-- case 11's rows with a datum wider than 15 bits: 22 at row 4
abbrev bad_elements : List ℕ
bad_elements = 16 ∷ 0x17ff ∷ 0x38e1 ∷ 0x0563 ∷ 17 ∷ 6 ∷ 1 ∷ 0 ∷ 18 ∷ 6 ∷ 0 ∷ 42 ∷ 21 ∷ 13 ∷ 1 ∷ 5 ∷ 22 ∷ 13 ∷ 4 ∷ 0x8000 ∷ []

abbrev writings : List RoomCase
writings =
    -- 24, place the longwords needed, the buffer as it was
    case elements [] (Err (refusal 24 10)) []
    ∷ case elements (nines 9) (Err (refusal 24 10)) (nines 9)
    -- room: only the longwords given are written
    ∷ case elements (nines 10) (Ok 10) f
    ∷ case elements (nines 11) (Ok 10) (f ++ nines 1)
    ∷ case elements (nines 40) (Ok 10) (f ++ nines 30)
    -- 24 comes last, and no refusal writes
    ∷ case (9 ∷ elements) [] (Err (refusal 20 0)) []
    ∷ case bad_elements [] (Err (refusal 22 4)) []
    ∷ case bad_elements (nines 40) (Err (refusal 22 4)) (nines 40)
    ∷ []

pub rooms : map (λ (c : RoomCase). read_into reading c.lent) readings ≡ map (λ (c : RoomCase). c.left) readings
rooms = refl

pub word_rooms : map (λ (c : RoomCase). write_into writing c.lent) writings ≡ map (λ (c : RoomCase). c.left) writings
word_rooms = refl
