-- Readings and writings of dialect R into buffers at the edges of their room, computed: refusals 12 and 24, and what the buffer holds afterwards. The expected answers are documents 01's and 02's.
-- Assumes nothing.
use Prim.Native.Nat.{ℕ}
use mathlib.Core.Path.{◌≡◌, refl}
use mathlib.Core.List.{List, [], ◌∷◌, ◌++◌, map}
use Rattle.event.proofs.Vectors.{read_into, write_into, nines, RoomCase, case}
use Rattle.rcnp_layout.specs.Reading.{reading}
use Rattle.rcnp_layout.specs.Writing.{writing}
use Rattle.std.specs.Prelude.{Err, Ok}
use Rattle.event.specs.Refusal.{refusal}

-- an input register and one scaler, and the elements of their rows
abbrev r : List ℕ
r = 0x2001 ∷ 0x1c3a ∷ 0x6002 ∷ 0xcc66 ∷ 0x0008 ∷ 0xf001 ∷ 0xa754 ∷ []

abbrev elements : List ℕ
elements = 32 ∷ 2 ∷ 1 ∷ 0 ∷ 33 ∷ 0 ∷ 0 ∷ 0x1c3a ∷ 32 ∷ 6 ∷ 2 ∷ 0 ∷ 34 ∷ 0 ∷ 0 ∷ 0x0008cc66 ∷ 32 ∷ 15 ∷ 1 ∷ 0 ∷ 33 ∷ 0 ∷ 0 ∷ 0xa754 ∷ []

-- the same with another sum
abbrev bad : List ℕ
bad = 0x2001 ∷ 0x1c3a ∷ 0x6002 ∷ 0xcc66 ∷ 0x0008 ∷ 0xf001 ∷ 0xa755 ∷ []

abbrev bad_elements : List ℕ
bad_elements = 32 ∷ 2 ∷ 1 ∷ 0 ∷ 33 ∷ 0 ∷ 0 ∷ 0x1c3a ∷ 32 ∷ 6 ∷ 2 ∷ 0 ∷ 34 ∷ 0 ∷ 0 ∷ 0x0008cc66 ∷ 32 ∷ 15 ∷ 1 ∷ 0 ∷ 33 ∷ 0 ∷ 0 ∷ 0xa755 ∷ []

abbrev readings : List RoomCase
readings =
    -- 12, place the rows needed, the buffer as it was
    case r [] (Err (refusal 12 6)) []
    ∷ case r (nines 20) (Err (refusal 12 6)) (nines 20)
    ∷ case r (nines 23) (Err (refusal 12 6)) (nines 23)
    -- room: only the elements of the rows given are written
    ∷ case r (nines 24) (Ok 6) elements
    ∷ case r (nines 27) (Ok 6) (elements ++ nines 3)
    -- 12 comes last, after 13, and no refusal writes
    ∷ case bad [] (Err (refusal 13 6)) []
    ∷ case bad (nines 40) (Err (refusal 13 6)) (nines 40)
    ∷ []

abbrev writings : List RoomCase
writings =
    -- 24, place the words needed, the buffer as it was
    case elements [] (Err (refusal 24 7)) []
    ∷ case elements (nines 6) (Err (refusal 24 7)) (nines 6)
    -- room: only the words given are written
    ∷ case elements (nines 7) (Ok 7) r
    ∷ case elements (nines 9) (Ok 7) (r ++ nines 2)
    -- 24 comes last, and no refusal writes
    ∷ case (9 ∷ elements) [] (Err (refusal 20 0)) []
    ∷ case bad_elements [] (Err (refusal 22 5)) []
    ∷ case bad_elements (nines 9) (Err (refusal 22 5)) (nines 9)
    ∷ []

pub rooms : map (λ (c : RoomCase). read_into reading c.lent) readings ≡ map (λ (c : RoomCase). c.left) readings
rooms = refl

pub word_rooms : map (λ (c : RoomCase). write_into writing c.lent) writings ≡ map (λ (c : RoomCase). c.left) writings
word_rooms = refl
