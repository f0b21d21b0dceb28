-- What is printed of inputs, letter by letter: the lines and labels of docs/DECISIONS.md, 'Readings of the papers (the comparison)', and what is taken for the two lines.
-- Assumes nothing.
use Rattle.std.specs.Prelude.{ℕ, ◌≡◌, List, [], ◌++◌, replicate}
use Rattle.event.specs.Outcome.{default_order}
use Rattle.hex_line.specs.Text.{text}
use Rattle.compare_events.specs.Print.{printed}

-- document 01's M; M with another event number and a packet more; case 10 of dialect F
abbrev m : List ℕ
m = text "S 000e 5800 0005 0006 5803 1234 0000 0001 0000 0005 5804 0007 0000 0000\n"

abbrev more : List ℕ
more = text "S 0012 5800 0005 0006 5803 1234 0000 0001 0000 0005 5804 0008 0000 0000 0004 58c0 0002 612c\n"

abbrev f : List ℕ
f = text "F 00000200 00f717ff 01f738e1 02f70563 32000001 0000002a 34000000"

-- M with another chunk of its stamp
abbrev stamp : List ℕ
stamp = text "S 000e 5800 0005 0006 5803 1234 0000 0002 0000 0005 5804 0007 0000 0000\n"

abbrev nothing : List ℕ
nothing = text "cut words 00000000 tail 00000000 rows 00000000\n"

abbrev pub Longer : Type 0
Longer =
    printed default_order (m ++ more ++ text "S\n")
    ≡ text "first  rows 00000004\n"
    ++ text "second rows 00000006\n"
    ++ text "word 00000000 first 0000000e second 00000012\n"
    ++ text "word 0000000b first 00000007 second 00000008\n"
    ++ text "tail 0000000e second 00000004\n"
    ++ text "tail 0000000f second 000058c0\n"
    ++ text "tail 00000010 second 00000002\n"
    ++ text "tail 00000011 second 0000612c\n"
    ++ text "row 00000003 first  00000003 00000000 00000000 00000007\n"
    ++ text "row 00000003 second 00000003 00000000 00000000 00000008\n"
    ++ text "end words 00000002 tail 00000004 rows 00000001\n"

-- the rows of the stamps in the default order, rising (document 02, #105)
abbrev pub Stamps : Type 0
Stamps =
    printed default_order (m ++ stamp)
    ≡ text "first  rows 00000004\n"
    ++ text "second rows 00000004\n"
    ++ text "word 00000007 first 00000001 second 00000002\n"
    ++ text "row 00000001 first  00000002 00000000 00000001 00001234\n"
    ++ text "row 00000001 second 00000002 00000000 00000002 00001234\n"
    ++ text "end words 00000001 tail 00000000 rows 00000001\n"

-- a refused event, the tail of the first, and a second line without its line feed
abbrev pub Shorter : Type 0
Shorter =
    printed default_order (m ++ text "S 000e 5800 0005 0006 5803 1234 0000 0001 0000 0005 5804 0007")
    ≡ text "first  rows 00000004\n"
    ++ text "second refused 00000001 place 00000000\n"
    ++ text "tail 0000000c first 00000000\n"
    ++ text "tail 0000000d first 00000000\n"
    ++ text "end words 00000000 tail 00000002 rows 00000000\n"

-- 30: a second line of another dialect, one that is missing, both missing; a first line that has no dialect's letter is read as one of S
abbrev pub NoLine : Type 0
NoLine =
    (printed default_order (m ++ f) ≡ text "first  rows 00000004\n" ++ text "second refused 0000001e place 00000000\n" ++ nothing)
    × (printed default_order f ≡ text "first  rows 00000003\n" ++ text "second refused 0000001e place 00000000\n" ++ nothing)
    × (printed default_order [] ≡ text "first  refused 0000001e place 00000000\n" ++ text "second refused 0000001e place 00000000\n" ++ nothing)
    × (printed default_order (text "\n" ++ m) ≡ text "first  refused 0000001e place 00000000\n" ++ text "second rows 00000004\n" ++ nothing)

-- behind a first line that is too long no second one is looked for
abbrev pub TooLong : Type 0
TooLong =
    printed default_order (replicate 20482 83 ++ text "\n" ++ m)
    ≡ text "first  refused 0000001e place 00000000\n" ++ text "second refused 0000001e place 00000000\n" ++ nothing
