-- Document 01's own listing, and one with more of its rules: what is listed of an input, letter by letter.
-- Assumes nothing.
use Rattle.std.specs.Prelude.{ℕ, ◌≡◌, List, [], ◌∷◌, ◌++◌, replicate}
use Rattle.event.specs.declared.StampOrder.TheVariants.{Crossed}
use Rattle.event.specs.Outcome.{default_order}
use Rattle.hex_line.specs.Text.{text}
use Rattle.listing.specs.Listing.{list_from, listing}

abbrev good : List ℕ
good = text "S 000e 5800 0005 0006 5803 1234 0000 0001 0000 0005 5804 0007 0000 0000\n"

-- its rows, by the stamp's
abbrev good_listed : List ℕ → List ℕ
good_listed stamp =
    text "event 00000001 rows 00000004\n"
    ++ text "00000001 00005803 00000000 00000000\n"
    ++ stamp
    ++ text "00000001 00005804 00000000 00000000\n"
    ++ text "00000003 00000000 00000000 00000007\n"

abbrev rising_stamp : List ℕ
rising_stamp = text "00000002 00000000 00000001 00001234\n"

abbrev crossed_stamp : List ℕ
crossed_stamp = text "00000002 00000000 00000000 00011234\n"

abbrev example_listed : List ℕ → List ℕ
example_listed stamp = good_listed stamp ++ text "event 00000002 refused 00000001 place 00000000\n" ++ text "end events 00000001 refused 00000001\n"

-- in the default order (document 02, #105), and in crossed, the archive's, where the stamp row is document 01's
abbrev pub Example : Type 0
Example =
    (listing default_order (good ++ text "S 0001\n") ≡ example_listed rising_stamp)
    × (listing Crossed (good ++ text "S 0001\n") ≡ example_listed crossed_stamp)

-- an empty line, an upper-case digit, a line of no words, the smallest event of R and the same with another sum, and spoken case 10 as a last line without its line feed
abbrev pub Counted : Type 0
Counted =
    listing default_order (good ++ text "\n" ++ text "S 000A\n" ++ text "S\n" ++ text "R f001 0fff\n" ++ text "R f001 0ffe\n"
    ++ text "F 00000200 00f717ff 01f738e1 02f70563 32000001 0000002a 34000000")
    ≡ good_listed rising_stamp
    ++ text "event 00000002 refused 0000001e place 00000000\n"
    ++ text "event 00000003 refused 0000001e place 00000000\n"
    ++ text "event 00000004 refused 00000001 place 00000000\n"
    ++ text "event 00000005 rows 00000002\n"
    ++ text "00000020 0000000f 00000001 00000000\n"
    ++ text "00000021 00000000 00000000 00000fff\n"
    ++ text "event 00000006 refused 0000000d place 00000001\n"
    ++ text "event 00000007 rows 00000003\n"
    ++ text "00000010 000017ff 000038e1 00000563\n"
    ++ text "00000011 00000006 00000001 00000000\n"
    ++ text "00000012 00000006 00000000 0000002a\n"
    ++ text "end events 00000003 refused 00000004\n"

-- the most lines and no more, one more, and a line too long before another
abbrev pub Stops : Type 0
Stops =
    (list_from default_order 999999 1 [] ≡ text "end events 000f423f refused 00000001\n")
    × (list_from default_order 999999 1 ([] ∷ []) ≡ text "cut events 000f423f refused 00000001\n")
    × (list_from default_order 999999 0 ([] ∷ []) ≡ text "event 000f4240 refused 0000001e place 00000000\n" ++ text "end events 000f423f refused 00000001\n")
    × (list_from default_order 0 0 (replicate 20482 83 ∷ text "S" ∷ []) ≡ text "event 00000001 refused 0000001e place 00000000\n" ++ text "cut events 00000000 refused 00000001\n")
