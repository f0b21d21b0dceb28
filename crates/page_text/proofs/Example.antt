-- Pages computed, and held beside their prints, which are written from the description of the print. Assumes nothing.
use Prim.Native.Nat.{ℕ, ◌+◌, ◌-◌, ◌*◌}
use mathlib.Core.Path.{◌≡◌, refl}
use mathlib.Core.Bool.{true, false}
use mathlib.Core.List.{List, ◌++◌}
use lib.ListN.{set, take, drop, replicate}
use Rattle.hex_line.specs.Text.{text, character, hex_of, field, texts_below}
use Rattle.page_text.specs.Text.{head_text, mark, marks_text, row_text, rows_text, picture_text, pictures_text, eight_text, count_text}
use Rattle.page_text.specs.Text.{counts_text, last_text, text_of_page}

-- no counts but those that are set
abbrev zeros : List ℕ
zeros = replicate 256 0

-- The whole print of a page of five events. The largest count is 8, so that LEAST of row i is i + 1: 8 at pad 0, 7 at pad 63 (exactly LEAST of row 6, one
-- below that of row 7), 1 at pad 64, 3 at pad 136 (connector 2, channel 8), 4 at pad 255.
few : text_of_page 5 (set (set (set (set (set zeros 0 8) 63 7) 64 1) 136 3) 255 4) false 5 1 2
    ≡ text "page events 00000005 hits 00000017 most 00000008\n"
    ++ text "connector 00000000\n"
    ++ text "00000008 |#                                                               |\n"
    ++ text "00000007 |#                                                              #|\n"
    ++ text "00000006 |#                                                              #|\n"
    ++ text "00000005 |#                                                              #|\n"
    ++ text "00000004 |#                                                              #|\n"
    ++ text "00000003 |#                                                              #|\n"
    ++ text "00000002 |#                                                              #|\n"
    ++ text "00000001 |#                                                              #|\n"
    ++ text "channel   0       8       10      18      20      28      30      38\n"
    ++ text "connector 00000001\n"
    ++ text "00000008 |                                                                |\n"
    ++ text "00000007 |                                                                |\n"
    ++ text "00000006 |                                                                |\n"
    ++ text "00000005 |                                                                |\n"
    ++ text "00000004 |                                                                |\n"
    ++ text "00000003 |                                                                |\n"
    ++ text "00000002 |                                                                |\n"
    ++ text "00000001 |#                                                               |\n"
    ++ text "channel   0       8       10      18      20      28      30      38\n"
    ++ text "connector 00000002\n"
    ++ text "00000008 |                                                                |\n"
    ++ text "00000007 |                                                                |\n"
    ++ text "00000006 |                                                                |\n"
    ++ text "00000005 |                                                                |\n"
    ++ text "00000004 |                                                                |\n"
    ++ text "00000003 |        #                                                       |\n"
    ++ text "00000002 |        #                                                       |\n"
    ++ text "00000001 |        #                                                       |\n"
    ++ text "channel   0       8       10      18      20      28      30      38\n"
    ++ text "connector 00000003\n"
    ++ text "00000008 |                                                                |\n"
    ++ text "00000007 |                                                                |\n"
    ++ text "00000006 |                                                                |\n"
    ++ text "00000005 |                                                                |\n"
    ++ text "00000004 |                                                               #|\n"
    ++ text "00000003 |                                                               #|\n"
    ++ text "00000002 |                                                               #|\n"
    ++ text "00000001 |                                                               #|\n"
    ++ text "channel   0       8       10      18      20      28      30      38\n"
    ++ text "count 00000000 00000000 00000008 00000000 00000000 00000000 00000000 00000000 00000000 00000000\n"
    ++ text "count 00000000 00000008 00000000 00000000 00000000 00000000 00000000 00000000 00000000 00000000\n"
    ++ text "count 00000000 00000010 00000000 00000000 00000000 00000000 00000000 00000000 00000000 00000000\n"
    ++ text "count 00000000 00000018 00000000 00000000 00000000 00000000 00000000 00000000 00000000 00000000\n"
    ++ text "count 00000000 00000020 00000000 00000000 00000000 00000000 00000000 00000000 00000000 00000000\n"
    ++ text "count 00000000 00000028 00000000 00000000 00000000 00000000 00000000 00000000 00000000 00000000\n"
    ++ text "count 00000000 00000030 00000000 00000000 00000000 00000000 00000000 00000000 00000000 00000000\n"
    ++ text "count 00000000 00000038 00000000 00000000 00000000 00000000 00000000 00000000 00000000 00000007\n"
    ++ text "count 00000001 00000000 00000001 00000000 00000000 00000000 00000000 00000000 00000000 00000000\n"
    ++ text "count 00000001 00000008 00000000 00000000 00000000 00000000 00000000 00000000 00000000 00000000\n"
    ++ text "count 00000001 00000010 00000000 00000000 00000000 00000000 00000000 00000000 00000000 00000000\n"
    ++ text "count 00000001 00000018 00000000 00000000 00000000 00000000 00000000 00000000 00000000 00000000\n"
    ++ text "count 00000001 00000020 00000000 00000000 00000000 00000000 00000000 00000000 00000000 00000000\n"
    ++ text "count 00000001 00000028 00000000 00000000 00000000 00000000 00000000 00000000 00000000 00000000\n"
    ++ text "count 00000001 00000030 00000000 00000000 00000000 00000000 00000000 00000000 00000000 00000000\n"
    ++ text "count 00000001 00000038 00000000 00000000 00000000 00000000 00000000 00000000 00000000 00000000\n"
    ++ text "count 00000002 00000000 00000000 00000000 00000000 00000000 00000000 00000000 00000000 00000000\n"
    ++ text "count 00000002 00000008 00000003 00000000 00000000 00000000 00000000 00000000 00000000 00000000\n"
    ++ text "count 00000002 00000010 00000000 00000000 00000000 00000000 00000000 00000000 00000000 00000000\n"
    ++ text "count 00000002 00000018 00000000 00000000 00000000 00000000 00000000 00000000 00000000 00000000\n"
    ++ text "count 00000002 00000020 00000000 00000000 00000000 00000000 00000000 00000000 00000000 00000000\n"
    ++ text "count 00000002 00000028 00000000 00000000 00000000 00000000 00000000 00000000 00000000 00000000\n"
    ++ text "count 00000002 00000030 00000000 00000000 00000000 00000000 00000000 00000000 00000000 00000000\n"
    ++ text "count 00000002 00000038 00000000 00000000 00000000 00000000 00000000 00000000 00000000 00000000\n"
    ++ text "count 00000003 00000000 00000000 00000000 00000000 00000000 00000000 00000000 00000000 00000000\n"
    ++ text "count 00000003 00000008 00000000 00000000 00000000 00000000 00000000 00000000 00000000 00000000\n"
    ++ text "count 00000003 00000010 00000000 00000000 00000000 00000000 00000000 00000000 00000000 00000000\n"
    ++ text "count 00000003 00000018 00000000 00000000 00000000 00000000 00000000 00000000 00000000 00000000\n"
    ++ text "count 00000003 00000020 00000000 00000000 00000000 00000000 00000000 00000000 00000000 00000000\n"
    ++ text "count 00000003 00000028 00000000 00000000 00000000 00000000 00000000 00000000 00000000 00000000\n"
    ++ text "count 00000003 00000030 00000000 00000000 00000000 00000000 00000000 00000000 00000000 00000000\n"
    ++ text "count 00000003 00000038 00000000 00000000 00000000 00000000 00000000 00000000 00000000 00000004\n"
    ++ text "end added 00000005 refused 00000001 other 00000002\n"
unfolding texts_below hex_of field character head_text mark marks_text row_text rows_text picture_text pictures_text eight_text count_text counts_text last_text text_of_page
few = refl

-- where the line of a connector, row i of its picture, its axis, and line j of the counts begin
abbrev connector_at : ℕ → ℕ
connector_at connector = 49 + 696 * connector

abbrev row_at : (connector i : ℕ) → ℕ
row_at connector i = connector_at connector + 19 + 76 * (7 - i)

abbrev axis_at : ℕ → ℕ
axis_at connector = connector_at connector + 627

abbrev counts_at : ℕ → ℕ
counts_at j = 49 + 696 * 4 + 96 * j

abbrev last_at : ℕ
last_at = counts_at 32

-- A page that was cut. The largest count is 2 ^ 32 - 1, at pad 0; at pad 63 LEAST of row 7, at pad 64 one less, at pad 255 1. Of a sum of more than eight
-- digits, here 2bfffffff, and of a number of lines, here 100000001, the last eight are printed.
abbrev large : List ℕ
large = text_of_page 4294967295 (set (set (set (set zeros 0 4294967295) 63 3758096384) 64 3758096383) 255 1) true 4294967297 0 2882400001

edges : (take 49 large ≡ text "page events ffffffff hits bfffffff most ffffffff\n")
    × (take 76 (drop (row_at 0 7) large) ≡ text "e0000000 |#                                                              #|\n")
    × (take 76 (drop (row_at 0 0) large) ≡ text "00000001 |#                                                              #|\n")
    × (take 76 (drop (row_at 1 7) large) ≡ text "e0000000 |                                                                |\n")
    × (take 76 (drop (row_at 1 6) large) ≡ text "c0000000 |#                                                               |\n")
    × (take 76 (drop (row_at 3 1) large) ≡ text "20000000 |                                                                |\n")
    × (take 76 (drop (row_at 3 0) large) ≡ text "00000001 |                                                               #|\n")
    × (take 96 (drop (counts_at 0) large) ≡ text "count 00000000 00000000 ffffffff 00000000 00000000 00000000 00000000 00000000 00000000 00000000\n")
    × (take 96 (drop (counts_at 7) large) ≡ text "count 00000000 00000038 00000000 00000000 00000000 00000000 00000000 00000000 00000000 e0000000\n")
    × (take 96 (drop (counts_at 8) large) ≡ text "count 00000001 00000000 dfffffff 00000000 00000000 00000000 00000000 00000000 00000000 00000000\n")
    × (take 96 (drop (counts_at 31) large) ≡ text "count 00000003 00000038 00000000 00000000 00000000 00000000 00000000 00000000 00000000 00000001\n")
    × (drop last_at large ≡ text "cut added 00000001 refused 00000000 other abcdef01\n")
unfolding texts_below hex_of field character head_text mark marks_text row_text rows_text picture_text pictures_text eight_text count_text counts_text last_text text_of_page
edges = (refl, refl, refl, refl, refl, refl, refl, refl, refl, refl, refl, refl)

-- A page without events: LEAST of each row is 1, and there is no mark.
abbrev empty : List ℕ
empty = text_of_page 0 zeros false 0 0 0

nothing : (take 49 empty ≡ text "page events 00000000 hits 00000000 most 00000000\n")
    × (take 19 (drop (connector_at 3) empty) ≡ text "connector 00000003\n")
    × (take 76 (drop (row_at 0 7) empty) ≡ text "00000001 |                                                                |\n")
    × (take 76 (drop (row_at 3 0) empty) ≡ text "00000001 |                                                                |\n")
    × (take 69 (drop (axis_at 3) empty) ≡ text "channel   0       8       10      18      20      28      30      38\n")
    × (take 96 (drop (counts_at 31) empty) ≡ text "count 00000003 00000038 00000000 00000000 00000000 00000000 00000000 00000000 00000000 00000000\n")
    × (drop last_at empty ≡ text "end added 00000000 refused 00000000 other 00000000\n")
unfolding texts_below hex_of field character head_text mark marks_text row_text rows_text picture_text pictures_text eight_text count_text counts_text last_text text_of_page
nothing = (refl, refl, refl, refl, refl, refl, refl)
