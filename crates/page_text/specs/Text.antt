-- A page as text (document 02, #107), in the order of the print: its head, a picture of each connector, all counts, its last line. Numbers are eight
-- lower-case hexadecimal digits. Counts stand by pad.
-- Assumes nothing.
use Rattle.std.specs.Prelude.{ℕ, ◌+◌, ◌-◌, ◌*◌, ◌/◌, ◌%◌, max, sum, fold, Bool, cond, List, ◌++◌, leb, get_or}
use Rattle.hex_line.specs.Text.{text, hex_of, field, texts_below}

-- the largest of numbers; 0 of none
abbrev pub largest : List ℕ → ℕ
largest = fold max 0

-- `page events EVENTS hits HITS most MOST`: the events held, the sum of all counts, the largest count
unfoldable pub head_text : (events hits most : ℕ) → List ℕ
head_text events hits most = field (text "page events ") events ++ field (text " hits ") hits ++ field (text " most ") most ++ text "\n"

-- the count of a connector and a channel: that of pad channel + 64 * connector
abbrev pub count_of : (counts : List ℕ) (connector channel : ℕ) → ℕ
count_of counts connector channel = get_or counts (channel + 64 * connector) 0

-- LEAST of row i of a picture
abbrev pub least_of : (most i : ℕ) → ℕ
least_of most i = most * i / 8 + 1

-- `#` where a count is at least LEAST, else a space
unfoldable pub mark : (least n : ℕ) → List ℕ
mark least n = cond (leb least n) (text "#") (text " ")

-- the marks of channels 0 to 63
unfoldable pub marks_text : (counts : List ℕ) (connector least : ℕ) → List ℕ
marks_text counts connector least = texts_below 64 (λ channel. mark least (count_of counts connector channel))

-- `LEAST |64 characters|`
unfoldable pub row_text : (counts : List ℕ) (connector least : ℕ) → List ℕ
row_text counts connector least = hex_of 8 least ++ text " |" ++ marks_text counts connector least ++ text "|\n"

-- eight rows, i = 7 down to 0: the highest first
unfoldable pub rows_text : (counts : List ℕ) (most connector : ℕ) → List ℕ
rows_text counts most connector = texts_below 8 (λ k. row_text counts connector (least_of most (7 - k)))

-- the axis: each number in the column of its channel
abbrev pub axis : List ℕ
axis = text "channel   0       8       10      18      20      28      30      38\n"

-- `connector CONNECTOR`, the rows, the axis
unfoldable pub picture_text : (counts : List ℕ) (most connector : ℕ) → List ℕ
picture_text counts most connector = field (text "connector ") connector ++ text "\n" ++ rows_text counts most connector ++ axis

-- connectors 0 to 3
unfoldable pub pictures_text : (counts : List ℕ) (most : ℕ) → List ℕ
pictures_text counts most = texts_below 4 (picture_text counts most)

-- the counts of a channel and the seven behind it
unfoldable pub eight_text : (counts : List ℕ) (connector channel : ℕ) → List ℕ
eight_text counts connector channel = texts_below 8 (λ k. field (text " ") (count_of counts connector (channel + k)))

-- `count CONNECTOR CHANNEL C C C C C C C C`
unfoldable pub count_text : (counts : List ℕ) (connector channel : ℕ) → List ℕ
count_text counts connector channel = field (text "count ") connector ++ field (text " ") channel ++ eight_text counts connector channel ++ text "\n"

-- 32 lines: line j has connector j / 8, channel 8 * (j % 8)
unfoldable pub counts_text : (counts : List ℕ) → List ℕ
counts_text counts = texts_below 32 (λ j. count_text counts (j / 8) (8 * (j % 8)))

-- the last line begins with `cut` where the input was cut
abbrev pub last_label : (cut : Bool) → List ℕ
last_label cut = cond cut (text "cut added ") (text "end added ")

-- `end added ADDED refused REFUSED other OTHER`, or `cut added ..`: how many lines were added, refused, and of other dialects
unfoldable pub last_text : (cut : Bool) (added refused other : ℕ) → List ℕ
last_text cut added refused other = field (last_label cut) added ++ field (text " refused ") refused ++ field (text " other ") other ++ text "\n"

-- the whole page
unfoldable pub text_of_page : (events : ℕ) (counts : List ℕ) (cut : Bool) (added refused other : ℕ) → List ℕ
text_of_page events counts cut added refused other =
    head_text events (sum counts) (largest counts) ++ pictures_text counts (largest counts) ++ counts_text counts ++ last_text cut added refused other
