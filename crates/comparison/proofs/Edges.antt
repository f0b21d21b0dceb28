-- Comparisons at the edges of their lists, computed: which words and rows differ, 25 and its place, and what both lent lists hold afterwards. The expected answers were
-- worked out from document 02 (#104, #106) and document 01's rows.
-- Assumes nothing.
use Prim.Native.Nat.{ℕ}
use mathlib.Core.Path.{◌≡◌, refl}
use mathlib.Core.List.{List, [], ◌∷◌, ◌++◌, map}
use lib.ListN.{length}
use Rattle.std.specs.Prelude.{Ok, Err}
use Rattle.event.specs.declared.StampOrder.{StampOrder}
use Rattle.event.specs.declared.StampOrder.TheVariants.{Crossed, Rising}
use Rattle.event.specs.Refusal.{refusal, fault_of}
use Rattle.event.proofs.Vectors.{nines}
use Rattle.dialects.specs.declared.Dialect.{Dialect}
use Rattle.dialects.specs.declared.Dialect.TheVariants.{S, F, R}
use Rattle.comparison.specs.Comparing.{differing_words, rows_apart, word_entries, row_entries, Comparison, listed, compared, written, numbers_of}
use Rattle.comparison.specs.Differences.{differences_from, tail_of}

-- two events in words of so many bits, and the two lent lists
pub record Lent : Type 0 where
  pub bits : ℕ
  pub dialect : Dialect
  pub order : StampOrder
  pub first : List ℕ
  pub second : List ℕ
  pub words : List ℕ
  pub rows : List ℕ

-- the answer, and the lists afterwards
pub record Left : Type 0 where
  pub answer : Comparison
  pub words : List ℕ
  pub rows : List ℕ

abbrev comparing : Lent → Left
comparing l =
    let r = compared l.bits l.dialect l.order l.first l.second (length l.words) (length l.rows) in
    record {
      answer = r;
      words = written r (word_entries (differing_words l.first l.second)) l.words;
      rows = written r (row_entries (rows_apart l.bits l.dialect l.order l.first l.second)) l.rows;
    }

pub record Case : Type 0 where
  pub lent : Lent
  pub left : Left

-- lists of m and n numbers
abbrev case : ℕ → Dialect → StampOrder → (a b : List ℕ) → (m n : ℕ) → Comparison → (words rows : List ℕ) → Case
case bits d o a b m n r words rows =
    record {
      lent = record { bits = bits; dialect = d; order = o; first = a; second = b; words = nines m; rows = nines n };
      left = record { answer = r; words = words; rows = rows };
    }

-- document 01's M with its length, two chunks of its stamp, and words added
abbrev m : (length chunk next : ℕ) → List ℕ → List ℕ
m n x y more = n ∷ 0x5800 ∷ 0x0005 ∷ 0x0006 ∷ 0x5803 ∷ x ∷ y ∷ 0x0001 ∷ 0x0000 ∷ 0x0005 ∷ 0x5804 ∷ 0x0007 ∷ 0x0000 ∷ 0x0000 ∷ more

-- M with the last word of its event number changed
abbrev last : List ℕ
last = 0x000e ∷ 0x5800 ∷ 0x0005 ∷ 0x0006 ∷ 0x5803 ∷ 0x1234 ∷ 0x0000 ∷ 0x0001 ∷ 0x0000 ∷ 0x0005 ∷ 0x5804 ∷ 0x0007 ∷ 0x0000 ∷ 0x0001 ∷ []

-- M; one chunk changed; two chunks changed, in one row; word 0 wrong, which is refused; a packet more
abbrev event : List ℕ
event = m 0x000e 0x1234 0x0000 []

abbrev changed : List ℕ
changed = m 0x000e 0x1235 0x0000 []

abbrev twice : List ℕ
twice = m 0x000e 0x1235 0x0002 []

abbrev bad : List ℕ
bad = m 0x000d 0x1234 0x0000 []

abbrev packet : List ℕ
packet = 0x0004 ∷ 0x58c0 ∷ 0x0002 ∷ 0x612c ∷ []

abbrev longer : List ℕ
longer = m 0x0012 0x1234 0x0000 packet

-- the entry of the changed chunk, and of its row, crossed
abbrev word : List ℕ
word = 5 ∷ 0x1234 ∷ 0x1235 ∷ []

abbrev rows : List ℕ
rows = 1 ∷ 2 ∷ 0 ∷ 0 ∷ 0x00011234 ∷ 2 ∷ 0 ∷ 0 ∷ 0x00011235 ∷ []

-- document 01's case 11, and the same with another datum
abbrev f : ℕ → List ℕ
f datum = 0x00000200 ∷ 0x00f717ff ∷ 0x01f738e1 ∷ 0x02f70563 ∷ 0x32000001 ∷ 0x0000002a ∷ 0x34000000 ∷ 0x6a000001 ∷ datum ∷ 0x6c000005 ∷ []

abbrev datum : List ℕ
datum = 8 ∷ 0x68040061 ∷ 0x68040062 ∷ []

-- the smallest event of R, and a larger one
abbrev small : List ℕ
small = 0xf001 ∷ 0x0fff ∷ []

abbrev large : List ℕ
large = 0x2001 ∷ 0x1c3a ∷ 0x6002 ∷ 0xcc66 ∷ 0x0008 ∷ 0xf001 ∷ 0xa754 ∷ []

abbrev region_words : List ℕ
region_words = 0 ∷ 0xf001 ∷ 0x2001 ∷ 1 ∷ 0x0fff ∷ 0x1c3a ∷ []

abbrev region_rows : List ℕ
region_rows = 0 ∷ 32 ∷ 15 ∷ 1 ∷ 0 ∷ 32 ∷ 2 ∷ 1 ∷ 0 ∷ 1 ∷ 33 ∷ 0 ∷ 0 ∷ 0x0fff ∷ 33 ∷ 0 ∷ 0 ∷ 0x1c3a ∷ []

abbrev cases : List Case
cases =
    -- the same event needs no room
    case 16 S Crossed event event 0 0 (Ok (listed 0 0)) [] []
    ∷ case 16 S Crossed event event 4 10 (Ok (listed 0 0)) (nines 4) (nines 10)
    -- one word and one row, in just enough room and in more
    ∷ case 16 S Crossed event changed 3 9 (Ok (listed 1 1)) word rows
    ∷ case 16 S Crossed event changed 5 17 (Ok (listed 1 1)) (word ++ nines 2) (rows ++ nines 8)
    ∷ case 16 S Crossed changed event 3 9 (Ok (listed 1 1)) (5 ∷ 0x1235 ∷ 0x1234 ∷ []) (1 ∷ 2 ∷ 0 ∷ 0 ∷ 0x00011235 ∷ 2 ∷ 0 ∷ 0 ∷ 0x00011234 ∷ [])
    -- rising: another row
    ∷ case 16 S Rising event changed 3 9 (Ok (listed 1 1)) word (1 ∷ 2 ∷ 0 ∷ 1 ∷ 0x00001234 ∷ 2 ∷ 0 ∷ 1 ∷ 0x00001235 ∷ [])
    -- the last word of the event and its last row
    ∷ case 16 S Crossed event last 3 9 (Ok (listed 1 1)) (13 ∷ 0 ∷ 1 ∷ []) (3 ∷ 3 ∷ 0 ∷ 0 ∷ 7 ∷ 3 ∷ 0 ∷ 1 ∷ 7 ∷ [])
    -- 25: neither list is written, place the entries
    ∷ case 16 S Crossed event changed 2 9 (Err (refusal 25 1)) (nines 2) (nines 9)
    ∷ case 16 S Crossed event changed 3 8 (Err (refusal 25 1)) (nines 3) (nines 8)
    ∷ case 16 S Crossed event changed 30 0 (Err (refusal 25 1)) (nines 30) []
    -- of the word list first, and of the row list else
    ∷ case 16 S Crossed event twice 5 0 (Err (refusal 25 2)) (nines 5) []
    ∷ case 16 S Crossed event twice 6 0 (Err (refusal 25 1)) (nines 6) []
    ∷ case 16 S Crossed event twice 6 9 (Ok (listed 2 1)) (word ++ (6 ∷ 0x0000 ∷ 0x0002 ∷ [])) (1 ∷ 2 ∷ 0 ∷ 0 ∷ 0x00011234 ∷ 2 ∷ 0 ∷ 2 ∷ 0x00011235 ∷ [])
    -- a refused event: no rows, and no room for them is needed
    ∷ case 16 S Crossed event bad 3 0 (Ok (listed 1 0)) (0 ∷ 0x000e ∷ 0x000d ∷ []) []
    ∷ case 16 S Crossed bad event 3 9 (Ok (listed 1 0)) (0 ∷ 0x000d ∷ 0x000e ∷ []) (nines 9)
    ∷ case 16 S Crossed bad bad 0 0 (Ok (listed 0 0)) [] []
    ∷ case 16 S Crossed bad (0x000d ∷ []) 0 0 (Ok (listed 0 0)) [] []
    ∷ case 16 S Crossed bad (0x000c ∷ 0x5801 ∷ []) 6 0 (Ok (listed 2 0)) (0 ∷ 0x000d ∷ 0x000c ∷ 1 ∷ 0x5800 ∷ 0x5801 ∷ []) []
    ∷ case 16 S Crossed bad event 2 9 (Err (refusal 25 1)) (nines 2) (nines 9)
    -- up to the shorter length, and the smaller number of rows
    ∷ case 16 S Crossed event longer 3 9 (Ok (listed 1 0)) (0 ∷ 0x000e ∷ 0x0012 ∷ []) (nines 9)
    ∷ case 16 S Crossed longer event 3 0 (Ok (listed 1 0)) (0 ∷ 0x0012 ∷ 0x000e ∷ []) []
    ∷ case 16 S Crossed event [] 0 0 (Ok (listed 0 0)) [] []
    ∷ case 16 S Crossed [] [] 0 0 (Ok (listed 0 0)) [] []
    -- F, with bit 14 a datum's and bit 15 none's (#106), and F in words of 16 bits: no event, so no rows; S in words of 32 bits likewise
    ∷ case 32 F Crossed (f 0x68040061) (f 0x68040062) 3 9 (Ok (listed 1 1)) datum (4 ∷ 22 ∷ 13 ∷ 4 ∷ 97 ∷ 22 ∷ 13 ∷ 4 ∷ 98 ∷ [])
    ∷ case 32 F Crossed (f 0x68040061) (f 0x68040062) 3 8 (Err (refusal 25 1)) (nines 3) (nines 8)
    ∷ case 32 F Crossed (f 0x6804004b) (f 0x6804404b) 3 9 (Ok (listed 1 1)) (8 ∷ 0x6804004b ∷ 0x6804404b ∷ []) (4 ∷ 22 ∷ 13 ∷ 4 ∷ 75 ∷ 22 ∷ 13 ∷ 4 ∷ 16459 ∷ [])
    ∷ case 32 F Crossed (f 0x6804404b) (f 0x6804c04b) 3 9 (Ok (listed 1 0)) (8 ∷ 0x6804404b ∷ 0x6804c04b ∷ []) (nines 9)
    ∷ case 32 F Crossed (f 0x6804c04b) (f 0x6804404b) 3 0 (Ok (listed 1 0)) (8 ∷ 0x6804c04b ∷ 0x6804404b ∷ []) []
    ∷ case 16 F Crossed (f 0x68040061) (f 0x68040062) 3 0 (Ok (listed 1 0)) datum []
    ∷ case 32 S Crossed event changed 3 9 (Ok (listed 1 0)) word (nines 9)
    ∷ case 32 R Crossed small large 6 18 (Ok (listed 2 0)) region_words (nines 18)
    -- R: two words, two rows
    ∷ case 16 R Crossed small large 6 18 (Ok (listed 2 2)) region_words region_rows
    ∷ case 16 R Rising small large 8 26 (Ok (listed 2 2)) (region_words ++ nines 2) (region_rows ++ nines 8)
    ∷ case 16 R Crossed small large 5 18 (Err (refusal 25 2)) (nines 5) (nines 18)
    ∷ case 16 R Crossed small large 6 17 (Err (refusal 25 2)) (nines 6) (nines 17)
    ∷ []

pub edges : map (λ (c : Case). comparing c.lent) cases ≡ map (λ (c : Case). c.left) cases
unfolding differences_from
edges = refl

-- the tail: of the second, of the first, of neither
pub tails : tail_of event longer ∷ tail_of longer event ∷ tail_of event changed ∷ tail_of [] event ∷ tail_of event [] ∷ [] ≡ packet ∷ packet ∷ [] ∷ event ∷ event ∷ []
tails = refl

-- the answer in document 02's numbers
pub numbers : numbers_of (Ok (listed 3 4)) ∷ numbers_of (Err (refusal 25 7)) ∷ [] ≡ (0 ∷ 3 ∷ 4 ∷ []) ∷ (25 ∷ 7 ∷ 0 ∷ []) ∷ []
unfolding fault_of
numbers = refl
