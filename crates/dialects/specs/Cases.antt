-- The twelve spoken cases of document 01, the seventh as document 02 has it (#103), and document 02's thirteenth (#106): a single table.
-- Assumes nothing.
use Rattle.std.specs.Prelude.{ℕ, ◌≡◌, List, [], ◌∷◌, map, length}
use Rattle.event.specs.declared.Row.{Row}
use Rattle.event.specs.declared.StampOrder.{StampOrder}
use Rattle.event.specs.declared.StampOrder.TheVariants.{Crossed, Rising}
use Rattle.event.specs.Outcome.{Outcome, done, refused}
use Rattle.event.specs.Rows.{row}
use Rattle.dialects.specs.declared.Dialect.{Dialect}
use Rattle.dialects.specs.declared.Dialect.TheVariants.{S, F}
use Rattle.dialects.specs.Dialects.{reading}

-- document 01 calls its first line M: here with its word 0, its word 3, and words added
abbrev m : (word0 word3 : ℕ) → List ℕ → List ℕ
m word0 word3 more = word0 ∷ 0x5800 ∷ 0x0005 ∷ word3 ∷ 0x5803 ∷ 0x1234 ∷ 0x0000 ∷ 0x0001 ∷ 0x0000 ∷ 0x0005 ∷ 0x5804 ∷ 0x0007 ∷ 0x0000 ∷ 0x0000 ∷ more

-- M's rows with its stamp (bits 63-32, bits 31-0) and rows added
abbrev m_rows : (high low : ℕ) → List Row → List Row
m_rows high low more = row 1 0x5803 0 0 ∷ row 2 0 high low ∷ row 1 0x5804 0 0 ∷ row 3 0 0 7 ∷ more

-- the line of case 10, with longwords added; its rows, with rows added
abbrev f : List ℕ → List ℕ
f more = 0x00000200 ∷ 0x00f717ff ∷ 0x01f738e1 ∷ 0x02f70563 ∷ 0x32000001 ∷ 0x0000002a ∷ 0x34000000 ∷ more

abbrev f_rows : List Row → List Row
f_rows more = row 16 0x17ff 0x38e1 0x0563 ∷ row 17 6 1 0 ∷ row 18 6 0 42 ∷ more

record Case : Type 0 where
  pub dialect : Dialect
  pub order : StampOrder
  pub words : List ℕ
  pub outcome : Outcome Row

abbrev case : Dialect → StampOrder → List ℕ → Outcome Row → Case
case d o ws x = record { dialect = d; order = o; words = ws; outcome = x }

abbrev cases : List Case
cases =
    -- 1, 2: the stamp of M
    case S Crossed (m 0x000e 0x0006 []) (done (m_rows 0 0x00011234 []))
    ∷ case S Rising (m 0x000e 0x0006 []) (done (m_rows 0x00000001 0x00001234 []))
    -- 3 to 6: lengths
    ∷ case S Crossed (m 0x000d 0x0006 []) (refused 2 0)
    ∷ case S Crossed (m 0x000e 0x000b []) (refused 7 3)
    ∷ case S Crossed (m 0x000e 0x000c []) (refused 5 3)
    ∷ case S Crossed (m 0x000f 0x0006 (0x0000 ∷ [])) (refused 5 14)
    -- 7: sample 37, channel 18; pad 146, energy 300
    ∷ case S Crossed (m 0x001a 0x0006 (0x000c ∷ 0x5840 ∷ 0 ∷ 0x0005 ∷ 0x5841 ∷ 0 ∷ 0x8952 ∷ 0x092c ∷ 0x0004 ∷ 0x5845 ∷ 0 ∷ 0 ∷ []))
    (done (m_rows 0 0x00011234 (row 1 0x5840 0 0 ∷ row 7 0 0 0 ∷ row 8 37 18 0 ∷ row 12 37 146 300 ∷ row 9 0 0 0 ∷ [])))
    -- 8: channel 19, energy 300
    ∷ case S Crossed (m 0x0012 0x0006 (0x0004 ∷ 0x58c0 ∷ 2 ∷ 0x612c ∷ [])) (done (m_rows 0 0x00011234 (row 1 0x58c0 2 0 ∷ row 6 0 19 300 ∷ [])))
    -- 9: channel 8, time 100
    ∷ case S Crossed (m 0x0012 0x0006 (0x0004 ∷ 0x5801 ∷ 0 ∷ 0x8064 ∷ [])) (done (m_rows 0 0x00011234 (row 1 0x5801 0 0 ∷ row 4 0 0 0 ∷ row 5 0 8 100 ∷ [])))
    -- 10: 3 rows; 11: 5 rows, the last GEO 13, channel 4, 97; 12: GEO 8 twice
    ∷ case F Crossed (f []) (done (f_rows []))
    ∷ case F Crossed (f (0x6a000001 ∷ 0x68040061 ∷ 0x6c000005 ∷ [])) (done (f_rows (row 21 13 1 5 ∷ row 22 13 4 97 ∷ [])))
    ∷ case F Crossed (f (0x46000000 ∷ 0x46000000 ∷ [])) (refused 11 8)
    -- 13: case 11 with a datum that has bit 14, 16384 + 75
    ∷ case F Crossed (f (0x6a000001 ∷ 0x6804404b ∷ 0x6c000005 ∷ [])) (done (f_rows (row 21 13 1 5 ∷ row 22 13 4 16459 ∷ [])))
    ∷ []

-- There are thirteen, and each has its outcome.
abbrev pub SpokenCases : Type 0
SpokenCases = (length cases ≡ 13) × (map (λ c. reading c.dialect c.order c.words) cases ≡ map (λ c. c.outcome) cases)
