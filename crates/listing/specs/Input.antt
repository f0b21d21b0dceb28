-- What comes next of an input that is listed while it comes in.
-- Assumes nothing.
use Rattle.std.specs.Prelude.{ℕ, suc, Bool, cond, ◌||◌, List, [], ◌∷◌, eqb, leb, ltb, length}
use Rattle.hex_line.specs.Line.{longest_line}
use Rattle.listing.specs.declared.Next.{Next}
use Rattle.listing.specs.declared.Next.TheVariants.{Line, Long, More, End, Cut}
use Rattle.listing.specs.Listing.{most_lines}

-- how many characters stand before the first line feed, or all where there is none
unfoldable pub first_line : List ℕ → ℕ
first_line [] = 0
first_line (c ∷ s) = cond (eqb c 10) 0 (suc (first_line s))

-- of the characters that are not listed yet, where the input has ended or goes on, after so many lines
unfoldable pub next_of : List ℕ → Bool → ℕ → Next
next_of rest ended lines =
    cond (eqb (length rest) 0)
    (cond ended End More)
    (cond (leb most_lines lines)
    Cut
    (cond (ltb longest_line (first_line rest))
    (Long (first_line rest))
    (cond (ended || ltb (first_line rest) (length rest)) (Line (first_line rest)) More)))
