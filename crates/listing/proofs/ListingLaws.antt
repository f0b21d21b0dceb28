-- The listing by what comes next: the lines of an input by its first line, and the listing of one line more.
-- Assumes nothing.
use Prim.Native.Nat.{ℕ, suc, ◌+◌, ◌≤◌, ◌<◌, suc-le-suc}
use native.Mathlib.Nat.{le_of_suc-le-suc, suc_inj}
use native.Mathlib.Omega.{arith}
use mathlib.Core.Path.{◌≡◌, refl}
use mathlib.Core.Bool.{Bool, true, false}
use mathlib.Core.List.{List, [], ◌∷◌, ◌++◌}
use lib.Dec.{eqb}
use lib.ListN.{length, take, drop}
use borrow.Author.Tests.{le-leb, lt-leb, lt-ltb, le-ltb}
use Rattle.event.specs.declared.StampOrder.{StampOrder}
use Rattle.event.specs.Outcome.{refused, answer_of, given}
use Rattle.dialects.specs.declared.Dialect.{Dialect}
use Rattle.hex_line.specs.Line.{letter, digits, longest_line, line_words}
use Rattle.hex_line.proofs.LineLaws.{formed_too_long}
use Rattle.listing.specs.Listing.{line_dialect, lines_of, line_rows, most_lines, accepted_in, refused_in, list_from}
use Rattle.listing.specs.Input.{first_line}
use Rattle.listing.specs.Text.{event_text, last_text}

-- a whole line first, whatever comes later
pub first_whole : (rest later : List ℕ) → first_line rest < length rest → lines_of (rest ++ later) ≡ take (first_line rest) rest ∷ lines_of (drop (suc (first_line rest)) rest ++ later)
unfolding first_line
first_whole [] later h = absurd (omega arith)
first_whole (c ∷ s) later h = go (eqb c 10) refl (first_whole s later)
  where
    go : (b : Bool) → eqb c 10 ≡ b → (first_line s < length s → lines_of (s ++ later) ≡ take (first_line s) s ∷ lines_of (drop (suc (first_line s)) s ++ later))
        → lines_of (c ∷ s ++ later) ≡ take (first_line (c ∷ s)) (c ∷ s) ∷ lines_of (drop (suc (first_line (c ∷ s))) (c ∷ s) ++ later)
    go true e ih = rw e
    go false e ih = rw (e, ih (le_of_suc-le-suc (rw e at h)))

-- the last line, without a line feed
pub first_last : (rest : List ℕ) → first_line rest ≡ length rest → 0 < length rest → lines_of rest ≡ rest ∷ []
unfolding first_line
first_last [] e h = absurd (omega arith)
first_last (c ∷ s) e h = go (eqb c 10) refl s e (first_last s)
  where
    go : (b : Bool) → eqb c 10 ≡ b → (s : List ℕ) → first_line (c ∷ s) ≡ length (c ∷ s) → (first_line s ≡ length s → 0 < length s → lines_of s ≡ s ∷ []) → lines_of (c ∷ s) ≡ (c ∷ s) ∷ []
    go true t s e ih = absurd (omega (arith, rw t at e))
    go false t [] e ih = rw t
    go false t (d ∷ s) e ih = rw (t, ih (suc_inj (rw t at e)) (omega arith))

-- the first line of an input that begins with some characters has at least as many as stand before their first line feed
pub record Begins (rest later : List ℕ) : Type 0 where
  pub line : List ℕ
  pub lines : List (List ℕ)
  pub split : lines_of (rest ++ later) ≡ line ∷ lines
  pub long : first_line rest ≤ length line

one : (c : ℕ) (later : List ℕ) → eqb c 10 ≡ false → (lines : List (List ℕ)) → lines_of later ≡ lines → Begins (c ∷ []) later
unfolding first_line
one c later t [] e = record { line = c ∷ []; lines = []; split = rw (t, e); long = rw t (omega arith) }
one c later t (l ∷ lines) e = record { line = c ∷ l; lines = lines; split = rw (t, e); long = rw t (omega arith) }

pub begins : (rest later : List ℕ) → 0 < length rest → Begins rest later
unfolding first_line
begins [] later h = absurd (omega arith)
begins (c ∷ s) later h = go (eqb c 10) refl s (begins s later)
  where
    go : (b : Bool) → eqb c 10 ≡ b → (s : List ℕ) → (0 < length s → Begins s later) → Begins (c ∷ s) later
    go true t s ih = record { line = []; lines = lines_of (s ++ later); split = rw t; long = rw t (omega arith) }
    go false t [] ih = one c later t (lines_of later) refl
    go false t (d ∷ s) ih = longer (ih (omega arith))
      where
        longer : Begins (d ∷ s) later → Begins (c ∷ d ∷ s) later
        longer b = record { line = c ∷ b.line; lines = b.lines; split = rw (t, b.split); long = rw t (suc-le-suc b.long) }

module _ (o : StampOrder) (a r : ℕ) (line : List ℕ) (lines : List (List ℕ)) where
  -- a line that is not too long, with others before it that are not too many
  pub list_line : a + r < most_lines → length line ≤ longest_line
      → list_from o a r (line ∷ lines)
      ≡ event_text (a + r + 1) (answer_of (line_rows o line)) (given (line_rows o line))
      ++ list_from o (a + accepted_in (answer_of (line_rows o line))) (r + refused_in (answer_of (line_rows o line))) lines
  unfolding list_from
  list_line h k = rw (lt-leb most_lines (a + r) h, le-ltb longest_line (length line) k)

  -- one that is too long
  pub list_long : a + r < most_lines → longest_line < length line
      → list_from o a r (line ∷ lines)
      ≡ event_text (a + r + 1) (answer_of (line_rows o line)) (given (line_rows o line))
      ++ last_text true (a + accepted_in (answer_of (line_rows o line))) (r + refused_in (answer_of (line_rows o line)))
  unfolding list_from
  list_long h k = rw (lt-leb most_lines (a + r) h, lt-ltb longest_line (length line) k)

  -- one too many
  pub list_cut : most_lines ≤ a + r → list_from o a r (line ∷ lines) ≡ last_text true a r
  unfolding list_from
  list_cut h = rw (le-leb most_lines (a + r) h)

pub list_end : (o : StampOrder) (a r : ℕ) → list_from o a r [] ≡ last_text false a r
unfolding list_from
list_end o a r = refl

-- a line that is too long is refused by 30, whatever its characters
pub words_long : (d : Dialect) (line : List ℕ) → longest_line < length line → line_words d line ≡ refused 30 0
words_long d line h = rw (formed_too_long (letter d) (digits d) line h)

pub long_refused : (o : StampOrder) (line : List ℕ) → longest_line < length line → line_rows o line ≡ refused 30 0
long_refused o line h = rw (words_long (line_dialect line) line h)
