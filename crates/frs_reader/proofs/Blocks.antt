-- A block among the words: it does not fit, or it is its values and its footer.
-- Assumes nothing.
use Prim.Native.Nat.{ℕ, suc, ◌+◌, ◌-◌, ◌≤◌, ◌<◌}
use native.Mathlib.Nat.{le_refl}
use native.Mathlib.Omega.{arith}
use mathlib.Core.Path.{◌≡◌, ap, sym, ◌∙◌}
use mathlib.Core.List.{List, [], ◌∷◌}
use lib.ListN.{length, get_or, take, drop}
use Rattle.std.proofs.lemmas.List.{drop-take}
use lib.Seq.{slice, slice_empty}
use Rattle.event.specs.Parser.{Result, ok, refuse, Parser, then, ◌>>=◌, filled, within}
use Rattle.event.proofs.Loops.{within_slice, within_short}
use Rattle.event.proofs.Turns.{at_word}
use Rattle.frs_layout.specs.Reading.{block_of}

-- a part of the words, as it is lent
pub lent : (first end : ℕ) (ws : List ℕ) → first ≤ end → take (end - first) (drop first ws) ≡ slice first end ws
lent first end ws h = let e : first + (end - first) ≡ end = omega arith in sym (drop-take first (end - first) ws) ∙ rw e

module _ {A B : Type 0} (p n at : ℕ) (values : Parser ℕ A) (footer : A → Parser ℕ B) (ws : List ℕ) where
  abbrev Block : Result ℕ B → Type 0
  Block x = block_of p n values footer at (slice at (length ws) ws) ≡ x

  pub block_short : at ≤ length ws → length ws < at + (n + 1) → Block (refuse 5 p)
  block_short g h = within_short 5 p (n + 1) (within 5 p n values >>= footer) at (length ws) ws (le_refl (length ws)) g h

  module _ (h : at + n < length ws) where
    fits : Block (filled (slice (at + n + 1) (length ws) ws) (then footer (filled (get_or ws (at + n) 0 ∷ []) (values at (slice at (at + n) ws)))))
    fits =
        let e : at + (n + 1) ≡ suc (at + n) = omega arith in
        let f : at + n + 1 ≡ suc (at + n) = omega arith in
        let last : slice (at + n) (suc (at + n)) ws ≡ get_or ws (at + n) 0 ∷ [] = at_word ws (at + n) (suc (at + n)) (omega arith) (omega arith)
        ∙ ap (get_or ws (at + n) 0 ∷◌) (slice_empty (suc (at + n)) ws) in
        within_slice 5 p (n + 1) (within 5 p n values >>= footer) at (length ws) ws (le_refl (length ws)) (omega arith)
        ∙ rw (f, e, within_slice 5 p n values at (suc (at + n)) ws (omega arith) (omega arith), last)

    pub values_refused : {m q : ℕ} → values at (slice at (at + n) ws) ≡ refuse m q → Block (refuse m q)
    values_refused e = fits ∙ rw e

    pub values_read : {a : A} → values at (slice at (at + n) ws) ≡ ok a (at + n) []
        → Block (filled (slice (at + n + 1) (length ws) ws) (footer a (at + n) (get_or ws (at + n) 0 ∷ [])))
    values_read e = fits ∙ rw e
