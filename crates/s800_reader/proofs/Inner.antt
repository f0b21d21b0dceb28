-- An inner packet at place i, among the words up to e: its length, its tag, and what it holds.
-- Assumes nothing.
use Prim.Native.Nat.{ℕ, suc, ◌+◌, ◌-◌, ◌≤◌}
use native.Mathlib.Omega.{arith}
use mathlib.Core.Path.{◌≡◌, ◌∙◌}
use mathlib.Core.List.{List, ◌∷◌}
use lib.ListN.{length, get_or}
use lib.Seq.{slice}
use borrow.Author.Tests.{eq-eqb, ne_eqb}
use Rattle.event.specs.Parser.{refuse, Parser, ◌>>◌, filled}
use Rattle.event.specs.Words.{exactly}
use Rattle.event.proofs.Loops.{within_slice}
use Rattle.event.proofs.Turns.{at_word}
use Rattle.s800_layout.specs.Reading.{inner}

module _ {A : Type 0} (m t : ℕ) (p : Parser ℕ A) (i e : ℕ) (ws : List ℕ) (two : 2 ≤ m) (fits : i + m ≤ e) (long : e ≤ length ws) {v : ℕ} (a : v ≡ get_or ws i 0) where
  first : slice i e ws ≡ v ∷ slice (suc i) e ws
  first = at_word ws i e (omega arith) long ∙ rw a

  pub inner_length : (v ≡ m → ⊥) → inner m t p i (slice i e ws) ≡ refuse 9 i
  inner_length z = rw (first, ne_eqb v m z)

  module _ (l : v ≡ m) {w : ℕ} (b : w ≡ get_or ws (i + 1) 0) where
    length_read : inner m t p i (slice i e ws) ≡ filled (slice (i + m) e ws) ((exactly 9 t >> p) (suc i) (w ∷ slice (i + 2) (i + m) ws))
    length_read =
        let end : suc i + (m - 1) ≡ i + m = omega arith in
        let one : suc i ≡ i + 1 = omega arith in
        let next : suc (suc i) ≡ i + 2 = omega arith in
        let tail : slice (suc i) (i + m) ws ≡ w ∷ slice (i + 2) (i + m) ws = at_word ws (suc i) (i + m) (omega arith) (omega arith) ∙ rw (next, b, one) in
        rw (first, eq-eqb v m l) (within_slice 9 i (m - 1) (exactly 9 t >> p) (suc i) e ws long (omega arith) ∙ rw (end, tail))

    pub inner_tag : (w ≡ t → ⊥) → inner m t p i (slice i e ws) ≡ refuse 9 (i + 1)
    inner_tag z = let one : suc i ≡ i + 1 = omega arith in length_read ∙ rw (ne_eqb w t z, one)

    pub inner_read : w ≡ t → inner m t p i (slice i e ws) ≡ filled (slice (i + m) e ws) (p (i + 2) (slice (i + 2) (i + m) ws))
    inner_read z = let next : suc (suc i) ≡ i + 2 = omega arith in length_read ∙ rw (eq-eqb w t z, next)
