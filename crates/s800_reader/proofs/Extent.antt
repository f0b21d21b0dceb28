-- A packet at `start`: refusal 5, or its tag and what follows within its length. Over any tag and content.
-- Assumes nothing.
use Prim.Native.Nat.{ℕ, suc, ◌+◌, ◌-◌, ◌≤◌, ◌<◌}
use native.Mathlib.Nat.{le_refl}
use native.Mathlib.Omega.{arith}
use mathlib.Core.Path.{◌≡◌, refl, ◌∙◌}
use mathlib.Core.Bool.{Bool}
use mathlib.Core.List.{List, ◌∷◌}
use lib.ListN.{length, get_or, drop}
use lib.Seq.{slice}
use borrow.Author.Tests.{eq-eqb, le-leb, lt-leb}
use Rattle.event.specs.Parser.{refuse, Parser, filled}
use Rattle.event.proofs.Loops.{to_the_end, within_slice, within_short}
use Rattle.event.proofs.Turns.{at_word}
use Rattle.s800_layout.specs.Reading.{body_of, packet_of}

module _ {F A : Type 0} (tagWord : Parser ℕ F) (allowed : F → ℕ → Bool) (content : F → ℕ → ℕ → Parser ℕ A) (ws : List ℕ) (start : ℕ) {n : ℕ}
    (below : start < length ws) (e : n ≡ get_or ws start 0) where
  input : drop start ws ≡ n ∷ slice (suc start) (length ws) ws
  input = to_the_end start ws ∙ at_word ws start (length ws) below (le_refl (length ws)) ∙ rw e

  pub too_short : n < 2 → packet_of tagWord allowed content start (drop start ws) ≡ refuse 5 start
  too_short h = rw (input, eq-eqb n n refl, lt-leb 2 n h)

  module _ (two : 2 ≤ n) where
    pub too_long : length ws - start < n → packet_of tagWord allowed content start (drop start ws) ≡ refuse 5 start
    too_long h = rw (input, eq-eqb n n refl, le-leb 2 n two)
        (within_short 5 start (n - 1) (body_of tagWord allowed content start n) (suc start) (length ws) ws (le_refl (length ws)) (omega arith) (omega arith))

    pub body : n ≤ length ws - start → {t : ℕ} → t ≡ get_or ws (start + 1) 0
        → packet_of tagWord allowed content start (drop start ws) ≡ filled (slice (start + n) (length ws) ws)
        (body_of tagWord allowed content start n (start + 1) (t ∷ slice (start + 2) (start + n) ws))
    body inside {t} d =
        let end : suc start + (n - 1) ≡ start + n = omega arith in
        let one : suc start ≡ start + 1 = omega arith in
        let next : suc (start + 1) ≡ start + 2 = omega arith in
        let tail : slice (start + 1) (start + n) ws ≡ t ∷ slice (start + 2) (start + n) ws = at_word ws (start + 1) (start + n) (omega arith) (omega arith) ∙ rw (next, d) in
        rw (input, eq-eqb n n refl, le-leb 2 n two)
        (within_slice 5 start (n - 1) (body_of tagWord allowed content start n) (suc start) (length ws) ws (le_refl (length ws)) (omega arith) ∙ rw (end, one, tail))
