-- The numbers of a check fit 32 bits.
-- Assumes nothing.
use Prim.Native.Nat.{ℕ, ◌%◌, ◌^◌, ◌≤◌, ◌<◌}
use native.Mathlib.Omega.{arith}
use mathlib.Core.Path.{◌≡◌, refl}
use mathlib.Core.Logic.{◌⊎◌, inl, inr}
use mathlib.Core.Bool.{Bool, true, false, cond}
use mathlib.Core.List.{List}
use lib.Dec.{ltb, leb, eqb}
use lib.ListN.{length}
use borrow.Author.Tests.{le-leb, lt-leb, leb-true, leb-false}
use Rattle.event.specs.declared.Row.{Row}
use Rattle.event.specs.declared.StampOrder.{StampOrder}
use Rattle.event.specs.Outcome.{Outcome, done, refused, answer_of, order_of}
use Rattle.s800_layout.specs.Reading.{reading}
use Rattle.s800_layout.proofs.Refusals.{refusals}
use Rattle.host.specs.Check.{words_of, checking, In32}

-- more words than any event has
pub too_many : (o : StampOrder) (ws : List ℕ) → 4096 < length ws → reading o ws ≡ refused 1 0
too_many o ws h = rw (le-leb 14 (length ws) (omega arith), lt-leb (length ws) 4096 h)

module _ (o : StampOrder) (ws : List ℕ) where
  -- what is answered to no more words than the largest event has
  pub small_places : length ws ≤ 4096 → In32 (answer_of (reading o ws))
  small_places l = go (reading o ws) refl
    where
      at : (n k : ℕ) → (k < length ws) ⊎ (k ≡ 0) → k < 2 ^ 32
      at n k (inl h) = omega arith
      at n k (inr h) = omega arith

      go : (x : Outcome Row) → reading o ws ≡ x → In32 (answer_of x)
      go (done xs) e = tt
      go (refused n k) e = at n k (refusals o ws n k e).2

-- what is answered to any bytes
pub places_fit : (bytes : List ℕ) (order : ℕ) → In32 (answer_of (checking bytes order))
unfolding checking
places_fit bytes order = go (ltb 1 order) (eqb (length bytes % 2) 0)
  where
    sized : (o : StampOrder) (b : Bool) → leb (length (words_of bytes)) 4096 ≡ b → In32 (answer_of (reading o (words_of bytes)))
    sized o true h = small_places o (words_of bytes) (leb-true (length (words_of bytes)) 4096 h)
    sized o false h = rw (too_many o (words_of bytes) (leb-false (length (words_of bytes)) 4096 h)) (omega arith)

    go : (a b : Bool) → In32 (answer_of (cond a (refused 31 0) (cond b (reading (order_of order) (words_of bytes)) (refused 1 0))))
    go true b = omega arith
    go false true = sized (order_of order) (leb (length (words_of bytes)) 4096) refl
    go false false = omega arith
