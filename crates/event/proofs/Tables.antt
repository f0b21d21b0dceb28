-- Tables: a test that the checker computes for every number below a bound is the rule at each of them; a look-up past all keys.
-- Assumes nothing.
use Prim.Native.Nat.{ℕ, zero, suc, ◌≤◌, ◌<◌}
use native.Mathlib.Omega.{arith}
use mathlib.Core.Path.{◌≡◌, refl}
use mathlib.Core.Bool.{Bool, true, false, ◌&&◌}
use mathlib.Core.List.{List, [], ◌∷◌}
use lib.Dec.{T, eqb}
use borrow.Author.Tests.{eqb-true, eqb-false, ne_eqb}
use Rattle.event.specs.Parser.{All, look_up}
use Rattle.event.proofs.Elements.{both}

unfoldable pub holds_below : ℕ → (ℕ → Bool) → Bool
holds_below zero test = true
holds_below (suc n) test = test n && holds_below n test

pub holds_below_lem : (n : ℕ) (test : ℕ → Bool) → T (holds_below n test) → (x : ℕ) → x < n → T (test x)
unfolding holds_below
holds_below_lem zero test t x h = absurd (omega arith)
holds_below_lem (suc n) test t x h = go (holds_below_lem n test (both (test n) (holds_below n test) t).1 x) (eqb x n) refl
  where
    go : (x < n → T (test x)) → (b : Bool) → eqb x n ≡ b → T (test x)
    go below true e = rw (eqb-true x n e) (both (test n) (holds_below n test) t).0
    go below false e = below (omega (arith, eqb-false x n e))

-- no item has a key of m or more
pub look_up_past : {A : Type 0} (key : A → ℕ) (other : A) (m k : ℕ) → m ≤ k → (xs : List A) → All (λ x. key x < m) xs → look_up key other xs k ≡ other
look_up_past key other m k l [] a = refl
look_up_past key other m k l (x ∷ xs) a = rw (ne_eqb k (key x) (λ e. omega (arith, a.0))) (look_up_past key other m k l xs a.1)
