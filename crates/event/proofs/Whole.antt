-- Whole inputs: a parser that runs to the end and codes a printer accepts exactly what is printed; with a limit, exactly what keeps it.
-- Assumes nothing.
use Prim.Native.Nat.{ℕ, ◌≤◌, ◌<◌}
use native.Mathlib.Omega.{arith}
use mathlib.Core.Path.{◌≡◌, refl, sym, ◌∙◌, subst}
use mathlib.Core.Logic.{◌↔◌, ◌⊎◌, inl, inr}
use mathlib.Core.Bool.{Bool, true, false, cond}
use mathlib.Core.List.{List, [], append-nil}
use lib.Dec.{leb}
use lib.ListN.{length}
use borrow.Author.Tests.{leb-true, leb-false, le-leb}
use Rattle.event.specs.Parser.{Result, ok, refuse, Parser, ended}
use Rattle.event.specs.Outcome.{Outcome, done, refused, outcome, limited}
use Rattle.event.proofs.Codes.{Codes, At, nil}
use Rattle.event.proofs.Ends.{Ends}
use Rattle.event.proofs.Impossible.{impossible}

module _ {E A B : Type 0} {p : Parser E A} {print : A → List E} {Good : A → Type 0} (c : Codes (At ended) p print Good) (f : A → Outcome B) where
  pub printed : (a : A) → Good a → outcome f (p 0 (print a)) ≡ f a
  printed a g = let h = c.complete a g 0 [] tt in rw (rw append-nil at h.1)

  pub accepted : Ends ended p → (s : List E) (l : List B) → outcome f (p 0 s) ≡ done l → (a : A) × Good a × (print a ≡ s) × (f a ≡ done l)
  accepted ends s l e = go (p 0 s) refl e
    where
      go : (x : Result E A) → p 0 s ≡ x → outcome f x ≡ done l → (a : A) × Good a × (print a ≡ s) × (f a ≡ done l)
      go (refuse n k) h q = impossible cc
      go (ok a j r) h q =
          let k = c.sound 0 s a j r h in
          let m : s ≡ print a = (rw (nil r (ends 0 s a j r h)) at k.1) ∙ append-nil (print a) in
          (a, k.0, sym m, q)

-- a test passed by an accepted input
pub passed : {A : Type 0} (b : Bool) (x : Outcome A) (n k : ℕ) (l : List A) → cond b x (refused n k) ≡ done l → (b ≡ true) × (x ≡ done l)
passed true x n k l e = (refl, e)
passed false x n k l e = impossible cc

-- 12, 23 and 24 come last, and only where there is too much
pub limited_iff : {A : Type 0} (n most : ℕ) (x : Outcome A) (l : List A) → (limited n most x ≡ done l) ↔ ((x ≡ done l) × (length l ≤ most))
limited_iff {A} n most (refused m k) l = (λ e. (e, impossible cc), λ e. e.0)
limited_iff {A} n most (done xs) l = (to, from)
  where
    to : cond (leb (length xs) most) (done xs) (refused n (length xs)) ≡ done l → (done xs ≡ done l) × (length l ≤ most)
    to e =
        let a = passed (leb (length xs) most) (done xs) n (length xs) l e in
        let same : xs ≡ l = cc a.1 in
        (a.1, subst (λ (y : List A). length y ≤ most) same (leb-true (length xs) most a.0))

    from : (done xs ≡ done l) × (length l ≤ most) → cond (leb (length xs) most) (done xs) (refused n (length xs)) ≡ done l
    from e =
        let same : xs ≡ l = cc e.0 in
        rw (le-leb (length xs) most (subst (λ (y : List A). length y ≤ most) (sym same) e.1)) e.0

pub limited_refused : {A : Type 0} (n most : ℕ) (x : Outcome A) (m k : ℕ) → limited n most x ≡ refused m k → (x ≡ refused m k) ⊎ ((m ≡ n) × (most < k))
limited_refused n most (refused i j) m k = inl
limited_refused n most (done xs) m k = go (leb (length xs) most) refl
  where
    go : (b : Bool) → leb (length xs) most ≡ b → cond b (done xs) (refused n (length xs)) ≡ refused m k → (done xs ≡ refused m k) ⊎ ((m ≡ n) × (most < k))
    go true l e = inl e
    go false l e = let place : length xs ≡ k = cc in inr (cc, omega (arith, leb-false (length xs) most l))
