-- A GEO, or a channel, that was seen: the refusal of a row after those in a set.
-- Assumes nothing.
use Prim.Native.Nat.{ℕ, ◌%◌, ◌<◌}
use native.Mathlib.Omega.{arith}
use mathlib.Core.Path.{◌≡◌, refl, sym}
use mathlib.Core.Bool.{Bool, true, false, cond, not}
use mathlib.Core.List.{List, [], ◌∷◌, ◌++◌}
use lib.Dec.{T, eqb, eqb→eq}
use borrow.Author.Tests.{eq-eqb, ne_eqb}
use Rattle.event.specs.Parser.{Test, test, Passed, fault_in, fresh}
use Rattle.event.specs.Channels.{present, Blocked}
use Rattle.event.proofs.ChannelLaws.{seen_only}
use Rattle.event.proofs.RowFaults.{Numbered}
use Rattle.frs_writer.specs.Faults.{unless_seen}

pub found_first : (n set k : ℕ) → 0 ≡ unless_seen n set k → 0 ≡ n
unfolding unless_seen
found_first n set k e = go (eqb n 0) refl e
  where
    go : (b : Bool) → eqb n 0 ≡ b → 0 ≡ cond b (cond (present set (k % 32)) 22 0) n → 0 ≡ n
    go true h e = sym (eqb→eq n 0 (rw h tt))
    go false h e = e

-- a refusal found stands
pub found : {m n : ℕ} (set k : ℕ) → m ≡ n → (m ≡ 0 → ⊥) → m ≡ unless_seen n set k
unfolding unless_seen
found {m} set k e z = rw (← e, ne_eqb m 0 z)

pub found_none : {n : ℕ} {b : Bool} (set k : ℕ) → 0 ≡ n → b ≡ present set (k % 32) → cond b 22 0 ≡ unless_seen n set k
unfolding unless_seen
found_none set k e p = rw (← e, ← p)

-- that it is new stands last among the tests
module _ {set : ℕ} {seen : List ℕ} (s : Blocked 0 set seen) (k : ℕ) where
  pub seen_last : (ts : List Test) → Numbered ts → (Passed ts → k < 32) → unless_seen (fault_in (ts ++ (test 22 (fresh k []) ∷ []))) set k ≡ fault_in (ts ++ (test 22 (fresh k seen) ∷ []))
  unfolding unless_seen
  seen_last [] n l = let e : k % 32 ≡ k = let h = l tt in omega arith in rw (e, seen_only s k) (go (present set k))
    where
      go : (b : Bool) → ◌≡◌ {A = ℕ} (cond b 22 0) (cond (not b) 0 22)
      go true = refl
      go false = refl
  seen_last (t ∷ ts) n l = go t.holds (λ h. seen_last ts n.1 h) l
    where
      go : (b : Bool) → ((Passed ts → k < 32) → unless_seen (fault_in (ts ++ (test 22 (fresh k []) ∷ []))) set k ≡ fault_in (ts ++ (test 22 (fresh k seen) ∷ []))) → (T b × Passed ts → k < 32)
          → unless_seen (cond b (fault_in (ts ++ (test 22 (fresh k []) ∷ []))) t.number) set k ≡ cond b (fault_in (ts ++ (test 22 (fresh k seen) ∷ []))) t.number
      go true ih l = ih (λ p. l (tt, p))
      go false ih l = rw (ne_eqb t.number 0 (λ e. absurd (rw (eq-eqb t.number 0 e) at n.0)))
