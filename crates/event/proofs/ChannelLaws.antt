-- A set of channels as bits, beside lists of channels: those barred, and those seen before. The laws hold at every width.
-- Assumes nothing.
use Prim.Native.Nat.{ℕ, zero, suc, ◌+◌, ◌/◌, ◌%◌, ◌^◌, ◌-◌, ◌≤◌, ◌<◌}
use native.Mathlib.Nat.{zero-div, div-eq_of_lt, div_self, pow-suc, mul-mod_left}
use native.Mathlib.Omega.{arith}
use mathlib.Core.Path.{◌≡◌, refl, sym, ap, ◌∙◌}
use mathlib.Core.Bool.{Bool, true, false, cond, not, ◌&&◌, ◌||◌}
use mathlib.Core.List.{List, [], ◌∷◌}
use lib.Dec.{T, eqb, ltb}
use lib.Pow.{pow_pos, pow-lt, pow-add, shl-shr}
use lib.Bits.{bit_or, or_shr, or_mod}
use borrow.Author.Tests.{eq-eqb, ne_eqb, eqb-true, eqb-false, ltb-true, ltb-false}
use Rattle.event.specs.Parser.{fresh, member}
use Rattle.event.specs.Channels.{present, insert, others, Blocked}

bit_self : (k : ℕ) → 2 ^ k / 2 ^ k % 2 ≡ 1
bit_self k = let p : 2 ^ k / 2 ^ k ≡ 1 = div_self (pow_pos k) in rw p

bit_above : (d k : ℕ) → 2 ^ (suc d + k) / 2 ^ k % 2 ≡ 0
bit_above d k = rw (pow-add 2 (suc d) k, shl-shr (2 ^ suc d) k, pow-suc 2 d) (mul-mod_left (2 ^ d) 2)

-- bit k of 2 ^ j is 1 where j is k, and 0 elsewhere
bit : (j k : ℕ) → eqb (2 ^ j / 2 ^ k % 2) 1 ≡ eqb j k
bit j k = go (ltb j k) refl (ltb k j) refl
  where
    go : (a : Bool) → ltb j k ≡ a → (b : Bool) → ltb k j ≡ b → eqb (2 ^ j / 2 ^ k % 2) 1 ≡ eqb j k
    go true p b q =
        let h : j < k = ltb-true j k p in
        rw (div-eq_of_lt (pow-lt h), ne_eqb j k (λ e. omega arith))
    go false p true q =
        let h : k < j = ltb-true k j q in
        let e : j ≡ suc (j - suc k) + k = omega arith in
        let z : 2 ^ j / 2 ^ k % 2 ≡ 0 = ap (λ (x : ℕ). 2 ^ x / 2 ^ k % 2) e ∙ bit_above (j - suc k) k in
        rw (z, ne_eqb j k (λ e. omega arith))
    go false p false q =
        let e : j ≡ k = omega (arith, ltb-false j k p, ltb-false k j q) in
        rw (e, bit_self k, eq-eqb k k refl)

or_bit : (a b : ℕ) → a < 2 → b < 2 → eqb (bit_or a b) 1 ≡ eqb b 1 || eqb a 1
or_bit zero zero ha hb = refl
or_bit zero (suc zero) ha hb = refl
or_bit zero (suc (suc b)) ha hb = absurd (omega arith)
or_bit (suc zero) zero ha hb = refl
or_bit (suc zero) (suc zero) ha hb = refl
or_bit (suc zero) (suc (suc b)) ha hb = absurd (omega arith)
or_bit (suc (suc a)) b ha hb = absurd (omega arith)

present_insert : (set j k : ℕ) → present (insert set j) k ≡ eqb j k || present set k
unfolding present insert
present_insert set j k =
    rw (or_shr set (2 ^ j) k, or_mod (set / 2 ^ k) (2 ^ j / 2 ^ k) 1)
    (or_bit (set / 2 ^ k % 2) (2 ^ j / 2 ^ k % 2) (omega arith) (omega arith) ∙ rw (bit j k))

or_false : (b : Bool) → b ≡ b || false
or_false true = refl
or_false false = refl

pub blocked_none : {barred : ℕ} → Blocked barred barred []
blocked_none {barred} = record { holds = λ k. or_false (present barred k) }

-- where none is barred, the set is those seen
none_in : (k : ℕ) → present 0 k ≡ false
unfolding present
none_in k = rw (zero-div (2 ^ k))

pub seen_only : {set : ℕ} {seen : List ℕ} → Blocked 0 set seen → (k : ℕ) → fresh k seen ≡ not (present set k)
seen_only {set} {seen} s k = rw (s.holds k, none_in k) (twice (fresh k seen))
  where
    twice : (b : Bool) → b ≡ not (not b)
    twice true = refl
    twice false = refl

-- one more is seen
swap : (j k : ℕ) (a x : Bool) → eqb j k || (a || not x) ≡ a || not (not (eqb k j) && x)
swap j k a x = go (eqb j k) refl a x
  where
    go : (b : Bool) → eqb j k ≡ b → (a x : Bool) → eqb j k || (a || not x) ≡ a || not (not (eqb k j) && x)
    go true e true x = rw e
    go true e false x = rw (e, eq-eqb k j (sym (eqb-true j k e)))
    go false e a x = rw (e, ne_eqb k j (λ h. eqb-false j k e (sym h)))

pub blocked_more : {barred set : ℕ} {seen : List ℕ} (j : ℕ) → Blocked barred set seen → Blocked barred (insert set j) (j ∷ seen)
blocked_more {barred} {set} {seen} j s =
    record { holds = λ k. present_insert set j k ∙ ap (eqb j k ||◌) (s.holds k) ∙ swap j k (present barred k) (fresh k seen) }

none_below : (set c n k : ℕ) → k < c → member k (others c n set) ≡ false
unfolding others
none_below set c zero k h = refl
none_below set c (suc n) k h = go (present set c) (none_below set (suc c) n k (omega arith))
  where
    go : (b : Bool) → member k (others (suc c) n set) ≡ false → member k (cond b (others (suc c) n set) (c ∷ others (suc c) n set)) ≡ false
    go true e = e
    go false e = rw (ne_eqb k c (λ p. omega arith), e)

pub others_below : (set c n k : ℕ) → T (member k (others c n set)) → k < c + n
unfolding others
others_below set c zero k t = absurd t
others_below set c (suc n) k t = go (λ u. let l = others_below set (suc c) n k u in omega arith) (present set c) t
  where
    one : (b : Bool) → eqb k c ≡ b → (T (member k (others (suc c) n set)) → k < c + suc n) → T (b || member k (others (suc c) n set)) → k < c + suc n
    one true e ih t = let z = eqb-true k c e in omega arith
    one false e ih t = ih t

    go : (T (member k (others (suc c) n set)) → k < c + suc n) → (b : Bool) → T (member k (cond b (others (suc c) n set) (c ∷ others (suc c) n set))) → k < c + suc n
    go ih true t = ih t
    go ih false t = one (eqb k c) refl ih t

pub among : (set c n k : ℕ) → c ≤ k → k < c + n → member k (others c n set) ≡ not (present set k)
unfolding others
among set c zero k l h = absurd (omega arith)
among set c (suc n) k l h = go (λ m. among set (suc c) n k m (omega arith)) (eqb k c) refl (present set c) refl
  where
    go : (suc c ≤ k → member k (others (suc c) n set) ≡ not (present set k)) → (a : Bool) → eqb k c ≡ a → (b : Bool) → present set c ≡ b
        → member k (cond b (others (suc c) n set) (c ∷ others (suc c) n set)) ≡ not (present set k)
    go ih true e true p = rw (eqb-true k c e, p) (none_below set (suc c) n c (omega arith))
    go ih true e false p = rw (e, eqb-true k c e, p)
    go ih false e true p = let d = eqb-false k c e in ih (omega arith)
    go ih false e false p = let d = eqb-false k c e in rw e (ih (omega arith))
