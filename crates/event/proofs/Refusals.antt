-- What a parser refuses: a rule for each way to build it, by which every refusal has a number of a table and a place before an end, or past it by as much as its number allows.
-- Assumes nothing.
use Prim.Native.Nat.{ℕ, zero, suc, ◌+◌, ◌-◌, ◌≤◌, ◌<◌}
use native.Mathlib.Omega.{arith}
use mathlib.Core.Path.{◌≡◌, refl, ap, subst}
use mathlib.Core.Bool.{Bool, true, false, cond, not}
use mathlib.Core.List.{List, [], ◌∷◌}
use mathlib.Core.Option.{some, none}
use lib.Dec.{T, leb}
use lib.ListN.{length, take, drop, length-take, length-drop}
use borrow.Author.Tests.{leb-true}
use Rattle.event.specs.Parser.{Result, ok, refuse, Parser, Test, ended, then, ◌>>=◌, give, here, require, finish, checked, lastly, judge, element, filled, within, optionally}
use Rattle.event.specs.Parser.{times, up_to, many, All}
use Rattle.event.specs.Outcome.{done, refused, outcome}
use Rattle.event.proofs.Codes.{T_true, nil}
use Rattle.event.proofs.Impossible.{impossible}

-- A refusal n has a number of the table and a place before `end + past n`; a success leaves elements up to place `limit`, and `Left` holds of them.
abbrev Fair : {E A : Type 0} → (ℕ → Bool) → ℕ → (ℕ → ℕ) → ℕ → (List E → Type 0) → Result E A → Type 0
Fair number end past limit Left (ok a j r) = (j + length r ≡ limit) × Left r
Fair number end past limit Left (refuse n k) = T (number n) × (k < end + past n)

-- The parser p is fair on the elements s, wherever they stand up to `end`: `past n` is 0 where a refusal n is at an element (every one of a
-- reading), 1 where it may be where the input ends (21 of a writing).
pub record Keeps {E A : Type 0} (number : ℕ → Bool) (end : ℕ) (past : ℕ → ℕ) (s : List E) (p : Parser E A) (Left : List E → Type 0) : Type 0 where
  run : (i limit : ℕ) → i + length s ≡ limit → limit ≤ end → Fair number end past limit Left (p i s)

abbrev Numbered : (ℕ → Bool) → List Test → Type 0
Numbered number = All (λ t. T (number t.number))

-- there is an element, or a place for the refusal that there is none, and the refusals have numbers of the table: `omega arith` proves it, where the table computes
abbrev pub There : {E : Type 0} → (ℕ → Bool) → (ℕ → ℕ) → ℕ → (E → List Test) → List E → Type 0
There {E} number past n tests s = T (number n) × ((x : E) → Numbered number (tests x)) × (1 ≤ past n + length s)

pub either : {X : Type 0} (P : X → Type 0) {x y : X} (b : Bool) → P x → P y → P (cond b x y)
either P true u v = u
either P false u v = v

module _ {E : Type 0} {number : ℕ → Bool} {end : ℕ} {past : ℕ → ℕ} where
  pub keeps_give : {A : Type 0} {s : List E} {Left : List E → Type 0} {a : A} → Left s → Keeps number end past s (give a) Left
  keeps_give l = record { run = λ i limit e h. (e, l) }

  -- less is said of what is left
  pub keeps_left : {A : Type 0} {s : List E} {Mid Left : List E → Type 0} {p : Parser E A} → Keeps number end past s p Mid → ((r : List E) → Mid r → Left r) → Keeps number end past s p Left
  keeps_left {A} {s} {Mid} {Left} {p} c d = record { run = λ i limit e h. go limit (p i s) (c.run i limit e h) }
    where
      go : (limit : ℕ) (x : Result E A) → Fair number end past limit Mid x → Fair number end past limit Left x
      go limit (ok a j r) f = (f.0, d r f.1)
      go limit (refuse n k) f = f

  pub keeps_bind : {A B : Type 0} {s : List E} {Mid Left : List E → Type 0} {p : Parser E A} {q : A → Parser E B} → Keeps number end past s p Mid
      → ((a : A) (r : List E) → Mid r → Keeps number end past r (q a) Left) → Keeps number end past s (p >>= q) Left
  keeps_bind {A} {B} {s} {Mid} {Left} {p} {q} c d = record { run = λ i limit e h. go limit h (p i s) (c.run i limit e h) }
    where
      go : (limit : ℕ) → limit ≤ end → (x : Result E A) → Fair number end past limit Mid x → Fair number end past limit Left (then q x)
      go limit h (ok a j r) f = (d a r f.1).run j limit f.0 h
      go limit h (refuse n k) f = f

  pub keeps_map : {A B : Type 0} {s : List E} {Left : List E → Type 0} {p : Parser E A} (f : A → B) → Keeps number end past s p Left → Keeps number end past s (p >>= λ a. give (f a)) Left
  keeps_map f c = keeps_bind c (λ a r l. keeps_give l)

  pub keeps_require : {s : List E} (b : Bool) (n k : ℕ) → T (number n) → k < end → Keeps number end past s (require b n k) (λ r. T b × (length r ≡ length s))
  keeps_require true n k t l = record { run = λ i limit e h. (e, (tt, refl)) }
  keeps_require false n k t l = record { run = λ i limit e h. (t, omega arith) }

  -- the end of the input
  pub keeps_finish : {s : List E} (n : ℕ) → T (number n) → Keeps number end past s (finish n) (λ r. length r ≡ 0)
  keeps_finish {s = []} n t = record { run = λ i limit e h. (e, refl) }
  keeps_finish {s = x ∷ s} n t = record { run = λ i limit e h. (t, omega arith) }

  -- a rule of the whole, at the last place
  pub keeps_lastly : {A : Type 0} {s : List E} {Left : List E → Type 0} {p : Parser E A} (holds : A → Bool) (n : ℕ) → T (number n) → Keeps number end past s p (λ r. (1 ≤ end) × Left r)
      → Keeps number end past s (lastly holds n p) Left
  keeps_lastly {A} {s} {Left} {p} holds n t c = record { run = λ i limit e h. go limit h (p i s) (c.run i limit e h) }
    where
      go : (limit : ℕ) → limit ≤ end → (x : Result E A) → Fair number end past limit (λ r. (1 ≤ end) × Left r) x
          → Fair number end past limit Left (then (λ a. here >>= λ k. checked holds n (k - 1) a) x)
      go limit h (ok a j r) f = choice (holds a)
        where
          choice : (b : Bool) → Fair number end past limit Left (then (λ u. give a) (cond b (ok (tt {0}) j r) (refuse n (j - 1))))
          choice true = (f.0, f.1.1)
          choice false = (t, omega arith)
      go limit h (refuse m k) f = f

  -- a rule of the whole, at the place after it
  pub keeps_checked : {A : Type 0} {s : List E} (holds : A → Bool) (n : ℕ) (a : A) → T (number n) → 1 ≤ past n → Keeps number end past s (here >>= λ k. checked holds n k a) (λ r. length r ≡ length s)
  keeps_checked {s = s} holds n a t l = record { run = λ i limit e h. choice i limit e h (holds a) }
    where
      choice : (i limit : ℕ) → i + length s ≡ limit → limit ≤ end → (b : Bool)
          → Fair number end past limit (λ r. length r ≡ length s) (then (λ u. give a) (cond b (ok (tt {0}) i s) (refuse n i)))
      choice i limit e h true = (e, refl)
      choice i limit e h false = (t, omega arith)

  -- an element
  pub keeps_element : {A : Type 0} {n : ℕ} (fields : E → A) (tests : E → List Test) {s : List E} → There number past n tests s → Keeps number end past s (element n fields tests) (λ r. suc (length r) ≡ length s)
  keeps_element fields tests {s = []} c = record { run = λ i limit e h. (c.0, omega arith) }
  keeps_element fields tests {s = x ∷ r} c = record { run = λ i limit e h. go i limit e (omega arith) (tests x) (c.1 x) }
    where
      go : (i limit : ℕ) → i + suc (length r) ≡ limit → i < end → (ts : List Test) → Numbered number ts → Fair number end past limit (λ t. suc (length t) ≡ suc (length r)) (judge ts (fields x) i r)
      go i limit e h [] u = (omega arith, refl)
      go i limit e h (t ∷ ts) u = either (Fair number end past limit _) t.holds (go i limit e h ts u.1) (u.0, omega arith)

  module _ {A B : Type 0} {n : ℕ} (fields : E → A) (tests : E → List Test) {s : List E} {Left : List E → Type 0} (c : There number past n tests s) where
    -- an element and what follows it
    pub keeps_next : {q : A → Parser E B} → ((a : A) (r : List E) → suc (length r) ≡ length s → Keeps number end past r (q a) Left) → Keeps number end past s (element n fields tests >>= q) Left
    keeps_next = keeps_bind (keeps_element fields tests c)

    -- the same, where what follows uses the element's place
    pub keeps_here : {q : ℕ → A → Parser E B} → ((k : ℕ) → k < end → (a : A) (r : List E) → suc (length r) ≡ length s → Keeps number end past r (q k a) Left)
        → Keeps number end past s (here >>= λ k. element n fields tests >>= q k) Left
    keeps_here d = record { run = λ i limit e h. (keeps_next (λ a r l. d i (omega arith) a r l)).run i limit e h }

  -- what is within must leave nothing, and may show a `Fact`
  pub keeps_within : {A : Type 0} {s : List E} (n k m : ℕ) (p : Parser E A) (Fact : Type 0) → T (number n) → k < end
      → ((t : List E) → length t ≡ m → Keeps number end past t p (λ r. (length r ≡ 0) × Fact)) → Keeps number end past s (within n k m p) (λ r. (length r + m ≡ length s) × Fact)
  keeps_within {A} {s} n k m p Fact t l c = record { run = λ i limit e h. go i limit e h (leb m (length s)) refl }
    where
      fill : (i limit : ℕ) → i + length s ≡ limit → m ≤ length s → (x : Result E A) → Fair number end past (i + m) (λ r. (length r ≡ 0) × Fact) x
          → Fair number end past limit (λ r. (length r + m ≡ length s) × Fact) (filled (drop m s) x)
      fill i limit e h (ok a j []) f = let d = length-drop m s in (omega arith, (omega arith, f.1.1))
      fill i limit e h (ok a j (x ∷ r)) f = absurd (omega arith)
      fill i limit e h (refuse n k) f = f

      go : (i limit : ℕ) → i + length s ≡ limit → limit ≤ end → (b : Bool) → leb m (length s) ≡ b
          → Fair number end past limit (λ r. (length r + m ≡ length s) × Fact) (cond b (filled (drop m s) (p i (take m s))) (refuse n k))
      go i limit e h false q = (t, omega arith)
      go i limit e h true q =
          let z = leb-true m (length s) q in
          let u : length (take m s) ≡ m = omega (arith, length-take m s) in
          fill i limit e z (p i (take m s)) ((c (take m s) u).run i (i + m) (omega arith) (omega arith))

  -- one or the other, by a test
  keeps_choice : {A : Type 0} {s : List E} {Left : List E → Type 0} {p q : Parser E A} (b : Bool) → (T b → Keeps number end past s p Left) → (T (not b) → Keeps number end past s q Left)
      → Keeps number end past s (λ i r. cond b (p i r) (q i r)) Left
  keeps_choice true c d = record { run = (c tt).run }
  keeps_choice false c d = record { run = (d tt).run }

  -- a part that may be absent
  pub keeps_optionally : {A : Type 0} {s : List E} {Left : List E → Type 0} (looks : List E → Bool) (p : Parser E A)
      → (T (looks s) → Keeps number end past s p Left) → (T (not (looks s)) → Left s) → Keeps number end past s (optionally looks p) Left
  keeps_optionally {s = s} looks p c d = record { run = (keeps_choice (looks s) (λ t. keeps_map some (c t)) (λ t. keeps_give {a = none} (d t))).run }

-- n items: `Fit n` holds where n are still to come
pub keeps_times : {E St A : Type 0} {number : ℕ → Bool} {end : ℕ} {past : ℕ → ℕ} (item : St → Parser E A) (next : St → A → St) (Fit : ℕ → List E → Type 0)
    → ((n : ℕ) (st : St) (s : List E) → Fit (suc n) s → Keeps number end past s (item st) (Fit n))
    → (n : ℕ) (st : St) (s : List E) → Fit n s → Keeps number end past s (times item next n st) (Fit 0)
keeps_times item next Fit c zero st s g = keeps_give g
keeps_times item next Fit c (suc n) st s g = keeps_bind (c n st s g) (λ a r f. keeps_map (a ∷◌) (keeps_times item next Fit c n (next st a) r f))

-- Items up to a stop, which holds at the end: each takes an element or more, and `Fit` stays true of what is left. So the fuel lasts.
module _ {E St A : Type 0} {number : ℕ → Bool} {end : ℕ} {past : ℕ → ℕ} (item : St → Parser E A) (next : St → A → St) (stop : List E → Bool) (halt : T (stop []))
    (Fit : List E → Type 0) (c : (st : St) (s : List E) → Fit s → 1 ≤ length s → Keeps number end past s (item st) (λ r. (length r < length s) × Fit r)) where
  keeps_up_to : (f : ℕ) (st : St) (s : List E) → Fit s → length s ≤ f → Keeps number end past s (up_to item next stop f st) (λ r. T (stop r) × Fit r)
  keeps_up_to zero st [] g l = record { run = λ i limit e h. rw (T_true (stop []) halt) (e, (halt, g)) }
  keeps_up_to zero st (x ∷ s) g l = absurd (omega arith)
  keeps_up_to (suc f) st [] g l = record { run = λ i limit e h. rw (T_true (stop []) halt) (e, (halt, g)) }
  keeps_up_to (suc f) st (x ∷ s) g l = record {
    run = (keeps_choice (stop (x ∷ s)) (λ t. keeps_give {a = []} (t, g))
        (λ t. keeps_bind (c st (x ∷ s) g (omega arith)) (λ a r m. keeps_map (a ∷◌) (keeps_up_to f (next st a) r m.1 (omega arith))))).run;
  }

  pub keeps_many_at : (st : St) (s : List E) → Fit s → Keeps number end past s (many item next stop st) (λ r. T (stop r) × Fit r)
  keeps_many_at st s g = record { run = (keeps_up_to (length s) st s g (omega arith)).run }

-- up to the end: nothing is left
pub keeps_many : {E St A : Type 0} {number : ℕ → Bool} {end : ℕ} {past : ℕ → ℕ} (item : St → Parser E A) (next : St → A → St) (Fit : List E → Type 0)
    → ((st : St) (s : List E) → Fit s → 1 ≤ length s → Keeps number end past s (item st) (λ r. (length r < length s) × Fit r))
    → (st : St) (s : List E) → Fit s → Keeps number end past s (many item next ended st) (λ r. length r ≡ 0)
keeps_many item next Fit c st s g = keeps_left (keeps_many_at item next ended tt Fit c st s g) (λ r h. ap length (nil r h.0))

module _ {E A : Type 0} {number : ℕ → Bool} {end : ℕ} {past : ℕ → ℕ} {s : List E} {p : Parser E A} {Left : List E → Type 0} (c : Keeps number end past s p Left) where
  pub keeps_ok : (i : ℕ) (a : A) (j : ℕ) (r : List E) → i + length s ≤ end → p i s ≡ ok a j r → Left r
  keeps_ok i a j r h e = (subst (Fair number end past (i + length s) Left) e (c.run i (i + length s) refl h)).1

  -- the refusals of a whole input, from place 0
  pub keeps_outcome : {B : Type 0} → length s ≤ end → (f : A → List B) (n k : ℕ) → outcome (λ a. done (f a)) (p 0 s) ≡ refused n k → T (number n) × (k < end + past n)
  keeps_outcome l f n k = go (p 0 s) (c.run 0 (length s) (omega arith) l)
    where
      go : (x : Result E A) → Fair number end past (length s) Left x → outcome (λ a. done (f a)) x ≡ refused n k → T (number n) × (k < end + past n)
      go (ok a j r) g e = impossible cc
      go (refuse m j) g e = let u : m ≡ n = cc in let v : j ≡ k = cc in rw (← u, ← v) g
