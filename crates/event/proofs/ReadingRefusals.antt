-- The refusals of a reading, over any dialect: each has a number of the dialect's table and the place of a word of the event (0 where there is none).
-- Assumes nothing.
use Prim.Native.Nat.{ℕ, suc, ◌≤◌, ◌<◌}
use native.Mathlib.Omega.{arith}
use mathlib.Core.Path.{◌≡◌}
use mathlib.Core.Logic.{◌⊎◌, inl, inr}
use mathlib.Core.Bool.{Bool}
use mathlib.Core.List.{List, [], ◌∷◌}
use lib.Dec.{T}
use lib.ListN.{length}
use Rattle.event.specs.Parser.{Parser, ended, many}
use Rattle.event.specs.Outcome.{done, refused, outcome}
use Rattle.event.proofs.Refusals.{Keeps, keeps_left, keeps_many, keeps_outcome}

-- items of one word each, up to the end
pub fills_words : {St A : Type 0} {number : ℕ → Bool} {end : ℕ} {past : ℕ → ℕ} (item : St → Parser ℕ A) (next : St → A → St)
    → ((st : St) (s : List ℕ) → 1 ≤ length s → Keeps number end past s (item st) (λ r. suc (length r) ≡ length s))
    → (st : St) (s : List ℕ) → Keeps number end past s (many item next ended st) (λ r. length r ≡ 0)
fills_words item next c st s = keeps_many item next (λ r. Unit {0}) (λ st s u l. keeps_left (c st s l) (λ r e. omega arith)) st s tt

-- a whole event, whose parser uses no place past the words but 0
pub reading_refused : {A B : Type 0} {number : ℕ → Bool} {Left : List ℕ → Type 0} (p : ℕ → Parser ℕ A) (f : A → List B)
    → ((end : ℕ) (s : List ℕ) → 0 < end → Keeps number end (λ n. 0) s (p (length s)) Left) → (ws : List ℕ) (n k : ℕ) → outcome (λ a. done (f a)) (p (length ws) 0 ws) ≡ refused n k → T (number n) × ((k < length ws) ⊎ (k ≡ 0))
reading_refused p f c [] n k e = let h = keeps_outcome (c 1 [] (omega arith)) (omega arith) f n k e in (h.0, inr (omega arith))
reading_refused p f c (w ∷ ws) n k e = let h = keeps_outcome (c (suc (length ws)) (w ∷ ws) (omega arith)) (omega arith) f n k e in (h.0, inl (omega arith))
