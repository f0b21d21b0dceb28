-- The words of bytes: how many, and a loop that stores them one by one.
-- Assumes nothing.
use Prim.Native.Nat.{ℕ, suc, ◌+◌, ◌*◌, ◌/◌, ◌≤◌, ◌<◌}
use native.Mathlib.Nat.{zero-add}
use native.Mathlib.Omega.{arith}
use mathlib.Core.Path.{◌≡◌, refl, sym, ap, ◌∙◌}
use mathlib.Core.List.{List, [], ◌∷◌}
use lib.ListN.{length, get_or, set, drop, length-drop}
use lib.Seq.{sets, sets-eq, drop-cons}
use Rattle.event.specs.Outcome.{overlaid}
use Rattle.host.specs.Check.{words_of}

pub half_as_many : (bytes : List ℕ) → length (words_of bytes) ≡ length bytes / 2
unfolding words_of
half_as_many [] = refl
half_as_many (x ∷ []) = refl
half_as_many (x ∷ y ∷ bytes) = omega (arith, half_as_many bytes)

short : (l : List ℕ) → length l ≤ 1 → words_of l ≡ []
unfolding words_of
short [] h = refl
short (x ∷ []) h = refl
short (x ∷ y ∷ l) h = absurd (omega arith)

module _ (bytes words₀ : List ℕ) where
  -- i words are stored in `words`: the rest, stored behind them, end as all of them do
  abbrev pub StoredTo : ℕ → List ℕ → Type 0
  StoredTo i words = sets words i (words_of (drop (2 * i) bytes)) ≡ sets words₀ 0 (words_of bytes)

  pub one_more : (i : ℕ) (words : List ℕ) → 2 * i + 1 < length bytes → StoredTo i words
      → StoredTo (i + 1) (set words i (get_or bytes (2 * i) 0 + 256 * get_or bytes (2 * i + 1) 0))
  unfolding words_of
  one_more i words h e =
      let two : 2 * i + 1 ≡ suc (2 * i) = omega arith in
      let four : 2 * (i + 1) ≡ suc (suc (2 * i)) = omega arith in
      let next : i + 1 ≡ suc i = omega arith in
      let low = drop-cons bytes (2 * i) 0 (omega arith) in
      let high = drop-cons bytes (suc (2 * i)) 0 (omega arith) in
      rw (two, four, next) (sym (ap (λ (l : List ℕ). sets words i (words_of l)) (low ∙ ap (get_or bytes (2 * i) 0 ∷◌) high)) ∙ e)

  pub all_stored : (i : ℕ) (words : List ℕ) → length bytes / 2 ≡ i → length bytes / 2 ≤ length words₀ → StoredTo i words → words ≡ overlaid (words_of bytes) words₀
  unfolding words_of
  all_stored i words h l e =
      let last : words_of (drop (2 * i) bytes) ≡ [] = short (drop (2 * i) bytes) (rw length-drop (omega arith)) in
      (rw last at e) ∙ sets-eq (words_of bytes) words₀ 0 (omega (arith, half_as_many bytes)) ∙ rw zero-add
