-- The widths of words that there are, and of two buffers the one of the dialect's width: over any dialect, by the width alone.
-- Assumes nothing.
use Prim.Native.Nat.{ℕ, zero, suc, min}
use native.Mathlib.Nat.{zero-min, min-zero, suc-min-suc}
use mathlib.Core.Path.{◌≡◌, refl, ap, ◌∙◌}
use mathlib.Core.Bool.{Bool, true, false, cond}
use mathlib.Core.List.{List, [], ◌∷◌}
use lib.Dec.{eqb}
use lib.ListN.{length, take}
use Rattle.event.specs.Outcome.{overlaid}
use Rattle.dialects.specs.declared.Dialect.{Dialect}
use Rattle.dialects.specs.declared.Dialect.TheVariants.{S, F, R}
use Rattle.dialects.specs.Dialects.{width, of_width, over16, over32}

-- the smaller of a number and a length: no more of the list
take_min : (n : ℕ) (l : List ℕ) → take (min n (length l)) l ≡ take n l
take_min zero l = rw (zero-min (length l))
take_min (suc n) [] = rw (min-zero (suc n))
take_min (suc n) (x ∷ xs) = rw (suc-min-suc n (length xs), take_min n xs)

-- what holds of both widths holds of every dialect's
pub by_width : (P : ℕ → Type 0) → P 16 → P 32 → (d : Dialect) → P (width d)
by_width P short long S = short
by_width P short long F = long
by_width P short long R = short

module _ (d : Dialect) where
  -- words given stand over the buffer of the width
  pub given_over : (ws short long : List ℕ) → of_width d (over16 d ws short) (over32 d ws long) ≡ overlaid ws (of_width d short long)
  given_over ws short long = go (eqb (width d) 16)
    where
      go : (b : Bool) → cond b (cond b (overlaid ws short) short) (cond b long (overlaid ws long)) ≡ overlaid ws (cond b short long)
      go true = refl
      go false = refl

  -- the first n words, where the other buffer may have fewer
  pub first_words : (n : ℕ) (short long : List ℕ) → of_width d (take (min n (length short)) short) (take (min n (length long)) long) ≡ take n (of_width d short long)
  first_words n short long = go (eqb (width d) 16)
    where
      go : (b : Bool) → cond b (take (min n (length short)) short) (take (min n (length long)) long) ≡ take n (cond b short long)
      go true = take_min n short
      go false = take_min n long

  -- words were given, and the first n of the buffer are taken
  pub first_given : (n : ℕ) (ws short long : List ℕ) {i j : ℕ} {short' long' : List ℕ} → i ≡ min n (length short') → j ≡ min n (length long') → short' ≡ over16 d ws short → long' ≡ over32 d ws long
      → of_width d (take i short') (take j long') ≡ take n (overlaid ws (of_width d short long))
  first_given n ws short long {i} {j} {short'} {long'} e f g h =
      let over : of_width d short' long' ≡ overlaid ws (of_width d short long) = rw (g, h) (given_over ws short long) in
      let front : of_width d (take i short') (take j long') ≡ take n (of_width d short' long') = rw (e, f) (first_words n short' long') in
      front ∙ ap (take n) over
