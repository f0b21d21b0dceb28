-- Words that fit a width, over any width.
-- Assumes nothing.
use Prim.Native.Nat.{ℕ, ◌^◌, ◌<◌}
use native.Mathlib.Omega.{arith}
use mathlib.Core.List.{List, [], ◌∷◌, ◌++◌, map}
use lib.Dec.{T, ltb}
use lib.ListN.{length, length-append}
use Rattle.event.specs.Parser.{Passed, Goods, All, each}
use Rattle.event.specs.Words.{below_checks}
use Rattle.event.proofs.Elements.{each_map}

pub all_append : {A : Type 0} (P : A → Type 0) (xs ys : List A) → All P xs → All P ys → All P (xs ++ ys)
all_append P [] ys a b = b
all_append P (x ∷ xs) ys a b = (a.0, all_append P xs ys a.1 b)

abbrev pub Narrow : (bits : ℕ) → ℕ → Type 0
Narrow bits w = T (ltb w (2 ^ bits))

-- Words that fit if they are fewer than 2 ^ bits. So a length word needs no bound of its own: it is the number of the words of its frame.
pub record Fit (bits : ℕ) (ws : List ℕ) : Type 0 where
  pub fit : length ws < 2 ^ bits → All (Narrow bits) ws

module _ {bits : ℕ} where
  -- words known to fit: the passed tests of whole words are such an `All` as they stand
  pub known : (ws : List ℕ) → All (Narrow bits) ws → Fit bits ws
  known ws a = record { fit = λ n. a }

  pub word : {ws : List ℕ} (w : ℕ) → Narrow bits w → Fit bits ws → Fit bits (w ∷ ws)
  word w a f = record { fit = λ n. (a, f.fit (omega arith)) }

  pub joined : {xs ys : List ℕ} → Fit bits xs → Fit bits ys → Fit bits (xs ++ ys)
  joined {xs} {ys} f g = let l = length-append xs ys in record { fit = λ n. all_append (Narrow bits) xs ys (f.fit (omega arith)) (g.fit (omega arith)) }

  -- words of which only the width is asked
  pub wholes : (ws : List ℕ) → All (λ w. Passed (below_checks 0 (2 ^ bits) w)) ws → Fit bits ws
  wholes [] a = known [] tt
  wholes (w ∷ ws) a = word w a.0.0 (wholes ws a.1)

  -- items, each good in its state
  module _ {St A : Type 0} {Good : St → A → Type 0} (next : St → A → St) where
    pub items : (print : A → List ℕ) → ((st : St) (a : A) → Good st a → Fit bits (print a)) → (st : St) (xs : List A) → Goods Good next st xs → Fit bits (each print xs)
    items print h st [] g = known [] tt
    items print h st (x ∷ xs) g = joined (h st x g.0) (items print h (next st x) xs g.1)

    pub item_words : (print : A → ℕ) → ((st : St) (a : A) → Good st a → Narrow bits (print a)) → (st : St) (xs : List A) → Goods Good next st xs → Fit bits (map print xs)
    item_words print h st xs g = rw (each_map print) at (items (λ a. print a ∷ []) (λ st a v. known _ (h st a v, tt)) st xs g)
