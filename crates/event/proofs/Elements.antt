-- Words and rows with fields, coded by what their fields print.
-- Assumes nothing.
use Prim.Native.Nat.{ℕ, ◌*◌, ◌≤◌}
use native.Mathlib.Omega.{arith}
use mathlib.Core.Path.{◌≡◌, refl, ap}
use mathlib.Core.Bool.{Bool, true, false, ◌&&◌}
use mathlib.Core.List.{List, [], ◌∷◌, ◌++◌, map, append_assoc}
use lib.Dec.{T, eqb, leb, leb→le, eqb→eq, eqb_refl}
use lib.ListN.{length, length-append}
use borrow.Author.Tests.{le-leb}
use Rattle.event.specs.Parser.{Parser, Test, test, Passed, prints, Goods, each, All, alone, several}
use Rattle.event.specs.Words.{layout, word_alone, exactly, any_word, between, below_checks, word_below}
use Rattle.event.proofs.Codes.{Codes, any, At, same, codes_element}
use Rattle.event.proofs.Many.{codes_many_at}

pub codes_layout : {A : Type 0} (n : ℕ) (fields : ℕ → A) (print : A → ℕ) (checks : A → List Test)
    → ((a : A) → Passed (checks a) → fields (print a) ≡ a) → Codes any (layout n fields print checks) (λ a. print a ∷ []) (λ a. Passed (checks a))
codes_layout n fields print checks back = codes_element n fields (λ w. test n (eqb w (print (fields w))) ∷ checks (fields w)) print (λ a. Passed (checks a))
    (λ w p. (p.1, eqb→eq w (print (fields w)) p.0))
    (λ a g. (back a g, rw (back a g) (eqb_refl (print a), g)))

pub codes_exactly : (n v : ℕ) → Codes any (exactly n v) (λ u. v ∷ []) (λ u. Unit {0})
codes_exactly n v = codes_layout n (λ w. tt) (λ u. v) (λ u. []) (λ u p. refl)

pub codes_any : (n : ℕ) → Codes any (any_word n) (λ w. w ∷ []) (λ w. Unit {0})
codes_any n = codes_layout n (λ w. w) (λ w. w) (λ w. []) (λ w p. refl)

pub codes_below : (n bound : ℕ) → Codes any (word_below n bound) (λ w. w ∷ []) (λ w. Passed (below_checks 0 bound w))
codes_below n bound = codes_layout n (λ w. w) (λ w. w) (below_checks n bound) (λ w p. refl)

pub both : (a b : Bool) → T (a && b) → T a × T b
both true b t = (tt, t)
both false b t = absurd t

pub bounds : (least most n : ℕ) → T (between least most n) → (least ≤ n) × (n ≤ most)
bounds least most n t = let h = both (leb least n) (leb n most) t in (leb→le least n h.0, leb→le n most h.1)

pub is_between : (least most n : ℕ) → least ≤ n → n ≤ most → between least most n ≡ true
is_between least most n a b = rw (le-leb least n a, le-leb n most b)

pub in_between : (least most n : ℕ) → least ≤ n → n ≤ most → T (between least most n)
in_between least most n a b = rw (is_between least most n a b) tt

pub prints_map : {E St A : Type 0} (f : A → E) (next : St → A → St) (st : St) (xs : List A) → prints (λ t a. f a ∷ []) next st xs ≡ map f xs
prints_map f next st [] = refl
prints_map f next st (x ∷ xs) = ap (f x ∷◌) (prints_map f next (next st x) xs)

pub prints_each : {E St A : Type 0} (f : A → List E) (next : St → A → St) (st : St) (xs : List A) → prints (λ t a. f a) next st xs ≡ each f xs
prints_each f next st [] = refl
prints_each f next st (x ∷ xs) = ap (f x ++◌) (prints_each f next (next st x) xs)

-- items whose rules do not look at the state
module _ {St A : Type 0} (Good : A → Type 0) (next : St → A → St) where
  pub goods_all : (st : St) (xs : List A) → Goods (λ s. Good) next st xs → All Good xs
  goods_all st [] g = tt
  goods_all st (x ∷ xs) g = (g.0, goods_all (next st x) xs g.1)

  pub all_goods : (st : St) (xs : List A) → All Good xs → Goods (λ s. Good) next st xs
  all_goods st [] g = tt
  all_goods st (x ∷ xs) g = (g.0, all_goods (next st x) xs g.1)

-- items that do not look at those before them, up to a stop
pub codes_several_at : {E A : Type 0} {Rest : List E → Type 0} {p : Parser E A} {print : A → List E} {Good : A → Type 0} (stop : List E → Bool) → Codes Rest p print Good
    → ((a : A) → Good a → (r : List E) → Rest (print a ++ r)) → ((r : List E) → T (stop r) → Rest r)
    → ((a : A) → Good a → (r : List E) → stop (print a ++ r) ≡ false) → stop [] ≡ true → Codes (At stop) (several p stop) (each print) (All Good)
codes_several_at {print = print} {Good = Good} stop c again last on halt = same (codes_many_at alone (λ u. c) (λ u. again) stop last (λ u. on) halt tt)
    (goods_all Good alone tt) (all_goods Good alone tt) (λ xs g. prints_each print alone tt xs)

pub codes_several : {E A : Type 0} {p : Parser E A} {print : A → List E} {Good : A → Type 0} (stop : List E → Bool) → Codes any p print Good
    → ((a : A) → Good a → (r : List E) → stop (print a ++ r) ≡ false) → stop [] ≡ true → Codes (At stop) (several p stop) (each print) (All Good)
codes_several stop c = codes_several_at stop c (λ a g r. tt) (λ r t. tt)

pub each_map : {E A : Type 0} (f : A → E) (xs : List A) → each (λ a. f a ∷ []) xs ≡ map f xs
each_map f [] = refl
each_map f (x ∷ xs) = ap (f x ∷◌) (each_map f xs)

pub each_alone : (ws : List ℕ) → each word_alone ws ≡ ws
each_alone [] = refl
each_alone (w ∷ ws) = ap (w ∷◌) (each_alone ws)

-- items of m elements each
pub prints_length : {E St A : Type 0} (print : St → A → List E) (next : St → A → St) (m : ℕ) → ((st : St) (a : A) → length (print st a) ≡ m)
    → (st : St) (xs : List A) → length (prints print next st xs) ≡ length xs * m
prints_length print next m one st [] = omega arith
prints_length print next m one st (x ∷ xs) =
    omega (arith, length-append (print st x) (prints print next (next st x) xs), one st x, prints_length print next m one (next st x) xs)

pub each_length : {E A : Type 0} (f : A → List E) (m : ℕ) → ((a : A) → length (f a) ≡ m) → (xs : List A) → length (each f xs) ≡ length xs * m
each_length f m one xs = rw (prints_each f alone tt xs) at (prints_length (λ t. f) alone m (λ t. one) tt xs)

-- what is printed, printed again item by item
pub each_append : {E A : Type 0} (f : A → List E) (xs ys : List A) → each f (xs ++ ys) ≡ each f xs ++ each f ys
each_append f [] ys = refl
each_append f (x ∷ xs) ys = rw (each_append f xs ys, append_assoc)

pub each_prints : {E D St A : Type 0} (f : D → List E) (g : A → List E) (print : St → A → List D) (next : St → A → St) → ((st : St) (a : A) → each f (print st a) ≡ g a)
    → (st : St) (xs : List A) → each f (prints print next st xs) ≡ each g xs
each_prints f g print next same st [] = refl
each_prints f g print next same st (x ∷ xs) = rw (each_append f (print st x) (prints print next (next st x) xs), same st x, each_prints f g print next same (next st x) xs)

pub each_mapped : {E D A : Type 0} (f : D → List E) (g : A → List E) (h : A → D) → ((a : A) → f (h a) ≡ g a) → (xs : List A) → each f (map h xs) ≡ each g xs
each_mapped f g h same [] = refl
each_mapped f g h same (x ∷ xs) = rw (same x, each_mapped f g h same xs)

-- items printed in two ways, each no longer in the first than in the second
pub each_shorter : {E D A : Type 0} (f : A → List E) (g : A → List D) → ((a : A) → length (f a) ≤ length (g a)) → (xs : List A) → length (each f xs) ≤ length (each g xs)
each_shorter f g less [] = omega arith
each_shorter f g less (x ∷ xs) = omega (arith, length-append (f x) (each f xs), length-append (g x) (each g xs), less x, each_shorter f g less xs)
