-- Parsers with refusals, over any element type: words when reading, rows when writing.
-- Assumes nothing.
use Rattle.std.specs.Prelude.{ℕ, zero, suc, ◌-◌, Bool, true, false, cond, ◌&&◌, ◌||◌, not, List, [], ◌∷◌, ◌++◌, T, leb, eqb, length, take, drop}
use Rattle.std.proofs.Math.Option.{Option, some, none}

-- A value with the place and the input after it, or a refusal number and its place.
pub data Result (E A : Type 0) : Type 0 where
  ok : A → ℕ → List E → Result E A
  refuse : (number place : ℕ) → Result E A

-- A parser takes the place of the first element and the elements from there on.
abbrev pub Parser : Type 0 → Type 0 → Type 0
Parser E A = ℕ → List E → Result E A

-- A rule of one element, with the refusal number given where it is the first that fails.
pub record Test : Type 0 where
  pub number : ℕ
  pub holds : Bool

abbrev pub test : ℕ → Bool → Test
test n b = record { number = n; holds = b }

-- every rule holds; the numbers do not matter
abbrev pub Passed : List Test → Type 0
Passed [] = Unit {0}
Passed (t ∷ ts) = T t.holds × Passed ts

-- the number of the first rule that fails, 0 for none
abbrev pub fault_in : List Test → ℕ
fault_in [] = 0
fault_in (t ∷ ts) = cond t.holds (fault_in ts) t.number

abbrev pub ended : {E : Type 0} → List E → Bool
ended [] = true
ended (x ∷ r) = false

module _ {E : Type 0} where
  abbrev pub then : {A B : Type 0} → (A → Parser E B) → Result E A → Result E B
  then q (ok a j r) = q a j r
  then q (refuse n k) = refuse n k

  -- one after the other; the first refusal ends it
  infixl 10 ◌>>=◌
  infixl 10 ◌>>◌
  abbrev pub ◌>>=◌ : {A B : Type 0} → Parser E A → (A → Parser E B) → Parser E B
  ◌>>=◌ p q i s = then q (p i s)

  abbrev pub ◌>>◌ : {A B : Type 0} → Parser E A → Parser E B → Parser E B
  ◌>>◌ p q = p >>= λ a. q

  abbrev pub give : {A : Type 0} → A → Parser E A
  give a i s = ok a i s

  -- the place of the next element
  abbrev pub here : Parser E ℕ
  here i s = ok i i s

  -- refusal n at place k unless the test holds
  abbrev pub require : Bool → ℕ → ℕ → Parser E (Unit {0})
  require b n k i s = cond b (ok tt i s) (refuse n k)

  -- the input ends here: refusal n at one element more
  abbrev pub finish : ℕ → Parser E (Unit {0})
  finish n i s = require (ended s) n i i s

  -- a rule of the whole, after all its parts: refusal n at place k unless it holds
  abbrev pub checked : {A : Type 0} → (A → Bool) → (n k : ℕ) → A → Parser E A
  checked holds n k a = require (holds a) n k >> give a

  -- such a rule, at the place of the last element that `p` took
  abbrev pub lastly : {A : Type 0} → (A → Bool) → (n : ℕ) → Parser E A → Parser E A
  lastly holds n p = p >>= λ a. here >>= λ k. checked holds n (k - 1) a

  -- the first failed test refuses at the element's place
  abbrev pub judge : {A : Type 0} → List Test → A → Parser E A
  judge [] a i r = ok a (suc i) r
  judge (t ∷ ts) a i r = cond t.holds (judge ts a i r) (refuse t.number i)

  -- one element: its fields, and the tests of it; `n` is the refusal at the end of the input
  abbrev pub element : {A : Type 0} → ℕ → (E → A) → (E → List Test) → Parser E A
  element n fields tests i [] = refuse n i
  element n fields tests i (x ∷ r) = judge (tests x) (fields x) i r

  -- the elements after those of `p`'s part; where `p` left some of its part, the refusal is 0, which never shows (each dialect's proofs/Refusals and WritingRefusals)
  abbrev pub filled : {A : Type 0} → List E → Result E A → Result E A
  filled rest (ok a j []) = ok a j rest
  filled rest (ok a j (x ∷ r)) = refuse 0 j
  filled rest (refuse n k) = refuse n k

  -- `p` on exactly the next m elements; refusal n at place k unless so many are there
  abbrev pub within : {A : Type 0} → ℕ → ℕ → ℕ → Parser E A → Parser E A
  within n k m p i s = cond (leb m (length s)) (filled (drop m s) (p i (take m s))) (refuse n k)

  -- `p` where the input looks like it, else nothing
  abbrev pub optionally : {A : Type 0} → (List E → Bool) → Parser E A → Parser E (Option A)
  optionally looks p i s = cond (looks s) ((p >>= λ a. give (some a)) i s) (ok none i s)

-- Items one after another, each under a state that the items before it made.
module _ {E St A : Type 0} (item : St → Parser E A) (next : St → A → St) where
  -- n items
  abbrev pub times : ℕ → St → Parser E (List A)
  times zero st = give []
  times (suc n) st = item st >>= λ a. times n (next st a) >>= λ xs. give (a ∷ xs)

  -- items up to a stop; the fuel bounds their number and never runs out (the refusal 0 never shows)
  abbrev pub up_to : (List E → Bool) → ℕ → St → Parser E (List A)
  up_to stop zero st i s = cond (stop s) (ok [] i s) (refuse 0 i)
  up_to stop (suc f) st i s = cond (stop s) (ok [] i s) ((item st >>= λ a. up_to stop f (next st a) >>= λ xs. give (a ∷ xs)) i s)

  abbrev pub many : (List E → Bool) → St → Parser E (List A)
  many stop st i s = up_to stop (length s) st i s

-- Items that do not look at those before them.
abbrev pub alone : {A : Type 0} → Unit {0} → A → Unit {0}
alone u a = tt

abbrev pub several : {E A : Type 0} → Parser E A → (List E → Bool) → Parser E (List A)
several p stop = many (λ u. p) alone stop tt

-- How a list of items is printed, and when each item is good in its state.
module _ {E St A : Type 0} (print : St → A → List E) (next : St → A → St) where
  abbrev pub prints : St → List A → List E
  prints st [] = []
  prints st (a ∷ xs) = print st a ++ prints (next st a) xs

module _ {St A : Type 0} (Good : St → A → Type 0) (next : St → A → St) where
  abbrev pub Goods : St → List A → Type 0
  Goods st [] = Unit {0}
  Goods st (a ∷ xs) = Good st a × Goods (next st a) xs

abbrev pub each : {A E : Type 0} → (A → List E) → List A → List E
each f [] = []
each f (a ∷ xs) = f a ++ each f xs

abbrev pub All : {A : Type 0} → (A → Type 0) → List A → Type 0
All P [] = Unit {0}
All P (a ∷ xs) = P a × All P xs

-- a part that may be absent
abbrev pub if_any : {A E : Type 0} → (A → List E) → Option A → List E
if_any f none = []
if_any f (some a) = f a

abbrev pub IfAny : {A : Type 0} → (A → Type 0) → Option A → Type 0
IfAny P none = Unit {0}
IfAny P (some a) = P a

-- Keys (channels, GEOs): k is none of those seen; k is one of those allowed.
abbrev pub fresh : ℕ → List ℕ → Bool
fresh k [] = true
fresh k (x ∷ xs) = not (eqb k x) && fresh k xs

abbrev pub member : ℕ → List ℕ → Bool
member k [] = false
member k (x ∷ xs) = eqb k x || member k xs

-- the first item of a list with key k, or `other` where none has it
abbrev pub look_up : {A : Type 0} → (A → ℕ) → (other : A) → List A → ℕ → A
look_up key other [] k = other
look_up key other (x ∷ xs) k = cond (eqb k (key x)) x (look_up key other xs k)
