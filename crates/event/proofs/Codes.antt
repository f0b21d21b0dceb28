-- A parser that codes a printer: sound and complete at once, with a rule for each way to build a parser.
-- Assumes nothing.
use Prim.Native.Nat.{ℕ, suc, ◌+◌}
use native.Mathlib.Omega.{arith}
use mathlib.Core.Path.{◌≡◌, refl, ap, sym, ◌∙◌}
use mathlib.Core.Bool.{Bool, true, false, cond, not}
use mathlib.Core.List.{List, [], ◌∷◌, ◌++◌, append-nil}
use lib.Dec.{T, leb}
use lib.ListN.{length, take, drop, length-append, length-take, take-append-drop}
use lib.Seq.{take_at, drop_at}
use borrow.Author.Tests.{leb-true, le-leb}
use Rattle.event.specs.Parser.{Result, ok, refuse, Parser, Test, Passed, ended, ◌>>=◌, ◌>>◌, give, here, require, finish, checked, judge, element, filled, within}
use Rattle.event.proofs.Impossible.{impossible}

-- A success leaves a good value, printed in front of the rest, and the place is as many elements on;
-- a good value printed is read back, given what may follow (`Rest`).
pub record Codes {E A : Type 0} (Rest : List E → Type 0) (p : Parser E A) (print : A → List E) (Good : A → Type 0) : Type 0 where
  pub sound : (i : ℕ) (s : List E) (a : A) (j : ℕ) (r : List E) → p i s ≡ ok a j r → Good a × (s ≡ print a ++ r) × (j ≡ i + length (print a))
  pub complete : (a : A) → Good a → (i : ℕ) (r : List E) → Rest r → (j : ℕ) × (p i (print a ++ r) ≡ ok a j r)

abbrev pub any : {E : Type 0} → List E → Type 0
any r = Unit {0}

pub T_true : (b : Bool) → T b → b ≡ true
T_true true t = refl
T_true false t = absurd t

pub true_T : (b : Bool) → b ≡ true → T b
true_T true e = tt
true_T false e = impossible cc

pub not-true : (b : Bool) → T (not b) → b ≡ false
not-true true t = absurd t
not-true false t = refl

-- `T (stop r)` as what may follow
abbrev pub At : {E : Type 0} → (List E → Bool) → List E → Type 0
At stop r = T (stop r)

pub nil : {E : Type 0} (r : List E) → T (ended r) → r ≡ []
nil [] t = refl
nil (x ∷ r) t = absurd t

module _ {E A : Type 0} where
  -- two printed values with fitting rests, one input: they are the same
  pub unique : {Rest : List E → Type 0} {p : Parser E A} {print : A → List E} {Good : A → Type 0} → Codes Rest p print Good
      → (a b : A) → Good a → Good b → (s t : List E) → Rest s → Rest t → print a ++ s ≡ print b ++ t → (a ≡ b) × (s ≡ t)
  unique {p = p} c a b ga gb s t rs rt e =
      let ca = c.complete a ga 0 s rs in
      let cb = c.complete b gb 0 t rt in
      let h : ok a ca.0 s ≡ ok b cb.0 t = sym ca.1 ∙ ap (p 0) e ∙ cb.1 in
      (cc, cc)

  pub same : {Rest : List E → Type 0} {p : Parser E A} {print print' : A → List E} {Good Good' : A → Type 0} → Codes Rest p print Good
      → ((a : A) → Good a → Good' a) → ((a : A) → Good' a → Good a) → ((a : A) → Good a → print a ≡ print' a) → Codes Rest p print' Good'
  same {p = p} c to from eq = record {
    sound = λ i s a j r e. let h = c.sound i s a j r e in (to a h.0, h.1 ∙ ap (◌++ r) (eq a h.0), h.2 ∙ ap (λ (l : List E). i + length l) (eq a h.0));
    complete = λ a g i r rr. let h = c.complete a (from a g) i r rr in (h.0, sym (ap (λ (l : List E). p i (l ++ r)) (eq a (from a g))) ∙ h.1);
  }

  -- less may follow
  pub less : {Rest Rest' : List E → Type 0} {p : Parser E A} {print : A → List E} {Good : A → Type 0} → Codes Rest p print Good
      → ((r : List E) → Rest' r → Rest r) → Codes Rest' p print Good
  less c f = record { sound = c.sound; complete = λ a g i r rr. c.complete a g i r (f r rr) }

  pub codes_give : (a : A) → Codes {E = E} any (give a) (λ b. []) (λ b. b ≡ a)
  codes_give a = record { sound = λ i s b j r e. let p : i ≡ j = cc in (cc, cc, omega arith); complete = λ b g i r rr. (i, cc) }

  pub codes_here : {Rest : List E → Type 0} {p : ℕ → Parser E A} {print : A → List E} {Good : A → Type 0} → ((k : ℕ) → Codes Rest (p k) print Good) → Codes Rest (here >>= p) print Good
  codes_here c = record { sound = λ i. (c i).sound i; complete = λ a g i. (c i).complete a g i }

  judge_sound : (ts : List Test) (a : A) (i : ℕ) (s : List E) (b : A) (j : ℕ) (r : List E) → judge ts a i s ≡ ok b j r → Passed ts × (a ≡ b) × (s ≡ r) × (j ≡ suc i)
  judge_sound [] a i s b j r e = (tt, cc, cc, cc)
  judge_sound (t ∷ ts) a i s b j r e = go (judge_sound ts a i s b j r) t.holds refl e
    where
      go : (judge ts a i s ≡ ok b j r → Passed ts × (a ≡ b) × (s ≡ r) × (j ≡ suc i)) → (x : Bool) → t.holds ≡ x → cond x (judge ts a i s) (refuse t.number i) ≡ ok b j r → (T t.holds × Passed ts) × (a ≡ b) × (s ≡ r) × (j ≡ suc i)
      go ih₁ true h k = let ih = ih₁ k in ((true_T t.holds h, ih.0), ih.1, ih.2, ih.3)
      go ih₁ false h k = impossible cc

  pub judge_complete : (ts : List Test) (a : A) (i : ℕ) (r : List E) → Passed ts → judge ts a i r ≡ ok a (suc i) r
  judge_complete [] a i r p = refl
  judge_complete (t ∷ ts) a i r p = rw (T_true t.holds p.0) (judge_complete ts a i r p.1)

  -- an element: the tests ensure the layout, and pass on a printed good value
  pub codes_element : (e : ℕ) (fields : E → A) (tests : E → List Test) (print : A → E) (Good : A → Type 0)
      → ((x : E) → Passed (tests x) → Good (fields x) × (x ≡ print (fields x)))
      → ((a : A) → Good a → (fields (print a) ≡ a) × Passed (tests (print a)))
      → Codes any (element e fields tests) (λ a. print a ∷ []) Good
  codes_element e fields tests print Good to from = record { sound = snd; complete = cmp }
    where
      snd : (i : ℕ) (s : List E) (a : A) (j : ℕ) (r : List E) → element e fields tests i s ≡ ok a j r → Good a × (s ≡ print a ∷ r) × (j ≡ i + 1)
      snd i [] a j r k = impossible cc
      snd i (x ∷ s) a j r k =
          let h = judge_sound (tests x) (fields x) i s a j r k in
          let g = to x h.0 in
          (rw h.1 at g.0, cc, omega (arith, h.3))

      cmp : (a : A) → Good a → (i : ℕ) (r : List E) → Unit {0} → (j : ℕ) × (element e fields tests i (print a ∷ r) ≡ ok a j r)
      cmp a g i r u = let h = from a g in (suc i, judge_complete (tests (print a)) (fields (print a)) i r h.1 ∙ ap (λ (b : A). ok b (suc i) r) h.0)

  pub codes_cond : {Rest : List E → Type 0} {p q : Parser E A} {print : A → List E} {Good : A → Type 0} (b : Bool)
      → (b ≡ true → Codes Rest p print Good) → (b ≡ false → Codes Rest q print Good) → Codes Rest (cond b p q) print Good
  codes_cond true c d = c refl
  codes_cond false c d = d refl

  filled_ok : (rest : List E) (x : Result E A) (a : A) (j : ℕ) (r : List E) → filled rest x ≡ ok a j r → (x ≡ ok a j []) × (rest ≡ r)
  filled_ok rest (ok b k []) a j r e = (cc, cc)
  filled_ok rest (ok b k (y ∷ t)) a j r e = impossible cc
  filled_ok rest (refuse n k) a j r e = impossible cc

  pub codes_within : {p : Parser E A} {print : A → List E} {Good : A → Type 0} (n k m : ℕ) → Codes (At ended) p print Good
      → Codes any (within n k m p) print (λ a. Good a × (length (print a) ≡ m))
  codes_within {p = p} {print = print} {Good = Good} n k m c = record { sound = snd; complete = cmp }
    where
      snd : (i : ℕ) (s : List E) (a : A) (j : ℕ) (r : List E) → within n k m p i s ≡ ok a j r → (Good a × (length (print a) ≡ m)) × (s ≡ print a ++ r) × (j ≡ i + length (print a))
      snd i s a j r = go (leb m (length s)) refl
        where
          go : (x : Bool) → leb m (length s) ≡ x → cond x (filled (drop m s) (p i (take m s))) (refuse n k) ≡ ok a j r → (Good a × (length (print a) ≡ m)) × (s ≡ print a ++ r) × (j ≡ i + length (print a))
          go false l e = impossible cc
          go true l e =
              let f = filled_ok (drop m s) (p i (take m s)) a j r e in
              let h = c.sound i (take m s) a j [] f.0 in
              let w : take m s ≡ print a = h.1 ∙ append-nil (print a) in (
                (h.0, omega (arith, ap length w, length-take m s, leb-true m (length s) l)),
                sym (take-append-drop m s) ∙ ap (◌++ drop m s) w ∙ ap (print a ++◌) f.1,
                h.2,
              )

      cmp : (a : A) → Good a × (length (print a) ≡ m) → (i : ℕ) (r : List E) → Unit {0} → (j : ℕ) × (within n k m p i (print a ++ r) ≡ ok a j r)
      cmp a g i r u =
          let h = c.complete a g.0 i [] tt in
          let l = le-leb m (length (print a ++ r)) (omega (arith, g.1, length-append (print a) r)) in
          let e : p i (print a) ≡ ok a h.0 [] = rw append-nil at h.1 in
          (h.0, rw (l, take_at (print a) r m g.1, drop_at (print a) r m g.1, e))

pub codes_require : {E : Type 0} (b : Bool) (n k : ℕ) → Codes {E = E} any (require b n k) (λ u. []) (λ u. T b)
codes_require true n k = record { sound = λ i s a j r e. let p : i ≡ j = cc in (tt, cc, omega arith); complete = λ a g i r rr. (i, refl) }
codes_require false n k = record { sound = λ i s a j r e. impossible cc; complete = λ a g. absurd g }

pub codes_finish : {E : Type 0} (n : ℕ) → Codes {E = E} (At ended) (finish n) (λ u. []) (λ u. Unit {0})
codes_finish {E} n = record { sound = λ i s a j r e. let h = (codes_require (ended s) n i).sound i s a j r e in (tt, h.1, h.2); complete = cmp }
  where
    cmp : (u : Unit {0}) → Unit {0} → (i : ℕ) (r : List E) → T (ended r) → (j : ℕ) × (finish n i r ≡ ok u j r)
    cmp u g i [] t = (i, refl)
    cmp u g i (x ∷ r) t = absurd t

pub codes_checked : {E A : Type 0} (holds : A → Bool) (n k : ℕ) (a : A) → Codes {E = E} any (checked holds n k a) (λ b. []) (λ b. (b ≡ a) × T (holds a))
codes_checked holds n k a = go (holds a)
  where
    go : {E A : Type 0} {a : A} (b : Bool) → Codes {E = E} any (require b n k >> give a) (λ c. []) (λ c. (c ≡ a) × T b)
    go true = record { sound = λ i s c j r e. let p : i ≡ j = cc in ((cc, tt), cc, omega arith); complete = λ c g i r u. (i, ap (λ x. ok x i r) (sym g.0)) }
    go false = record { sound = λ i s c j r e. impossible cc; complete = λ c g. absurd g.1 }
