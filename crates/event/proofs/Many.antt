-- Items one after another up to a stop: their code, and the equation that a loop over them uses.
-- Assumes nothing.
use Prim.Native.Nat.{ℕ, zero, suc, ◌+◌, ◌≤◌}
use native.Mathlib.Omega.{arith}
use mathlib.Core.Path.{◌≡◌, refl, ap, sym, ◌∙◌}
use mathlib.Core.Bool.{Bool, true, false, cond}
use mathlib.Core.List.{List, [], ◌∷◌, ◌++◌, append_assoc}
use lib.Dec.{T}
use lib.ListN.{length, length-append}
use Rattle.event.specs.Parser.{Result, ok, refuse, Parser, then, ◌>>=◌, give, times, up_to, many, prints, Goods}
use Rattle.event.proofs.Codes.{Codes, any, At, T_true}
use Rattle.event.proofs.Impossible.{impossible}

-- a success of `one more item`, taken apart
record Cons {E A : Type 0} (x : Result E A) (more : A → Parser E (List A)) (ys : List A) (j : ℕ) (r : List E) : Type 0 where
  head : A
  at : ℕ
  input : List E
  tail : List A
  first : x ≡ ok head at input
  others : more head at input ≡ ok tail j r
  made : ys ≡ head ∷ tail

cons_inv : {E A : Type 0} (x : Result E A) (more : A → Parser E (List A)) (ys : List A) (j : ℕ) (r : List E)
    → then (λ a. more a >>= λ xs. give (a ∷ xs)) x ≡ ok ys j r → Cons x more ys j r
cons_inv (refuse n k) more ys j r e = impossible cc
cons_inv {E} {A} (ok a k t) more ys j r e = go (more a k t) refl e
  where
    go : (y : Result E (List A)) → more a k t ≡ y → then (λ xs. give (a ∷ xs)) y ≡ ok ys j r → Cons (ok a k t) more ys j r
    go (refuse n m) h f = impossible cc
    go (ok xs m u) h f = record { head = a; at = k; input = t; tail = xs; first = refl; others = cc; made = cc }

-- Items: `Rest` may follow an item, and does where another item comes.
module _ {E St A : Type 0} {Rest : List E → Type 0} {item : St → Parser E A} {print : St → A → List E} {Good : St → A → Type 0} (next : St → A → St)
    (c : (st : St) → Codes Rest (item st) (print st) (Good st)) (again : (st : St) (a : A) → Good st a → (r : List E) → Rest (print st a ++ r)) where
  follow : (st : St) (xs : List A) → Goods Good next st xs → (r : List E) → Rest r → Rest (prints print next st xs ++ r)
  follow st [] g r rr = rr
  follow st (x ∷ xs) g r rr = rw append_assoc (again st x g.0 (prints print next (next st x) xs ++ r))

  cons_sound : (st : St) (i : ℕ) (s : List E) (more : A → Parser E (List A)) (ys : List A) (j : ℕ) (r : List E) (h : Cons (item st i s) more ys j r)
      → Goods Good next (next st h.head) h.tail → h.input ≡ prints print next (next st h.head) h.tail ++ r → j ≡ h.at + length (prints print next (next st h.head) h.tail)
      → Goods Good next st ys × (s ≡ prints print next st ys ++ r) × (j ≡ i + length (prints print next st ys))
  cons_sound st i s more ys j r h g e l =
      let k = (c st).sound i s h.head h.at h.input h.first in
      rw h.made (
        (k.0, g),
        k.1 ∙ ap (print st h.head ++◌) e ∙ sym (append_assoc (print st h.head) (prints print next (next st h.head) h.tail) r),
        omega (arith, l, k.2, length-append (print st h.head) (prints print next (next st h.head) h.tail)),
      )

  cons_complete : (st : St) (a : A) (xs : List A) (more : A → Parser E (List A)) → Good st a → Goods Good next (next st a) xs → (i : ℕ) (r : List E) → Rest r
      → ((k : ℕ) → (j : ℕ) × (more a k (prints print next (next st a) xs ++ r) ≡ ok xs j r))
      → (j : ℕ) × ((item st >>= λ b. more b >>= λ ys. give (b ∷ ys)) i (prints print next st (a ∷ xs) ++ r) ≡ ok (a ∷ xs) j r)
  cons_complete st a xs more g gs i r rr ih =
      let h = (c st).complete a g i (prints print next (next st a) xs ++ r) (follow (next st a) xs gs r rr) in
      let k = ih h.0 in
      (k.0, rw (append_assoc, h.1, k.1))

  times_sound : (n : ℕ) (st : St) (i : ℕ) (s : List E) (ys : List A) (j : ℕ) (r : List E) → times item next n st i s ≡ ok ys j r
      → ((length ys ≡ n) × Goods Good next st ys) × (s ≡ prints print next st ys ++ r) × (j ≡ i + length (prints print next st ys))
  times_sound zero st i s ys j r e = let h : ys ≡ [] = cc in let p : i ≡ j = cc in rw h ((refl, tt), cc, omega arith)
  times_sound (suc n) st i s ys j r e =
      let h = cons_inv (item st i s) (λ a. times item next n (next st a)) ys j r e in
      let ih = times_sound n (next st h.head) h.at h.input h.tail j r h.others in
      let k = cons_sound st i s _ ys j r h ih.0.1 ih.1 ih.2 in
      ((ap length h.made ∙ ap suc ih.0.0, k.0), k.1, k.2)

  times_complete : (n : ℕ) (st : St) (xs : List A) → (length xs ≡ n) × Goods Good next st xs → (i : ℕ) (r : List E) → Rest r
      → (j : ℕ) × (times item next n st i (prints print next st xs ++ r) ≡ ok xs j r)
  times_complete zero st [] g i r rr = (i, refl)
  times_complete zero st (x ∷ xs) g i r rr = absurd (omega arith)
  times_complete (suc n) st [] g i r rr = absurd (omega arith)
  times_complete (suc n) st (x ∷ xs) g i r rr =
      cons_complete st x xs (λ a. times item next n (next st a)) g.1.0 g.1.1 i r rr (λ k. times_complete n (next st x) xs (omega arith, g.1.1) k r rr)

  codes_times_at : (n : ℕ) (st : St) → Codes Rest (times item next n st) (prints print next st) (λ xs. (length xs ≡ n) × Goods Good next st xs)
  codes_times_at n st = record { sound = times_sound n st; complete = times_complete n st }

  module _ (stop : List E → Bool) where
    stopped : (st : St) (i : ℕ) (s : List E) (ys : List A) (j : ℕ) (r : List E) → stop s ≡ true → ◌≡◌ {A = Result E (List A)} (ok [] i s) (ok ys j r)
        → Goods Good next st ys × (s ≡ prints print next st ys ++ r) × (j ≡ i + length (prints print next st ys))
    stopped st i s ys j r h k =
        let e : ys ≡ [] = cc in
        let p : i ≡ j = cc in
        rw e (tt, cc, omega arith)

    up_to_sound : (f : ℕ) (st : St) (i : ℕ) (s : List E) (ys : List A) (j : ℕ) (r : List E) → up_to item next stop f st i s ≡ ok ys j r
        → Goods Good next st ys × (s ≡ prints print next st ys ++ r) × (j ≡ i + length (prints print next st ys))
    up_to_sound zero st i s ys j r e = go (stop s) refl e
      where
        go : (x : Bool) → stop s ≡ x → cond x (ok [] i s) (refuse 0 i) ≡ ok ys j r
            → Goods Good next st ys × (s ≡ prints print next st ys ++ r) × (j ≡ i + length (prints print next st ys))
        go true h k = stopped st i s ys j r h k
        go false h k = impossible cc
    up_to_sound (suc f) st i s ys j r e = go (λ h. up_to_sound f (next st h.head) h.at h.input h.tail j r h.others) (stop s) refl e
      where
        go : ((h : Cons (item st i s) (λ a. up_to item next stop f (next st a)) ys j r) → Goods Good next (next st h.head) h.tail × (h.input ≡ prints print next (next st h.head) h.tail ++ r) × (j ≡ h.at + length (prints print next (next st h.head) h.tail)))
            → (x : Bool) → stop s ≡ x → cond x (ok [] i s) ((item st >>= λ a. up_to item next stop f (next st a) >>= λ xs. give (a ∷ xs)) i s) ≡ ok ys j r
            → Goods Good next st ys × (s ≡ prints print next st ys ++ r) × (j ≡ i + length (prints print next st ys))
        go ih true h k = stopped st i s ys j r h k
        go ih false h k =
            let m = cons_inv (item st i s) (λ a. up_to item next stop f (next st a)) ys j r k in
            cons_sound st i s _ ys j r m (ih m).0 (ih m).1 (ih m).2

    -- a printed item never looks like the stop, and the empty input does; `Rest` holds at the stop
    module _ (last : (r : List E) → T (stop r) → Rest r) (go_on : (st : St) (a : A) → Good st a → (r : List E) → stop (print st a ++ r) ≡ false) (halt : stop [] ≡ true) where
      up_to_complete : (f : ℕ) (st : St) (xs : List A) → Goods Good next st xs → length xs ≤ f → (i : ℕ) (r : List E) → T (stop r)
          → (j : ℕ) × (up_to item next stop f st i (prints print next st xs ++ r) ≡ ok xs j r)
      up_to_complete zero st [] g l i r t = (i, rw (T_true (stop r) t))
      up_to_complete (suc f) st [] g l i r t = (i, rw (T_true (stop r) t))
      up_to_complete zero st (x ∷ xs) g l i r t = absurd (omega arith)
      up_to_complete (suc f) st (x ∷ xs) g l i r t =
          let e : stop ((print st x ++ prints print next (next st x) xs) ++ r) ≡ false
          = rw append_assoc (go_on st x g.0 (prints print next (next st x) xs ++ r)) in
          rw e (cons_complete st x xs (λ a. up_to item next stop f (next st a)) g.0 g.1 i r (last r t) (λ k. up_to_complete f (next st x) xs g.1 (omega arith) k r t))

      printed : (st : St) (a : A) → Good st a → (l : List E) → print st a ≡ l → 1 ≤ length l
      printed st a g [] e = let z : true ≡ false = sym halt ∙ rw e at (go_on st a g []) in impossible cc
      printed st a g (x ∷ l) e = omega arith

      pub long : (st : St) (xs : List A) → Goods Good next st xs → length xs ≤ length (prints print next st xs)
      long st [] g = omega arith
      long st (x ∷ xs) g = omega (arith, long (next st x) xs g.1, printed st x g.0 (print st x) refl, length-append (print st x) (prints print next (next st x) xs))

      pub codes_many_at : (st : St) → Codes (At stop) (many item next stop st) (prints print next st) (Goods Good next st)
      codes_many_at st = record {
        sound = λ i s a j r e. up_to_sound (length s) st i s a j r e;
        complete = λ a g i r t. up_to_complete (length (prints print next st a ++ r)) st a g
            (omega (arith, long st a g, length-append (prints print next st a) r)) i r t;
      }

      -- Fuel does not matter once it bounds the input; so `many` obeys its own equation, which is what a loop's proof uses.
      shorter : (st : St) (i : ℕ) (s : List E) (a : A) (k : ℕ) (t : List E) → item st i s ≡ ok a k t → suc (length t) ≤ length s
      shorter st i s a k t e =
          let h = (c st).sound i s a k t e in
          omega (arith, printed st a h.0 (print st a) refl, ap length h.1, length-append (print st a) t)

      up_to_enough : (f g : ℕ) (st : St) (i : ℕ) (s : List E) → length s ≤ f → length s ≤ g → up_to item next stop f st i s ≡ up_to item next stop g st i s
      up_to_enough zero zero st i s p q = refl
      up_to_enough zero (suc g) st i [] p q = rw halt
      up_to_enough zero (suc g) st i (x ∷ s) p q = absurd (omega arith)
      up_to_enough (suc f) zero st i [] p q = rw halt
      up_to_enough (suc f) zero st i (x ∷ s) p q = absurd (omega arith)
      up_to_enough (suc f) (suc g) st i s p q = go (λ a k t e. up_to_enough f g (next st a) k t (omega (arith, shorter st i s a k t e)) (omega (arith, shorter st i s a k t e))) (item st i s) refl
        where
          go : ((a : A) (k : ℕ) (t : List E) → item st i s ≡ ok a k t → up_to item next stop f (next st a) k t ≡ up_to item next stop g (next st a) k t)
              → (x : Result E A) → item st i s ≡ x
              → cond (stop s) (ok [] i s) (then (λ a. up_to item next stop f (next st a) >>= λ xs. give (a ∷ xs)) (item st i s))
              ≡ cond (stop s) (ok [] i s) (then (λ a. up_to item next stop g (next st a) >>= λ xs. give (a ∷ xs)) (item st i s))
          go ih (refuse n k) e = rw e
          go ih (ok a k t) e = rw (e, ih a k t e)

      pub many_step : (st : St) (i : ℕ) (s : List E) → stop s ≡ false
          → many item next stop st i s ≡ (item st >>= λ a. many item next stop (next st a) >>= λ xs. give (a ∷ xs)) i s
      many_step st i [] e = let z : true ≡ false = sym halt ∙ e in impossible cc
      many_step st i (x ∷ s) e = rw e (go (item st i (x ∷ s)) refl)
        where
          go : (y : Result E A) → item st i (x ∷ s) ≡ y → then (λ a. up_to item next stop (length s) (next st a) >>= λ xs. give (a ∷ xs)) y
              ≡ then (λ a. many item next stop (next st a) >>= λ xs. give (a ∷ xs)) y
          go (refuse n k) h = refl
          go (ok a k t) h = rw (up_to_enough (length s) (length t) (next st a) k t (omega (arith, shorter st i (x ∷ s) a k t h)) (omega arith))

-- nothing is taken at the stop
pub many_stop : {E St A : Type 0} (item : St → Parser E A) (next : St → A → St) (stop : List E → Bool) (st : St) (i : ℕ) (s : List E) → stop s ≡ true → many item next stop st i s ≡ ok [] i s
many_stop item next stop st i [] e = rw e
many_stop item next stop st i (x ∷ s) e = rw e

-- items after which anything may follow
module _ {E St A : Type 0} {item : St → Parser E A} {print : St → A → List E} {Good : St → A → Type 0} (next : St → A → St)
    (c : (st : St) → Codes any (item st) (print st) (Good st)) where
  pub codes_times : (n : ℕ) (st : St) → Codes any (times item next n st) (prints print next st) (λ xs. (length xs ≡ n) × Goods Good next st xs)
  codes_times = codes_times_at next c (λ st a g r. tt)

  pub codes_many : (stop : List E → Bool) → ((st : St) (a : A) → Good st a → (r : List E) → stop (print st a ++ r) ≡ false) → stop [] ≡ true
      → (st : St) → Codes (At stop) (many item next stop st) (prints print next st) (Goods Good next st)
  codes_many stop = codes_many_at next c (λ st a g r. tt) stop (λ r t. tt)
