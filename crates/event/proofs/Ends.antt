-- Where a parser ends: the place it gives, and the stop it runs up to.
-- Assumes nothing.
use Prim.Native.Nat.{ℕ, zero, suc, ◌+◌, ◌-◌, ◌≤◌}
use native.Mathlib.Omega.{arith}
use mathlib.Core.Path.{◌≡◌, refl, ap, sym, ◌∙◌, subst}
use mathlib.Core.Bool.{Bool, true, false, cond}
use mathlib.Core.List.{List, [], ◌∷◌}
use lib.Dec.{T}
use lib.ListN.{length, drop, length-append, length-drop}
use lib.Seq.{drop_at, drop-drop}
use Rattle.event.specs.Parser.{Result, ok, refuse, Parser, ended, then, ◌>>=◌, give, here, finish, checked, lastly, up_to, many}
use Rattle.event.proofs.Codes.{Codes, true_T, codes_checked}
use Rattle.event.proofs.Impossible.{impossible}

-- where a parser of the elements from i on ends: what a loop over a slice by an index needs
pub placed : {E A : Type 0} {Rest : List E → Type 0} {p : Parser E A} {print : A → List E} {Good : A → Type 0} → Codes Rest p print Good
    → (l : List E) (i : ℕ) {a : A} {j : ℕ} {r : List E} → i ≤ length l → p i (drop i l) ≡ ok a j r → (r ≡ drop j l) × (j ≡ i + length (print a)) × (j ≤ length l)
placed {E} {print = print} c l i {a} {j} {r} h e =
    let s = c.sound i (drop i l) a j r e in
    let n = print a in
    let d : drop j l ≡ r = ap (λ (k : ℕ). drop k l) s.2 ∙ sym (drop-drop (length n) i l) ∙ ap (drop (length n)) s.1 ∙ drop_at n r (length n) refl in
    (sym d, s.2, omega (arith, s.2, ap length s.1, length-append n r, length-drop i l))

-- where a parser stops
abbrev pub Ends : {E A : Type 0} → (List E → Bool) → Parser E A → Type 0
Ends {E} {A} stop p = (i : ℕ) (s : List E) (a : A) (j : ℕ) (r : List E) → p i s ≡ ok a j r → T (stop r)

module _ {E : Type 0} (stop : List E → Bool) where
  pub ends_bind : {A B : Type 0} (p : Parser E A) (q : A → Parser E B) → ((a : A) → Ends stop (q a)) → Ends stop (p >>= q)
  ends_bind {A} p q h i s b j r = go (p i s)
    where
      go : (x : Result E A) → then q x ≡ ok b j r → T (stop r)
      go (ok a k t) e = h a k t b j r e
      go (refuse n k) e = impossible cc

  pub ends_map : {A B : Type 0} (p : Parser E A) (f : A → B) → Ends stop p → Ends stop (p >>= λ a. give (f a))
  ends_map {A} p f h i s b j r = go (p i s) refl
    where
      go : (x : Result E A) → p i s ≡ x → then (λ a. give (f a)) x ≡ ok b j r → T (stop r)
      go (ok a k t) e g = let u : t ≡ r = cc in subst (λ (l : List E). T (stop l)) u (h i s a k t e)
      go (refuse n k) e g = impossible cc

  -- a rule of the whole takes nothing more
  pub ends_lastly : {A : Type 0} (holds : A → Bool) (n : ℕ) (p : Parser E A) → Ends stop p → Ends stop (lastly holds n p)
  ends_lastly {A} holds n p h i s b j r = go (p i s) refl
    where
      go : (x : Result E A) → p i s ≡ x → then (λ a. here >>= λ k. checked holds n (k - 1) a) x ≡ ok b j r → T (stop r)
      go (ok a k t) e g = subst (λ (l : List E). T (stop l)) ((codes_checked holds n (k - 1) a).sound k t b j r g).1 (h i s a k t e)
      go (refuse m k) e g = impossible cc

  module _ {St A : Type 0} (item : St → Parser E A) (next : St → A → St) where
    -- at the stop, or after what `more` says
    at_stop : (i : ℕ) (s : List E) (y : Result E (List A)) (ys : List A) (j : ℕ) (r : List E) → (y ≡ ok ys j r → T (stop r))
        → (x : Bool) → stop s ≡ x → cond x (ok [] i s) y ≡ ok ys j r → T (stop r)
    at_stop i s y ys j r more true h e = let u : s ≡ r = cc in true_T (stop r) (rw u at h)
    at_stop i s y ys j r more false h e = more e

    ends_up_to : (f : ℕ) (st : St) → Ends stop (up_to item next stop f st)
    ends_up_to zero st i s ys j r e = at_stop i s (refuse 0 i) ys j r (λ k. impossible cc) (stop s) refl e
    ends_up_to (suc f) st i s ys j r e = at_stop i s _ ys j r
        (ends_bind (item st) (λ a. up_to item next stop f (next st a) >>= λ xs. give (a ∷ xs)) (λ a. ends_map (up_to item next stop f (next st a)) (a ∷◌) (ends_up_to f (next st a))) i s ys j r)
        (stop s) refl e

    pub ends_many : (st : St) → Ends stop (many item next stop st)
    ends_many st i s = ends_up_to (length s) st i s

pub ends_finish : {E : Type 0} (n : ℕ) → Ends {E = E} ended (finish n)
ends_finish n i [] a j r e = let u : [] ≡ r = cc in subst (λ l. T (ended l)) u tt
ends_finish n i (x ∷ s) a j r e = impossible cc
