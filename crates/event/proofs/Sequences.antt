-- One parser after another: the codes of what they build.
-- Assumes nothing.
use Prim.Native.Nat.{ℕ, ◌+◌, ◌-◌}
use native.Mathlib.Omega.{arith}
use mathlib.Core.Path.{◌≡◌, refl, ap, sym, ◌∙◌}
use mathlib.Core.Bool.{Bool, true, false, cond}
use mathlib.Core.List.{List, ◌++◌, append_assoc, append-nil}
use mathlib.Core.Option.{Option, some, none}
use lib.Dec.{T}
use lib.ListN.{length, length-append}
use Rattle.event.specs.Parser.{Result, ok, refuse, Parser, then, ◌>>=◌, give, lastly, optionally, if_any, IfAny}
use Rattle.event.proofs.Codes.{Codes, any, same, less, codes_here, codes_checked}
use Rattle.event.proofs.Impossible.{impossible}

module _ {E A B : Type 0} where
  -- one parser after another: `part b` is the value of the first that b was made from, `Rest₁` what may follow it
  pub codes_bind_at : {Rest₁ Rest : List E → Type 0} {p : Parser E A} {q : A → Parser E B} {print : A → List E} {Good : A → Type 0}
      {print' : A → B → List E} {Good' : A → B → Type 0} (part : B → A) → Codes Rest₁ p print Good
      → ((a : A) → Good a → Codes Rest (q a) (print' a) (Good' a)) → ((a : A) (b : B) → Good' a b → part b ≡ a)
      → ((b : B) → Good' (part b) b → (r : List E) → Rest r → Rest₁ (print' (part b) b ++ r))
      → Codes Rest (p >>= q) (λ b. print (part b) ++ print' (part b) b) (λ b. Good (part b) × Good' (part b) b)
  codes_bind_at {Rest = Rest} {p = p} {q = q} {print = print} {Good = Good} {print' = print'} {Good' = Good'} part c d back follow = record { sound = snd; complete = cmp }
    where
      snd : (i : ℕ) (s : List E) (b : B) (j : ℕ) (r : List E) → then q (p i s) ≡ ok b j r
          → (Good (part b) × Good' (part b) b) × (s ≡ (print (part b) ++ print' (part b) b) ++ r) × (j ≡ i + length (print (part b) ++ print' (part b) b))
      snd i s b j r = go (p i s) refl
        where
          go : (x : Result E A) → p i s ≡ x → then q x ≡ ok b j r
              → (Good (part b) × Good' (part b) b) × (s ≡ (print (part b) ++ print' (part b) b) ++ r) × (j ≡ i + length (print (part b) ++ print' (part b) b))
          go (refuse n k) e f = impossible cc
          go (ok a k t) e f =
              let h = c.sound i s a k t e in
              let g = (d a h.0).sound k t b j r f in
              let u = back a b g.0 in
              ((rw u h.0, rw u g.0), h.1 ∙ ap (print a ++◌) g.1 ∙ sym (append_assoc (print a) (print' a b) r) ∙ rw u, rw u (omega (arith, h.2, g.2, length-append (print a) (print' a b))))

      cmp : (b : B) → Good (part b) × Good' (part b) b → (i : ℕ) (r : List E) → Rest r
          → (j : ℕ) × (then q (p i ((print (part b) ++ print' (part b) b) ++ r)) ≡ ok b j r)
      cmp b g i r rr =
          let h = c.complete (part b) g.0 i (print' (part b) b ++ r) (follow b g.1 r rr) in
          let k = (d (part b) g.0).complete b g.1 h.0 r rr in
          (k.0, rw (append_assoc, h.1) k.1)

  pub codes_bind : {Rest : List E → Type 0} {p : Parser E A} {q : A → Parser E B} {print : A → List E} {Good : A → Type 0}
      {print' : A → B → List E} {Good' : A → B → Type 0} (part : B → A) → Codes any p print Good
      → ((a : A) → Good a → Codes Rest (q a) (print' a) (Good' a)) → ((a : A) (b : B) → Good' a b → part b ≡ a)
      → Codes Rest (p >>= q) (λ b. print (part b) ++ print' (part b) b) (λ b. Good (part b) × Good' (part b) b)
  codes_bind part c d back = codes_bind_at part c d back (λ b g r rr. tt)

  pub codes_map : {Rest : List E → Type 0} {p : Parser E A} {print : A → List E} {Good : A → Type 0} (f : A → B) (part : B → A)
      → Codes Rest p print Good → ((a : A) → part (f a) ≡ a)
      → Codes Rest (p >>= λ a. give (f a)) (λ b. print (part b)) (λ b. Good (part b) × (b ≡ f (part b)))
  codes_map {Rest = Rest} {p = p} {print = print} {Good = Good} f part c back = record { sound = λ i s b j r. go i s b j r (p i s) refl; complete = cmp }
    where
      go : (i : ℕ) (s : List E) (b : B) (j : ℕ) (r : List E) (x : Result E A) → p i s ≡ x → then (λ a. give (f a)) x ≡ ok b j r
          → (Good (part b) × (b ≡ f (part b))) × (s ≡ print (part b) ++ r) × (j ≡ i + length (print (part b)))
      go i s b j r (refuse n k) e g = impossible cc
      go i s b j r (ok a k t) e g =
          let h = c.sound i s a k t e in
          let u : b ≡ f a = cc in
          let w : part b ≡ a = ap part u ∙ back a in
          let v : t ≡ r = cc in
          let l : k ≡ j = cc in
          rw (w, ← v, ← l) ((h.0, u), h.1, h.2)

      cmp : (b : B) → Good (part b) × (b ≡ f (part b)) → (i : ℕ) (r : List E) → Rest r → (j : ℕ) × (then (λ a. give (f a)) (p i (print (part b) ++ r)) ≡ ok b j r)
      cmp b g i r rr = let h = c.complete (part b) g.0 i r rr in (h.0, rw h.1 (ap (λ (x : B). ok x h.0 r) (sym g.1)))

  -- a value made by a constructor f
  pub codes_image : {Rest : List E → Type 0} {p : Parser E A} {print : A → List E} {Good : A → Type 0} (f : A → B) (print' : B → List E)
      → Codes Rest p print Good → ((a : A) → print a ≡ print' (f a))
      → Codes Rest (p >>= λ a. give (f a)) print' (λ b. (a : A) × Good a × (b ≡ f a))
  codes_image {Rest = Rest} {p = p} {print = print} {Good = Good} f print' c eq = record { sound = λ i s b j r. go i s b j r (p i s) refl; complete = cmp }
    where
      go : (i : ℕ) (s : List E) (b : B) (j : ℕ) (r : List E) (x : Result E A) → p i s ≡ x → then (λ a. give (f a)) x ≡ ok b j r
          → ((a : A) × Good a × (b ≡ f a)) × (s ≡ print' b ++ r) × (j ≡ i + length (print' b))
      go i s b j r (refuse n k) e g = impossible cc
      go i s b j r (ok a k t) e g =
          let h = c.sound i s a k t e in
          let u : b ≡ f a = cc in
          let v : t ≡ r = cc in
          let l : k ≡ j = cc in
          let w : print a ≡ print' b = eq a ∙ ap print' (sym u) in
          ((a, h.0, u), h.1 ∙ ap (print a ++◌) v ∙ ap (◌++ r) w, sym l ∙ h.2 ∙ ap (λ (y : List E). i + length y) w)

      cmp : (b : B) → (a : A) × Good a × (b ≡ f a) → (i : ℕ) (r : List E) → Rest r → (j : ℕ) × (then (λ a. give (f a)) (p i (print' b ++ r)) ≡ ok b j r)
      cmp b g i r rr =
          let h = c.complete g.0 g.1 i r rr in
          let w : print' b ≡ print g.0 = ap print' g.2 ∙ sym (eq g.0) in
          (h.0, rw (w, h.1) (ap (λ (x : B). ok x h.0 r) (sym g.2)))

-- and then a rule of the whole
pub codes_lastly : {E A : Type 0} {Rest : List E → Type 0} {p : Parser E A} {print : A → List E} {Good : A → Type 0} (holds : A → Bool) (n : ℕ) → Codes Rest p print Good
    → Codes Rest (lastly holds n p) print (λ a. Good a × T (holds a))
codes_lastly {print = print} holds n c = same
    (codes_bind_at (λ a. a) c (λ a g. less (codes_here λ k. codes_checked holds n (k - 1) a) (λ r t. tt)) (λ a b g. g.0) (λ a g r t. t))
    (λ a g. (g.0, g.1.1)) (λ a g. (g.0, (refl, g.1))) (λ a g. append-nil (print a))

-- a part that may be absent: the input looks like it where it is printed, and elsewhere must not
pub codes_optionally : {E A : Type 0} {p : Parser E A} {print : A → List E} {Good : A → Type 0} (looks : List E → Bool) → Codes any p print Good
    → ((a : A) → Good a → (r : List E) → looks (print a ++ r) ≡ true) → Codes (λ r. looks r ≡ false) (optionally looks p) (if_any print) (IfAny Good)
codes_optionally {E} {A} {p} {print} {Good} looks c at = record { sound = λ i s o j r. choice i s o j r (looks s); complete = cmp }
  where
    made : Codes any (p >>= λ a. give (some a)) (if_any print) (λ o. (a : A) × Good a × (o ≡ some a))
    made = codes_image some (if_any print) c (λ a. refl)

    choice : (i : ℕ) (s : List E) (o : Option A) (j : ℕ) (r : List E) (b : Bool) → cond b ((p >>= λ a. give (some a)) i s) (ok none i s) ≡ ok o j r
        → IfAny Good o × (s ≡ if_any print o ++ r) × (j ≡ i + length (if_any print o))
    choice i s o j r true e = let h = made.sound i s o j r e in (rw h.0.2 h.0.1, h.1, h.2)
    choice i s o j r false e =
        let n : o ≡ none = cc in
        let k : i ≡ j = cc in
        rw n (tt, cc, omega arith)

    cmp : (o : Option A) → IfAny Good o → (i : ℕ) (r : List E) → looks r ≡ false → (j : ℕ) × (optionally looks p i (if_any print o ++ r) ≡ ok o j r)
    cmp none g i r l = (i, rw l)
    cmp (some a) g i r l = rw (at a g r) (made.complete (some a) (a, g, refl) i r tt)
