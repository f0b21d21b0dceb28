-- A loop over items that keeps them in no buffer: those that it took, and that all of them are these and the ones left.
-- Assumes nothing.
use Prim.Native.Nat.{ℕ}
use mathlib.Core.Path.{◌≡◌, refl, ap, ◌∙◌}
use mathlib.Core.Bool.{Bool, true, false}
use mathlib.Core.List.{List, [], ◌∷◌, ◌++◌, append-nil, append_assoc}
use Rattle.event.specs.Parser.{Result, ok, refuse, Parser, then, ◌>>=◌, give, many}
use Rattle.event.proofs.Codes.{Codes, any}
use Rattle.event.proofs.Many.{many_step, many_stop}

module _ {E St A : Type 0} (item : St → Parser E A) (next : St → A → St) (stop : List E → Bool) where
  -- from the input s₀ at i₀ and the state st₀ on, the items xs come first; then those from s at i and the state st on
  pub record TakenTo (st₀ : St) (i₀ : ℕ) (s₀ : List E) (xs : List A) (st : St) (i : ℕ) (s : List E) : Type 0 where
    pub leads : many item next stop st₀ i₀ s₀ ≡ then (λ ys. give (xs ++ ys)) (many item next stop st i s)

  pub none_taken : (st : St) (i : ℕ) (s : List E) → TakenTo st i s [] st i s
  none_taken st i s = record { leads = go (many item next stop st i s) }
    where
      go : (x : Result E (List A)) → x ≡ then (λ ys. give ([] ++ ys)) x
      go (ok xs j r) = refl
      go (refuse n p) = refl

module _ {E St A : Type 0} {item : St → Parser E A} {next : St → A → St} {stop : List E → Bool}
    {st₀ : St} {i₀ : ℕ} {s₀ : List E} {xs : List A} {st : St} {i : ℕ} {s : List E} (h : TakenTo item next stop st₀ i₀ s₀ xs st i s) where
  pub all_taken : stop s ≡ true → many item next stop st₀ i₀ s₀ ≡ ok xs i s
  all_taken e = h.leads ∙ rw (many_stop item next stop st i s e, append-nil xs)

  module _ {print : St → A → List E} {Good : St → A → Type 0} (c : (st : St) → Codes any (item st) (print st) (Good st))
      (on : (st : St) (a : A) → Good st a → (r : List E) → stop (print st a ++ r) ≡ false) (halt : stop [] ≡ true) (more : stop s ≡ false) where
    next_item : many item next stop st₀ i₀ s₀ ≡ then (λ ys. give (xs ++ ys)) ((item st >>= λ a. many item next stop (next st a) >>= λ ys. give (a ∷ ys)) i s)
    next_item = h.leads ∙ ap (then (λ ys. give (xs ++ ys))) (many_step next c (λ st a g r. tt) stop (λ r t. tt) on halt st i s more)

    pub item_refuses : {n p : ℕ} → item st i s ≡ refuse n p → many item next stop st₀ i₀ s₀ ≡ refuse n p
    item_refuses e = next_item ∙ rw e

    pub one_taken : {a : A} {j : ℕ} {r : List E} → item st i s ≡ ok a j r → TakenTo item next stop st₀ i₀ s₀ (xs ++ (a ∷ [])) (next st a) j r
    one_taken {a} {j} {r} e = record { leads = next_item ∙ rw e (go (many item next stop (next st a) j r)) }
      where
        go : (x : Result E (List A)) → then (λ ys. give (xs ++ ys)) (then (λ ys. give (a ∷ ys)) x) ≡ then (λ ys. give ((xs ++ (a ∷ [])) ++ ys)) x
        go (ok ys k t) = rw (append_assoc xs (a ∷ []) ys)
        go (refuse n k) = refl
