-- Scans: how the steps of a scan lead from one to the next.
-- Assumes nothing.
use Prim.Native.Nat.{ℕ, suc, ◌+◌}
use native.Mathlib.Omega.{arith}
use mathlib.Core.Path.{◌≡◌, refl, ap, sym, ◌∙◌}
use mathlib.Core.List.{List, [], ◌∷◌, ◌++◌}
use lib.ListN.{length, length-append}
use Rattle.event.specs.Parser.{Result, ok, refuse, Parser, then, give}
use Rattle.event.specs.Scanning.{Scan, stores, answering, ScannedBy, LeadsBy, RefusedAs, BegunBy, BeginsBy}
use Rattle.event.proofs.Impossible.{impossible}
use Rattle.event.specs.declared.Part.{Part}
use Rattle.event.specs.declared.refusal.Refusal.{Refusal}
use Rattle.event.specs.Refusal.{PartAnswer, refusal}
use Rattle.std.specs.Prelude.{Err, Ok}

pub leads_refl : {X R E A : Type 0} {scan : Scan X R} {f : A → List X} {x : Result E A} {k : ℕ} {b : List ℕ} → LeadsBy scan f x k b f x k b
leads_refl = record { leads = λ r l s. s }

pub leads_trans : {X R E A B C : Type 0} {scan : Scan X R} {f : A → List X} {x : Result E A} {k : ℕ} {b : List ℕ} {g : B → List X} {y : Result E B} {l : ℕ} {d : List ℕ}
    {h : C → List X} {z : Result E C} {m : ℕ} {e : List ℕ} → LeadsBy scan f x k b g y l d → LeadsBy scan g y l d h z m e → LeadsBy scan f x k b h z m e
leads_trans p q = record { leads = λ r l s. q.leads r l (p.leads r l s) }

-- items stored in two runs
pub store_append : {X : Type 0} (store : List ℕ → ℕ → X → List ℕ) (buffer : List ℕ) (k : ℕ) (xs ys : List X)
    → stores store buffer k (xs ++ ys) ≡ stores store (stores store buffer k xs) (k + length xs) ys
store_append store buffer k [] ys = let e : k ≡ k + 0 = omega arith in ap (λ (n : ℕ). stores store buffer n ys) e
store_append store buffer k (x ∷ xs) ys =
    let e : k + 1 + length xs ≡ k + suc (length xs) = omega arith in
    store_append store (store buffer k x) (k + 1) xs ys ∙ ap (λ (n : ℕ). stores store (stores store (store buffer k x) (k + 1) xs) n ys) e

module _ {X R E A B : Type 0} {scan : Scan X R} where
  -- y is x with its value in a larger one, g a; the items of that one begin with `before`, which are stored
  pub leads_part : (before : List X) (f : A → List X) (x : Result E A) (g : A → B) (f₀ : B → List X) (k : ℕ) (b : List ℕ)
      → ((a : A) → f₀ (g a) ≡ before ++ f a) → LeadsBy scan f x (k + length before) (stores scan.store b k before) f₀ (then (λ a. give (g a)) x) k b
  leads_part before f (ok a j r) g f₀ k b e = record {
    leads = λ res l s. record {
      answered =
          let n : k + length before + length (f a) ≡ k + length (f₀ (g a)) = rw (e a) (omega (arith, length-append before (f a))) in
          s.answered ∙ ap (scan.accepted j) n;
      stored = s.stored ∙ sym (store_append scan.store b k before (f a)) ∙ ap (stores scan.store b k) (sym (e a));
    };
  }
  leads_part before f (refuse n p) g f₀ k b e = record { leads = λ res l s. record { answered = s.answered; stored = tt } }

-- one value in another, and that in a third
pub then_then : {E A B C : Type 0} (x : Result E A) (g : A → B) (h : B → C) → then (λ b. give (h b)) (then (λ a. give (g a)) x) ≡ then (λ a. give (h (g a))) x
then_then (ok a j r) g h = refl
then_then (refuse n p) g h = refl

-- a refusal ends the scan, whatever the buffer holds
pub scanned_refuse : {X R E A : Type 0} {scan : Scan X R} (f : A → List X) {x : Result E A} {n p : ℕ} (k : ℕ) (b after : List ℕ) → x ≡ refuse n p → ScannedBy scan f x k b (scan.refused n p) after
scanned_refuse f k b after e = rw e (record { answered = refl; stored = tt })

-- a success without items changes nothing
pub scanned_none : {X R E A : Type 0} {scan : Scan X R} (f : A → List X) {x : Result E A} {a : A} {j : ℕ} {r : List E} (k : ℕ) (b : List ℕ) → x ≡ ok a j r → f a ≡ []
    → ScannedBy scan f x k b (scan.accepted j k) b
scanned_none {X} {R} {E} {A} {scan} f {x} {a} {j} {r} k b e n = rw e (record {
  answered = let m : k ≡ k + 0 = omega arith in ap (scan.accepted j) m ∙ ap (λ (l : List X). scan.accepted j (k + length l)) (sym n);
  stored = ap (stores scan.store b k) (sym n);
})

-- what a parser refuses
pub refused_as : {E A : Type 0} {x : Result E A} {n p : ℕ} → x ≡ refuse n p → RefusedAs x (refusal n p)
refused_as {n = n} {p = p} e = record { number = n; place = p; refused = e; named = refl }

-- a scan that refused says what was refused
pub refused_scan : {X E A : Type 0} {store : List ℕ → ℕ → X → List ℕ} {most : ℕ → ℕ} (f : A → List X) (x : Result E A) {k : ℕ} {r : Refusal} {b after : List ℕ}
    → ScannedBy (answering store most) f x k b (Err r) after → RefusedAs x r
refused_scan f (ok a j l) s = let e = s.answered in impossible cc
refused_scan f (refuse m q) {r = r} s =
    let e = s.answered in
    let n : r ≡ refusal m q = cc in
    record { number = m; place = q; refused = refl; named = n }

-- and one from the start that did not, what was taken
pub record Taken {X E A : Type 0} (f : A → List X) (x : Result E A) (count : ℕ) : Type 0 where
  pub value : A
  pub place : ℕ
  pub input : List E
  pub parsed : x ≡ ok value place input
  pub counted : count ≡ length (f value)

pub accepted_scan : {X E A : Type 0} {store : List ℕ → ℕ → X → List ℕ} {most : ℕ → ℕ} (f : A → List X) (x : Result E A) {e : ℕ} {b after : List ℕ}
    → ScannedBy (answering store most) f x 0 b (Ok e) after → Taken f x e
accepted_scan f (ok a j r) {e = n} s = let e = s.answered in let c : n ≡ 0 + length (f a) = cc in record { value = a; place = j; input = r; parsed = refl; counted = omega arith }
accepted_scan f (refuse m q) s = let e = s.answered in impossible cc

-- what was scanned whole leads on from a success without items
pub leads_done : {X R E A B : Type 0} {scan : Scan X R} (f : A → List X) {x : Result E A} {a : A} {j : ℕ} {r : List E} {f₀ : B → List X} {x₀ : Result E B} {k k₀ : ℕ} {b b₀ : List ℕ}
    → x ≡ ok a j r → f a ≡ [] → ScannedBy scan f₀ x₀ k₀ b₀ (scan.accepted j k) b → LeadsBy scan f x k b f₀ x₀ k₀ b₀
leads_done {X} {R} {E} {A} {B} {scan} f {x} {a} {j} {r} {f₀} {x₀} {k} {k₀} {b} {b₀} e n s = rw e (record {
  leads = λ res l t.
      let m : k + 0 ≡ k = omega arith in
      let p : res ≡ scan.accepted j k = t.answered ∙ ap (λ (l : List X). scan.accepted j (k + length l)) n ∙ ap (scan.accepted j) m in
      let q : l ≡ b = t.stored ∙ ap (stores scan.store b k) n in
      rw (p, q) s;
})

-- an event whose beginning is refused, or done
module _ {X R E A A₀ : Type 0} {scan : Scan X R} {f : A → List X} {rest : Parser E A} {f₀ : A₀ → List X} {x₀ : Result E A₀} {input : List E}
    {k₀ : ℕ} {before b : List ℕ} {r : PartAnswer} (s : BeginsBy scan f rest f₀ x₀ input k₀ before b r) where
  pub begins_refused : {refused : Refusal} → r ≡ Err refused → RefusedAs x₀ refused
  begins_refused q = (rw q at s).begun

  pub begins_done : {p : Part} → r ≡ Ok p → BegunBy scan f rest f₀ x₀ input k₀ before b p.next p.count
  begins_done q = (rw q at s).begun
