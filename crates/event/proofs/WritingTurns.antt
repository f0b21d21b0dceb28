-- A loop by an index that writes words from rows: what it has reached, and what a turn does.
-- Assumes nothing.
use Prim.Native.Nat.{ℕ, zero, suc, ◌+◌, ◌*◌, ◌≤◌}
use mathlib.Core.Path.{◌≡◌, refl, ap, ◌∙◌}
use mathlib.Core.Bool.{Bool, true, false, not}
use mathlib.Core.List.{List, [], ◌∷◌, ◌++◌}
use lib.ListN.{length, drop}
use Rattle.event.specs.declared.Row.{Row}
use Rattle.event.specs.Parser.{Result, ok, refuse, Parser, then, ◌>>=◌, give, times, many, each}
use Rattle.event.specs.Scanning.{store_words, ScannedBy, RefusedAs, writing_all, writing_part, Writes}
use Rattle.event.proofs.Codes.{Codes, any}
use Rattle.event.proofs.Impossible.{impossible}
use Rattle.event.proofs.Leads.{leads_part, scanned_refuse}
use Rattle.event.proofs.Loops.{to_the_end}
use Rattle.event.proofs.Many.{many_step, many_stop}
use Rattle.event.proofs.Turns.{Items, up_to_stop, ReachedBy, stopped, item_refused, item_taken}
use Rattle.event.specs.declared.Part.{Part}
use Rattle.event.specs.declared.refusal.Refusal.{Refusal}
use Rattle.event.specs.Refusal.{PartAnswer, part, refusal}
use Rattle.std.specs.Prelude.{Err, Ok}

-- counted items: the state has the number of those left
abbrev one_less : ℕ → ℕ
one_less zero = zero
one_less (suc n) = n

abbrev pub counted : {E St A : Type 0} → (St → Parser E A) → (St → A → St) → Items E (ℕ × St) A
counted item next = record { item = λ s. item s.1; next = λ s a. (one_less s.0, next s.1 a); rest = λ s. times item next s.0 s.1 }

-- the rows from i on give words after the k before them
abbrev pub WritesOn : {St A : Type 0} → (width : ℕ) → Items Row St A → (A → List ℕ) → (St → Type 0) → List Row → St → ℕ → ℕ → List ℕ → ℕ → ℕ → List ℕ → Type 0
WritesOn width items f Holds rs = ReachedBy (writing_part width) items f Holds rs (length rs)

module _ (width : ℕ) {St A : Type 0} {items : Items Row St A} {f : A → List ℕ} {Holds : St → Type 0} {rs : List Row}
    {st₀ : St} {i₀ k₀ i k : ℕ} {b₀ b : List ℕ} (h : WritesOn width items f Holds rs st₀ i₀ k₀ b₀ i k b) where
  -- no item is left
  pub rows_done : items.rest h.state i (drop i rs) ≡ ok [] i (drop i rs) → Writes width (each f) (items.rest st₀ i₀ (drop i₀ rs)) rs k₀ b₀ (Ok (part i k)) b
  rows_done e = record { scanned = rw (to_the_end i₀ rs) (stopped h (rw (← to_the_end i rs) e)); within = (h.inside, h.few) }

  -- one item more
  module _ (more : items.rest h.state i (drop i rs) ≡ (items.item h.state >>= λ a. items.rest (items.next h.state a) >>= λ xs. give (a ∷ xs)) i (drop i rs)) where
    pub rows_refused : {r : Refusal} (after : List ℕ) → RefusedAs (items.item h.state i (drop i rs)) r
        → Writes width (each f) (items.rest st₀ i₀ (drop i₀ rs)) rs k₀ b₀ (Err r) after
    rows_refused {r} after e = rw e.named (record {
      scanned = rw (to_the_end i₀ rs) (item_refused h (rw (← to_the_end i rs) more) {n = e.number} {p = e.place} after (rw (← to_the_end i rs) e.refused));
      within = tt;
    })

    pub rows_taken : {Holds' : St → Type 0} {a : A} {j k' : ℕ} {b' : List ℕ} → items.item h.state i (drop i rs) ≡ ok a j (drop j rs)
        → Holds' (items.next h.state a) → j ≤ length rs → k' ≤ 4 * j → k' ≡ k + length (f a) → b' ≡ store_words width b k (f a) → length b' ≡ length b
        → WritesOn width items f Holds' rs st₀ i₀ k₀ b₀ j k' b'
    rows_taken {j = j} e = item_taken h (rw (← to_the_end i rs) more) (rw (← to_the_end i rs, ← to_the_end j rs) e)

-- a test that the stop is not reached
no_longer : (b : Bool) → false ≡ not b → b ≡ true
no_longer true e = refl
no_longer false e = e

pub still : (b : Bool) → true ≡ not b → b ≡ false
still true e = e
still false e = refl

-- items up to a stop, after each of which anything may follow
module _ (width : ℕ) (stop : List Row → Bool) {St A : Type 0} {item : St → Parser Row A} {next : St → A → St} {f : A → List ℕ} {Holds : St → Type 0} {rs : List Row}
    {st₀ : St} {i₀ k₀ i k : ℕ} {b₀ b : List ℕ} (h : WritesOn width (up_to_stop stop item next) f Holds rs st₀ i₀ k₀ b₀ i k b) where
  pub run_done : false ≡ not (stop (drop i rs)) → Writes width (each f) (many item next stop st₀ i₀ (drop i₀ rs)) rs k₀ b₀ (Ok (part i k)) b
  run_done e = rows_done width h (many_stop item next stop h.state i (drop i rs) (no_longer (stop (drop i rs)) e))

  module _ {print : St → A → List Row} {Good : St → A → Type 0} (c : (st : St) → Codes any (item st) (print st) (Good st))
      (on : (st : St) (a : A) → Good st a → (r : List Row) → stop (print st a ++ r) ≡ false) (halt : stop [] ≡ true) (going : true ≡ not (stop (drop i rs))) where
    more : many item next stop h.state i (drop i rs) ≡ (item h.state >>= λ a. many item next stop (next h.state a) >>= λ xs. give (a ∷ xs)) i (drop i rs)
    more = many_step next c (λ st a g r. tt) stop (λ r t. tt) on halt h.state i (drop i rs) (still (stop (drop i rs)) going)

    pub run_refused : {r : Refusal} (after : List ℕ) → RefusedAs (item h.state i (drop i rs)) r → Writes width (each f) (many item next stop st₀ i₀ (drop i₀ rs)) rs k₀ b₀ (Err r) after
    run_refused = rows_refused width h more

    pub run_taken : {Holds' : St → Type 0} {a : A} {j k' : ℕ} {b' : List ℕ} → item h.state i (drop i rs) ≡ ok a j (drop j rs)
        → Holds' (next h.state a) → j ≤ length rs → k' ≤ 4 * j → k' ≡ k + length (f a) → b' ≡ store_words width b k (f a) → length b' ≡ length b
        → WritesOn width (up_to_stop stop item next) f Holds' rs st₀ i₀ k₀ b₀ j k' b'
    run_taken = rows_taken width h more

-- a part that was written, and one that was refused
module _ (width : ℕ) {A : Type 0} (f : A → List ℕ) where
  pub record Wrote (x : Result Row A) (k : ℕ) (before : List ℕ) (next count : ℕ) (after : List ℕ) : Type 0 where
    pub value : A
    pub input : List Row
    pub parsed : x ≡ ok value next input
    pub counted : count ≡ k + length (f value)
    pub stored : after ≡ store_words width before k (f value)

  pub wrote : (x : Result Row A) {k j e : ℕ} {b after : List ℕ} → ScannedBy (writing_part width) f x k b (Ok (part j e)) after → Wrote x k b j e after
  wrote (ok a i r) {k} {j} {e} s =
      let q = s.answered in
      let same : part j e ≡ part i (k + length (f a)) = cc in
      let u : j ≡ i = ap (λ (p : Part). p.next) same in
      let v : e ≡ k + length (f a) = ap (λ (p : Part). p.count) same in
      record { value = a; input = r; parsed = rw u; counted = v; stored = s.stored }
  wrote (refuse n p) s = let q = s.answered in impossible cc

  pub unwritten : (x : Result Row A) {k : ℕ} {r : Refusal} {b after : List ℕ} → ScannedBy (writing_part width) f x k b (Err r) after → RefusedAs x r
  unwritten (ok a i l) s = let q = s.answered in impossible cc
  unwritten (refuse m q) {r = r} s =
      let e = s.answered in
      let n : r ≡ refusal m q = cc in
      record { number = m; place = q; refused = refl; named = n }

  -- a part whose value is in a larger one, g a; the words of that one begin with `before`, which are stored
  pub writes_part : {B : Type 0} (before : List ℕ) (x : Result Row A) (g : A → B) (f₀ : B → List ℕ) {rs : List Row} {k e : ℕ} {b b' after : List ℕ} {r : PartAnswer}
      → ((a : A) → f₀ (g a) ≡ before ++ f a) → e ≡ k + length before → b' ≡ store_words width b k before → Writes width f x rs e b' r after
      → Writes width f₀ (then (λ a. give (g a)) x) rs k b r after
  writes_part before x g f₀ {k = k} {b = b} {after = after} {r = r} e n q s = record {
    scanned = (leads_part {scan = writing_part width} before f x g f₀ k b e).leads r after (rw (n, q) at s.scanned);
    within = s.within;
  }

  -- words said in another way, of what was parsed
  pub writes_as : (g : A → List ℕ) (x : Result Row A) {rs : List Row} {k : ℕ} {b after : List ℕ} {r : PartAnswer} → ((a : A) (j : ℕ) (l : List Row) → x ≡ ok a j l → f a ≡ g a)
      → Writes width f x rs k b r after → Writes width g x rs k b r after
  writes_as g (refuse n p) e s = record { scanned = record { answered = s.scanned.answered; stored = tt }; within = s.within }
  writes_as g (ok a j l) {k = k} {b = b} e s = record {
    scanned = record {
      answered = s.scanned.answered ∙ ap (λ (l : List ℕ). Ok (part j (k + length l))) (e a j l refl);
      stored = s.scanned.stored ∙ ap (store_words width b k) (e a j l refl);
    };
    within = s.within;
  }

  pub writes_refused : {x : Result Row A} {rs : List Row} {k : ℕ} {b after : List ℕ} {r : PartAnswer} {refused : Refusal} → RefusedAs x refused → r ≡ Err refused → Writes width f x rs k b r after
  writes_refused e q = rw (e.refused, q, e.named) (record { scanned = record { answered = refl; stored = tt }; within = tt })

  pub writes_done : {x : Result Row A} {rs : List Row} {a : A} {l : List Row} {j e k : ℕ} {b after : List ℕ} {r : PartAnswer} → x ≡ ok a j l → r ≡ Ok (part j e) → e ≡ k + length (f a) → after ≡ store_words width b k (f a)
      → j ≤ length rs → e ≤ 4 * j → Writes width f x rs k b r after
  writes_done {j = j} p q c s m n = rw (p, q) (record { scanned = record { answered = ap (λ (n : ℕ). Ok (part j n)) c; stored = s }; within = (m, n) })

  -- a part that is the whole event
  module _ {x : Result Row A} {k : ℕ} {b after : List ℕ} {r : PartAnswer} (s : ScannedBy (writing_part width) f x k b r after) where
    pub all_refused : {refused : Refusal} {after' : List ℕ} → r ≡ Err refused → ScannedBy (writing_all width) f x k b (Err refused) after'
    all_refused {refused} {after' = after'} q =
        let t = unwritten x (rw q at s) in
        rw t.named (scanned_refuse {scan = writing_all width} f {x = x} {n = t.number} {p = t.place} k b after' t.refused)

    pub all_done : {p : Part} → r ≡ Ok p → ScannedBy (writing_all width) f x k b (Ok p.count) after
    all_done {p} q = let t = wrote x {j = p.next} {e = p.count} (rw q at s) in rw t.parsed (record { answered = ap Ok t.counted; stored = t.stored })
