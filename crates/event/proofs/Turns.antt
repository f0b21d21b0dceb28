-- A loop by an index that scans items one by one: what it has reached, and what a turn does.
-- Assumes nothing.
use Prim.Native.Nat.{ℕ, suc, ◌+◌, ◌-◌, ◌≤◌, ◌<◌}
use native.Mathlib.Numerals.{add-one}
use native.Mathlib.Omega.{arith}
use mathlib.Core.Path.{◌≡◌, refl, ap, sym, ◌∙◌}
use mathlib.Core.Bool.{Bool, true, false, cond}
use mathlib.Core.List.{List, [], ◌∷◌, ◌++◌}
use lib.ListN.{length, get_or}
use lib.Seq.{slice, slice-cons, slice_empty}
use borrow.Author.Tests.{eq-eqb, lt-ltb}
use Rattle.event.specs.declared.Row.{Row}
use Rattle.event.specs.Parser.{Result, ok, refuse, Parser, ended, then, ◌>>=◌, give, here, checked, lastly, many, each}
use Rattle.event.specs.Words.{word_below}
use Rattle.event.specs.Scanning.{Scan, stores, store_rows, ScannedBy, RefusedAs, LeadsBy, reading, Scanned}
use Rattle.event.proofs.Codes.{Codes, any}
use Rattle.event.proofs.Impossible.{impossible}
use Rattle.event.proofs.Leads.{leads_part, leads_refl, leads_trans, scanned_refuse, scanned_none}
use Rattle.event.proofs.Many.{many_step, many_stop}
use Rattle.event.specs.declared.refusal.Refusal.{Refusal}
use Rattle.std.specs.Prelude.{Err, Ok}

-- Items one after another: one after a state, the state after it, and the parser of all that are left after a state.
pub record Items (E St A : Type 0) : Type 0 where
  pub item : St → Parser E A
  pub next : St → A → St
  pub rest : St → Parser E (List A)

-- up to a stop
abbrev pub up_to_stop : {E St A : Type 0} → (List E → Bool) → (St → Parser E A) → (St → A → St) → Items E St A
up_to_stop stop item next = record { item = item; next = next; rest = many item next stop }

-- the items from i on, the state that those before them made, and that their scan ends as the whole does
pub record ReachedBy {X R E St A : Type 0} (scan : Scan X R) (items : Items E St A) (f : A → List X) (Holds : St → Type 0) (l : List E) (end : ℕ)
    (st₀ : St) (i₀ k₀ : ℕ) (b₀ : List ℕ) (i k : ℕ) (b : List ℕ) : Type 0 where
  pub inside : i ≤ end
  pub few : k ≤ scan.most i
  pub same : length b ≡ length b₀
  pub state : St
  pub holds : Holds state
  pub leads : LeadsBy scan (each f) (items.rest state i (slice i end l)) k b (each f) (items.rest st₀ i₀ (slice i₀ end l)) k₀ b₀

pub begin : {X R E St A : Type 0} {scan : Scan X R} {items : Items E St A} {f : A → List X} {Holds : St → Type 0} {l : List E} {end : ℕ}
    {st : St} {i k : ℕ} {b : List ℕ} → Holds st → i ≤ end → k ≤ scan.most i → ReachedBy scan items f Holds l end st i k b i k b
begin {st = st} h l m = record { inside = l; few = m; same = refl; state = st; holds = h; leads = leads_refl }

module _ {X R E St A : Type 0} {scan : Scan X R} {items : Items E St A} {f : A → List X} {Holds : St → Type 0} {l : List E} {end : ℕ}
    {st₀ : St} {i₀ k₀ i k : ℕ} {b₀ b : List ℕ} (h : ReachedBy scan items f Holds l end st₀ i₀ k₀ b₀ i k b) where
  -- no item is left
  pub stopped : items.rest h.state i (slice i end l) ≡ ok [] i (slice i end l) → ScannedBy scan (each f) (items.rest st₀ i₀ (slice i₀ end l)) k₀ b₀ (scan.accepted i k) b
  stopped e = h.leads.leads (scan.accepted i k) b (scanned_none (each f) k b e refl)

  -- one item more
  module _ (more : items.rest h.state i (slice i end l) ≡ (items.item h.state >>= λ a. items.rest (items.next h.state a) >>= λ xs. give (a ∷ xs)) i (slice i end l)) where
    pub item_refused : {n p : ℕ} (after : List ℕ) → items.item h.state i (slice i end l) ≡ refuse n p
        → ScannedBy scan (each f) (items.rest st₀ i₀ (slice i₀ end l)) k₀ b₀ (scan.refused n p) after
    item_refused {n} {p} after e = h.leads.leads (scan.refused n p) after (scanned_refuse (each f) k b after (more ∙ rw e))

    pub item_taken : {Holds' : St → Type 0} {a : A} {j k' : ℕ} {b' : List ℕ} → items.item h.state i (slice i end l) ≡ ok a j (slice j end l)
        → Holds' (items.next h.state a) → j ≤ end → k' ≤ scan.most j → k' ≡ k + length (f a) → b' ≡ stores scan.store b k (f a) → length b' ≡ length b
        → ReachedBy scan items f Holds' l end st₀ i₀ k₀ b₀ j k' b'
    item_taken {a = a} {j = j} {k' = k'} {b' = b'} e s m n p q z = record {
      inside = m;
      few = n;
      same = z ∙ h.same;
      state = items.next h.state a;
      holds = s;
      leads = rw (p, q) (leads_trans (rw (more, e) (leads_part (f a) (each f) (items.rest (items.next h.state a) j (slice j end l)) (a ∷◌) (each f) k b (λ xs. refl))) h.leads);
    }

-- of rows that are read from words up to an end
abbrev pub Reached : {St A : Type 0} → (St → Parser ℕ A) → (St → A → St) → (A → List Row) → (St → Type 0) → List ℕ → ℕ → St → ℕ → ℕ → List ℕ → ℕ → ℕ → List ℕ → Type 0
Reached item next = ReachedBy reading (up_to_stop ended item next)

-- a word below the end
pub at_word : (ws : List ℕ) (i end : ℕ) → i < end → end ≤ length ws → slice i end ws ≡ get_or ws i 0 ∷ slice (suc i) end ws
at_word ws i end h l = slice-cons i end ws 0 h l

-- two words below the end
pub at_two : (ws : List ℕ) (i end : ℕ) {v w : ℕ} → i + 1 < end → end ≤ length ws → v ≡ get_or ws i 0 → w ≡ get_or ws (i + 1) 0 → slice i end ws ≡ v ∷ w ∷ slice (i + 2) end ws
at_two ws i end {v} {w} h l p q =
    let two : suc (suc i) ≡ i + 2 = omega arith in
    at_word ws i end (omega arith) l ∙ rw (← p) (ap (v ∷◌) (at_word ws (suc i) end (omega arith) l ∙ rw (two, q, add-one i)))

-- a word that is read whole
pub read_below : (n bound : ℕ) (ws : List ℕ) (i end : ℕ) → i < end → end ≤ length ws → get_or ws i 0 < bound
    → word_below n bound i (slice i end ws) ≡ ok (get_or ws i 0) (i + 1) (slice (i + 1) end ws)
read_below n bound ws i end h l f = rw (at_word ws i end h l, eq-eqb (get_or ws i 0) (get_or ws i 0) refl, lt-ltb (get_or ws i 0) bound f, add-one i)

pub three_words : (ws : List ℕ) (i : ℕ) → i + 3 ≤ length ws → slice i (i + 3) ws ≡ get_or ws i 0 ∷ get_or ws (i + 1) 0 ∷ get_or ws (i + 2) 0 ∷ []
three_words ws i l =
    let one : suc i ≡ i + 1 = omega arith in
    let two : suc (i + 1) ≡ i + 2 = omega arith in
    let three : suc (i + 2) ≡ i + 3 = omega arith in
    at_word ws i (i + 3) (omega arith) l ∙ rw (one, at_word ws (i + 1) (i + 3) (omega arith) l, two, at_word ws (i + 2) (i + 3) (omega arith) l, three, slice_empty (i + 3) ws)

goes_on : (ws : List ℕ) (i end : ℕ) → i < end → end ≤ length ws → ended (slice i end ws) ≡ false
goes_on ws i end h l = rw (at_word ws i end h l)

pub finish : {St A : Type 0} {item : St → Parser ℕ A} {next : St → A → St} {f : A → List Row} {Holds : St → Type 0} {ws : List ℕ} {end : ℕ}
    {st₀ : St} {i₀ k₀ i k : ℕ} {b₀ b : List ℕ} → Reached item next f Holds ws end st₀ i₀ k₀ b₀ i k b → end ≤ i
    → Scanned (each f) (many item next ended st₀ i₀ (slice i₀ end ws)) k₀ b₀ (Ok k) b
finish {item = item} {next = next} {ws = ws} {end = end} {i = i} h l =
    let e : end ≡ i = let m = h.inside in omega arith in
    stopped h (many_stop item next ended h.state i (slice i end ws) (rw (e, slice_empty i ws)))

module _ {St A : Type 0} {item : St → Parser ℕ A} {print : St → A → List ℕ} {Good : St → A → Type 0} {next : St → A → St}
    (c : (st : St) → Codes any (item st) (print st) (Good st)) (on : (st : St) (a : A) → Good st a → (r : List ℕ) → ended (print st a ++ r) ≡ false)
    {f : A → List Row} {Holds : St → Type 0} {ws : List ℕ} {end : ℕ} {st₀ : St} {i₀ k₀ i k : ℕ} {b₀ b : List ℕ}
    (h : Reached item next f Holds ws end st₀ i₀ k₀ b₀ i k b) (below : i < end) (long : end ≤ length ws) where
  more : many item next ended h.state i (slice i end ws) ≡ (item h.state >>= λ a. many item next ended (next h.state a) >>= λ xs. give (a ∷ xs)) i (slice i end ws)
  more = many_step next c (λ st a g r. tt) ended (λ r t. tt) on refl h.state i (slice i end ws) (goes_on ws i end below long)

  pub stop : {r : Refusal} (after : List ℕ) → RefusedAs (item h.state i (slice i end ws)) r
      → Scanned (each f) (many item next ended st₀ i₀ (slice i₀ end ws)) k₀ b₀ (Err r) after
  stop after e = rw e.named (item_refused h more {n = e.number} {p = e.place} after e.refused)

  pub step : {Holds' : St → Type 0} {a : A} {j k' : ℕ} {b' : List ℕ} → item h.state i (slice i end ws) ≡ ok a j (slice j end ws)
      → Holds' (next h.state a) → j ≤ end → k' ≤ j → k' ≡ k + length (f a) → b' ≡ store_rows b k (f a) → length b' ≡ length b
      → Reached item next f Holds' ws end st₀ i₀ k₀ b₀ j k' b'
  step = item_taken h more

-- a scan, and then a rule of the whole at the last place: where it holds, and where it does not
module _ {X R E A : Type 0} {scan : Scan X R} {items_of : A → List X} (holds : A → Bool) (n : ℕ) (p : Parser E A) (i : ℕ) (s : List E) {k : ℕ} {before after : List ℕ} where
  pub lastly_holds : {result : R} → ScannedBy scan items_of (p i s) k before result after → ((a : A) (j : ℕ) (r : List E) → p i s ≡ ok a j r → holds a ≡ true)
      → ScannedBy scan items_of (lastly holds n p i s) k before result after
  lastly_holds {result} u h = go (p i s) refl u
    where
      go : (x : Result E A) → p i s ≡ x → ScannedBy scan items_of x k before result after → ScannedBy scan items_of (then (λ a. here >>= λ j. checked holds n (j - 1) a) x) k before result after
      go (ok a j r) e v = rw (h a j r e) v
      go (refuse m q) e v = v

  pub lastly_fails : (a : A) (j : ℕ) (r : List E) → p i s ≡ ok a j r → holds a ≡ false → ScannedBy scan items_of (lastly holds n p i s) k before (scan.refused n (j - 1)) after
  lastly_fails a j r e f = rw (e, f) (record { answered = refl; stored = tt })

-- where the rule held, the parts were taken
pub lastly_taken : {E A : Type 0} (holds : A → Bool) (n : ℕ) (p : Parser E A) (i : ℕ) (s : List E) {a : A} {j : ℕ} {r : List E}
    → lastly holds n p i s ≡ ok a j r → (p i s ≡ ok a j r) × (holds a ≡ true)
lastly_taken {E} {A} holds n p i s {a} {j} {r} e = go (p i s) e
  where
    go : (x : Result E A) → then (λ a. here >>= λ j. checked holds n (j - 1) a) x ≡ ok a j r → (x ≡ ok a j r) × (holds a ≡ true)
    go (refuse m q) e = impossible cc
    go (ok a' j' r') e = told (holds a') refl e
      where
        told : (b : Bool) → holds a' ≡ b → then (λ u. give a') (cond b (ok (tt {0}) j' r') (refuse n (j' - 1))) ≡ ok a j r → (ok a' j' r' ≡ ok a j r) × (holds a ≡ true)
        told true h e = let q : a' ≡ a = cc in (e, ap holds (sym q) ∙ h)
        told false h e = impossible cc
