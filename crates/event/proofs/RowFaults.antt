-- The refusal that the tests of a row find: 21 where it may not stand there, 22 where another of its rules fails, 0 for none.
-- Assumes nothing.
use Prim.Native.Nat.{ℕ, ◌<◌}
use mathlib.Core.Path.{◌≡◌, refl, sym}
use mathlib.Core.Bool.{Bool, true, false, cond, not, ◌&&◌}
use mathlib.Core.List.{List, [], ◌∷◌}
use lib.Dec.{T, eqb, ltb, eqb→eq, ltb→lt, lt→ltb}
use borrow.Author.Tests.{eq-eqb, ne_eqb, eqb-true, eqb-false}
use Rattle.event.specs.declared.Row.{Row}
use Rattle.event.specs.Parser.{Test, test, Passed, fault_in}
use Rattle.event.specs.Rows.{row}
use Rattle.event.specs.Words.{below_checks}
use Rattle.event.specs.Writing.{is_same_row, row_tests, of_kind}
use Rattle.event.proofs.Codes.{T_true}
use Rattle.event.proofs.Elements.{both}
use Rattle.event.proofs.RowCodes.{SameFields, same_fields, fields_same}

-- no test has the number 0
abbrev pub Numbered : List Test → Type 0
Numbered [] = Unit {0}
Numbered (t ∷ ts) = T (not (eqb t.number 0)) × Numbered ts

-- every test has the number 22
abbrev pub OfField : List Test → Type 0
OfField [] = Unit {0}
OfField (t ∷ ts) = (t.number ≡ 22) × OfField ts

numbered : (ts : List Test) → OfField ts → Numbered ts
numbered [] n = tt
numbered (t ∷ ts) n = (rw n.0 tt, numbered ts n.1)

none_fails : (ts : List Test) → Passed ts → 0 ≡ fault_in ts
none_fails [] p = refl
none_fails (t ∷ ts) p = go t.holds p.0 (none_fails ts p.1)
  where
    go : (b : Bool) → T b → 0 ≡ fault_in ts → 0 ≡ cond b (fault_in ts) t.number
    go true u e = e
    go false u e = absurd u

pub one_fails : (ts : List Test) → OfField ts → (Passed ts → ⊥) → 22 ≡ fault_in ts
one_fails [] n h = absurd (h tt)
one_fails (t ∷ ts) n h = go t.holds (one_fails ts n.1) h
  where
    go : (b : Bool) → ((Passed ts → ⊥) → 22 ≡ fault_in ts) → (T b × Passed ts → ⊥) → 22 ≡ cond b (fault_in ts) t.number
    go true ih h = ih (λ p. h (tt, p))
    go false ih h = sym n.0

pub all_hold : (ts : List Test) → Numbered ts → 0 ≡ fault_in ts → Passed ts
all_hold [] n e = tt
all_hold (t ∷ ts) n e = go t.holds (all_hold ts n.1) e
  where
    go : (b : Bool) → (0 ≡ fault_in ts → Passed ts) → 0 ≡ cond b (fault_in ts) t.number → T b × Passed ts
    go true ih e = (tt, ih e)
    go false ih e = absurd (rw (eq-eqb t.number 0 (sym e)) at n.0)

-- the number that a row of kind k meets, whose other rules are `Keeps`
pub record Judged (number kind k : ℕ) (Keeps : Type 0) : Type 0 where
  pub other : (kind ≡ k → ⊥) → 21 ≡ number
  pub wrong : kind ≡ k → (Keeps → ⊥) → 22 ≡ number
  pub right : kind ≡ k → Keeps → 0 ≡ number
  pub kept : 0 ≡ number → Keeps

-- the rules are that the row is the one that its fields print, and the checks of the fields
module _ {A : Type 0} (k : ℕ) (fields : Row → A) (print : A → Row) (checks : A → List Test) (r : Row) where
  abbrev Rules : Type 0
  Rules = SameFields r (print (fields r)) × Passed (checks (fields r))

  pub judged : {Keeps : Type 0} → OfField (checks (fields r)) → (Rules → Keeps) → (r.kind ≡ k → Keeps → Rules) → Judged (fault_in (row_tests (of_kind k) fields print checks r)) r.kind k Keeps
  judged n to from = record {
    other = λ h. rw (ne_eqb k r.kind (λ e. h (sym e)));
    wrong = λ e h. rw (eq-eqb k r.kind (sym e)) (one_fails (test 22 (is_same_row r (print (fields r))) ∷ checks (fields r)) (refl, n) (λ p. h (to (same_fields r (print (fields r)) p.0, p.1))));
    right = λ e h. rw (eq-eqb k r.kind (sym e), fields_same r (print (fields r)) (from e h).0) (none_fails (checks (fields r)) (from e h).1);
    kept = λ e. let p = all_hold (row_tests (of_kind k) fields print checks r) (tt, (tt, numbered (checks (fields r)) n)) e in to (same_fields r (print (fields r)) p.1.0, p.1.1);
  }

-- of a row of which only the datum is free, below a bound
pub datum_judged : (k unit channel bound : ℕ) (r : Row)
    → Judged (fault_in (row_tests (of_kind k) (λ r. r.datum) (row k unit channel) (below_checks 22 bound) r)) r.kind k ((r.unit ≡ unit) × (r.channel ≡ channel) × (r.datum < bound))
datum_judged k unit channel bound r = judged k (λ r. r.datum) (row k unit channel) (below_checks 22 bound) r (refl, tt)
    (λ p. (p.0.1, p.0.2, ltb→lt r.datum bound p.1.0)) (λ e h. ((e, h.0, h.1, refl), (lt→ltb r.datum bound h.2, tt)))

-- the same by one test: b says that the other rules hold
pub record Tested (number kind k : ℕ) (b : Bool) : Type 0 where
  pub other : (kind ≡ k → ⊥) → 21 ≡ number
  pub kept : kind ≡ k → b ≡ true → 0 ≡ number
  pub broken : kind ≡ k → b ≡ false → 22 ≡ number

pub tested : {number kind k : ℕ} {Keeps : Type 0} → Judged number kind k Keeps → (b : Bool) → (T b → Keeps) → (Keeps → T b) → Tested number kind k b
tested j b to from = record { other = j.other; kept = λ e t. j.right e (to (rw t tt)); broken = λ e f. j.wrong e (λ h. absurd (rw f at (from h))) }

pub test_number : {number kind k : ℕ} {b : Bool} → Tested number kind k b → number ≡ cond (eqb k kind) (cond b 0 22) 21
test_number {number} {kind} {k} {b} j = go (eqb k kind) refl b refl
  where
    go : (h : Bool) → eqb k kind ≡ h → (a : Bool) → b ≡ a → number ≡ cond h (cond a 0 22) 21
    go true e true t = sym (j.kept (sym (eqb-true k kind e)) t)
    go true e false t = sym (j.broken (sym (eqb-true k kind e)) t)
    go false e a t = sym (j.other (λ q. eqb-false k kind e (sym q)))

-- three tests, each and all
pub each_of : (a b c : Bool) → T ((a && b) && c) → T a × T b × T c
each_of a b c t =
    let x = both (a && b) c t in
    let y = both a b x.0 in
    (y.0, y.1, x.1)

pub three : (a b c : Bool) → T a → T b → T c → T ((a && b) && c)
three a b c x y z = rw (T_true a x, T_true b y) z

pub datum_tested : (k unit channel bound : ℕ) (r : Row)
    → Tested (fault_in (row_tests (of_kind k) (λ r. r.datum) (row k unit channel) (below_checks 22 bound) r)) r.kind k ((eqb r.unit unit && eqb r.channel channel) && ltb r.datum bound)
datum_tested k unit channel bound r =
    let a = eqb r.unit unit in
    let b = eqb r.channel channel in
    let c = ltb r.datum bound in
    tested (datum_judged k unit channel bound r) ((a && b) && c)
    (λ t. let x = each_of a b c t in (eqb→eq r.unit unit x.0, eqb→eq r.channel channel x.1, ltb→lt r.datum bound x.2))
    (λ y. three a b c (rw (eq-eqb r.unit unit y.0) tt) (rw (eq-eqb r.channel channel y.1) tt) (lt→ltb r.datum bound y.2))
