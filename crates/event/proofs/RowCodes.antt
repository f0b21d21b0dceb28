-- Rows with fields, coded by what their fields print; and rows in a buffer: a writing from elements accepts exactly those of accepted rows.
-- Assumes nothing.
use Prim.Native.Nat.{ℕ, ◌%◌}
use native.Mathlib.Omega.{arith}
use mathlib.Core.Path.{◌≡◌, refl, ap}
use mathlib.Core.Logic.{◌↔◌}
use mathlib.Core.Bool.{Bool, true}
use mathlib.Core.List.{List, [], ◌∷◌}
use lib.Dec.{T, eqb, eqb→eq}
use lib.ListN.{length}
use borrow.Author.Tests.{eqb-true, eq-eqb}
use Rattle.event.specs.declared.Row.{Row}
use Rattle.event.specs.Parser.{Test, Passed}
use Rattle.event.specs.Outcome.{Outcome, done}
use Rattle.event.specs.Rows.{flat}
use Rattle.event.specs.Writing.{row_tests, is_same_row, row_with, rows_in, from_elements}
use Rattle.event.proofs.Codes.{Codes, any, codes_element}
use Rattle.event.proofs.Elements.{both}
use Rattle.event.proofs.Whole.{passed}

-- a row's fields beside those of another
abbrev pub SameFields : Row → Row → Type 0
SameFields r s = (r.kind ≡ s.kind) × (r.unit ≡ s.unit) × (r.channel ≡ s.channel) × (r.datum ≡ s.datum)

pub same_fields : (r s : Row) → T (is_same_row r s) → SameFields r s
same_fields r s t =
    let a = both (eqb r.kind s.kind) _ t in
    let b = both (eqb r.unit s.unit) _ a.1 in
    let c = both (eqb r.channel s.channel) _ b.1 in
    (eqb→eq r.kind s.kind a.0, eqb→eq r.unit s.unit b.0, eqb→eq r.channel s.channel c.0, eqb→eq r.datum s.datum c.1)

pub fields_same : (r s : Row) → SameFields r s → is_same_row r s ≡ true
fields_same r s h = rw (eq-eqb r.kind s.kind h.0, eq-eqb r.unit s.unit h.1, eq-eqb r.channel s.channel h.2, eq-eqb r.datum s.datum h.3)

same_row : (r s : Row) → T (is_same_row r s) → r ≡ s
same_row r s t = let h = same_fields r s t in λ i. record { kind = h.0 i; unit = h.1 i; channel = h.2 i; datum = h.3 i }

row_refl : (r : Row) → T (is_same_row r r)
row_refl r = rw (fields_same r r (refl, refl, refl, refl)) tt

-- a row: that it may stand there, and its fields, may need its checks to be found again
pub codes_row_at : {A : Type 0} (stands : Row → Bool) (fields : Row → A) (print : A → Row) (checks : A → List Test)
    → ((a : A) → Passed (checks a) → T (stands (print a))) → ((a : A) → Passed (checks a) → fields (print a) ≡ a)
    → Codes any (row_with stands fields print checks) (λ a. print a ∷ []) (λ a. Passed (checks a))
codes_row_at stands fields print checks may back = codes_element 21 fields (row_tests stands fields print checks) print (λ a. Passed (checks a))
    (λ r p. (p.1.1, same_row r (print (fields r)) p.1.0))
    (λ a g. (back a g, rw (back a g) (may a g, (row_refl (print a), g))))

-- such a row that may always stand there
pub codes_row : {A : Type 0} (stands : Row → Bool) (fields : Row → A) (print : A → Row) (checks : A → List Test)
    → ((a : A) → T (stands (print a))) → ((a : A) → Passed (checks a) → fields (print a) ≡ a)
    → Codes any (row_with stands fields print checks) (λ a. print a ∷ []) (λ a. Passed (checks a))
codes_row stands fields print checks may = codes_row_at stands fields print checks (λ a g. may a)

pub flat_in : (rs : List Row) → rows_in (flat rs) ≡ rs
flat_in [] = refl
flat_in (r ∷ rs) = ap (r ∷◌) (flat_in rs)

fours : (rs : List Row) → length (flat rs) % 4 ≡ 0
fours [] = refl
fours (r ∷ rs) = omega (arith, fours rs)

pub elements_iff : (writing_rows : List Row → Outcome ℕ) (xs ws : List ℕ) → (from_elements writing_rows xs ≡ done ws) ↔ ((rs : List Row) × (flat rs ≡ xs) × (writing_rows rs ≡ done ws))
elements_iff writing_rows xs ws = (to, from)
  where
    in_flat : (xs : List ℕ) → length xs % 4 ≡ 0 → flat (rows_in xs) ≡ xs
    in_flat [] e = refl
    in_flat (k ∷ []) e = absurd (omega arith)
    in_flat (k ∷ u ∷ []) e = absurd (omega arith)
    in_flat (k ∷ u ∷ c ∷ []) e = absurd (omega arith)
    in_flat (k ∷ u ∷ c ∷ d ∷ xs) e = ap (λ (l : List ℕ). k ∷ u ∷ c ∷ d ∷ l) (in_flat xs (omega arith))

    to : from_elements writing_rows xs ≡ done ws → (rs : List Row) × (flat rs ≡ xs) × (writing_rows rs ≡ done ws)
    to e = let a = passed (eqb (length xs % 4) 0) _ 20 0 ws e in (rows_in xs, in_flat xs (eqb-true (length xs % 4) 0 a.0), a.1)

    from : (rs : List Row) × (flat rs ≡ xs) × (writing_rows rs ≡ done ws) → from_elements writing_rows xs ≡ done ws
    from o = rw (← o.1, eq-eqb (length (flat o.0) % 4) 0 (fours o.0), flat_in) o.2
