-- A row by its index, judged by the refusal number of its tests: what the parser of the row gives.
-- Assumes nothing.
use Prim.Native.Nat.{ℕ, zero, suc, ◌+◌, ◌≤◌, ◌<◌}
use native.Mathlib.Omega.{arith}
use native.Mathlib.Numerals.{add-one}
use mathlib.Core.Path.{◌≡◌, refl, sym, ap, ◌∙◌}
use mathlib.Core.Bool.{Bool, true, false, cond}
use mathlib.Core.List.{List, [], ◌∷◌}
use lib.ListN.{length, get_or, drop}
use lib.Seq.{drop-cons}
use Rattle.event.specs.declared.Row.{Row}
use Rattle.event.specs.Parser.{ok, refuse, Test, fault_in, judge}
use Rattle.event.specs.Writing.{row_tests, row_with, no_row}
use Rattle.event.proofs.Codes.{judge_complete}
use Rattle.event.proofs.RowFaults.{Numbered, all_hold}

module _ {E A : Type 0} (a : A) (i : ℕ) (r : List E) where
  judge_some : (ts : List Test) {n : ℕ} → n ≡ fault_in ts → (n ≡ 0 → ⊥) → judge ts a i r ≡ refuse n i
  judge_some [] e z = absurd (z e)
  judge_some (t ∷ ts) {n} e z = go t.holds (λ q. judge_some ts q z) e
    where
      go : (b : Bool) → (n ≡ fault_in ts → judge ts a i r ≡ refuse n i) → n ≡ cond b (fault_in ts) t.number → cond b (judge ts a i r) (refuse t.number i) ≡ refuse n i
      go true ih e = ih e
      go false ih e = ap (λ (m : ℕ). refuse m i) (sym e)

-- rows from i on
pub rows_from_lem : (rs : List Row) (i : ℕ) → i < length rs → drop i rs ≡ get_or rs i no_row ∷ drop (i + 1) rs
rows_from_lem rs i h = rw (add-one i) (drop-cons rs i no_row h)

pub rows_over : (rs : List Row) (i : ℕ) → length rs ≤ i → (drop i rs ≡ []) × (get_or rs i no_row ≡ no_row)
rows_over [] zero h = (refl, refl)
rows_over [] (suc i) h = (refl, refl)
rows_over (r ∷ rs) zero h = absurd (omega arith)
rows_over (r ∷ rs) (suc i) h = rows_over rs i (omega arith)

-- there is a row, or the rows end
data Place (rs : List Row) (i : ℕ) : Type 0 where
  there : i < length rs → Place rs i
  over : length rs ≤ i → Place rs i

place : (rs : List Row) (i : ℕ) → Place rs i
place [] i = over (omega arith)
place (r ∷ rs) zero = there (omega arith)
place (r ∷ rs) (suc i) = go (place rs i)
  where
    go : Place rs i → Place (r ∷ rs) (suc i)
    go (there h) = there (omega arith)
    go (over h) = over (omega arith)

-- a row of zeros may not stand there, so a row that is taken is there
module _ {A : Type 0} (stands : Row → Bool) (fields : Row → A) (print : A → Row) (checks : A → List Test) (none : stands no_row ≡ false) (numbered : (a : A) → Numbered (checks a))
    (rs : List Row) (i : ℕ) {r : Row} (e : r ≡ get_or rs i no_row) where
  pub row_taken : 0 ≡ fault_in (row_tests stands fields print checks r) → (i < length rs) × (row_with stands fields print checks i (drop i rs) ≡ ok (fields r) (i + 1) (drop (i + 1) rs))
  row_taken f = go (place rs i)
    where
      go : Place rs i → (i < length rs) × (row_with stands fields print checks i (drop i rs) ≡ ok (fields r) (i + 1) (drop (i + 1) rs))
      go (there h) = (h, rw (rows_from_lem rs i h, ← e, add-one i) (judge_complete (row_tests stands fields print checks r) (fields r) i (drop (suc i) rs) (all_hold (row_tests stands fields print checks r) (tt, (tt, numbered (fields r))) f)))
      go (over h) =
          let z : stands r ≡ false = rw (e ∙ (rows_over rs i h).1) none in
          let n : ◌≡◌ {A = ℕ} 0 21 = rw z at f in
          absurd (omega arith)

  pub row_refused : {n : ℕ} → n ≡ fault_in (row_tests stands fields print checks r) → (n ≡ 0 → ⊥) → row_with stands fields print checks i (drop i rs) ≡ refuse n i
  row_refused {n} f z = go (place rs i)
    where
      go : Place rs i → row_with stands fields print checks i (drop i rs) ≡ refuse n i
      go (there h) = rw (rows_from_lem rs i h, ← e) (judge_some (fields r) i (drop (i + 1) rs) (row_tests stands fields print checks r) f z)
      go (over h) =
          let q : stands r ≡ false = rw (e ∙ (rows_over rs i h).1) none in
          let m : n ≡ 21 = rw q at f in
          rw ((rows_over rs i h).0, m)
