-- A row that failed a test of the code: what the parser of the row refuses.
-- Assumes nothing.
use Prim.Native.Nat.{ℕ}
use mathlib.Core.Path.{◌≡◌, ap}
use mathlib.Core.Bool.{Bool, false}
use mathlib.Core.List.{List}
use lib.ListN.{get_or, drop}
use Rattle.std.specs.Prelude.{Err}
use Rattle.std.specs.Result.{IsErrAnd}
use Rattle.std.proofs.lemmas.Result.{err_from_is_err_and}
use Rattle.event.specs.declared.refusal.Refusal.{Refusal}
use Rattle.event.specs.declared.Row.{Row}
use Rattle.std.specs.Prelude as std
use Rattle.event.specs.Parser.{Result, Parser, Test, fault_in, then}
use Rattle.event.specs.Refusal.{verdict}
use Rattle.event.specs.Scanning.{RefusedAs}
use Rattle.event.specs.Writing.{row_tests, row_with, no_row}
use Rattle.event.proofs.Answers.{Failed}
use Rattle.event.proofs.RowFaults.{Numbered}
use Rattle.event.proofs.RowJudged.{row_refused}

-- the verdict of a number that a test found
pub same_verdict : {n m : ℕ} (k : ℕ) → n ≡ m → verdict n k ≡ verdict m k
same_verdict k e = ap (λ (n : ℕ). verdict n k) e

pub row_failed : {A : Type 0} (stands : Row → Bool) (fields : Row → A) (print : A → Row) (checks : A → List Test) → stands no_row ≡ false → ((a : A) → Numbered (checks a))
    → (rs : List Row) (i : ℕ) {r : Row} → r ≡ get_or rs i no_row → {n : ℕ} {refused : Refusal} → fault_in (row_tests stands fields print checks r) ≡ n → Failed n i refused
    → RefusedAs (row_with stands fields print checks i (drop i rs)) refused
row_failed stands fields print checks none numbered rs i e {n} law t =
    record { number = n; place = i; refused = row_refused stands fields print checks none numbered rs i e (rw law) t.some; named = t.named }

-- what comes first is refused
pub refused_first : {E A B : Type 0} {x : Result E A} (rest : A → Parser E B) {refused : Refusal} → RefusedAs x refused → RefusedAs (then rest x) refused
refused_first rest t = record { number = t.number; place = t.place; refused = rw t.refused; named = t.named }

-- what a `?` returns
pub handed_on : {T E : Type 0} {e : E} (r : std.Result T E) → IsErrAnd r (λ y. y ≡ e) → r ≡ Err e
handed_on r s = let p = err_from_is_err_and r s in rw (p.1, p.2)
