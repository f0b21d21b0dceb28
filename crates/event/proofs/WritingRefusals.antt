-- The refusals of a writing, over any dialect: each number with its place, once it is shown that the rows are refused by 21 and 22 only.
-- Assumes nothing.
use Prim.Native.Nat.{ℕ, ◌+◌, ◌/◌, ◌%◌, ◌≤◌, ◌<◌}
use native.Mathlib.Omega.{arith}
use mathlib.Core.Path.{◌≡◌, refl}
use mathlib.Core.Logic.{inl, inr, ⊎_elim}
use mathlib.Core.Bool.{Bool, true, false, cond}
use mathlib.Core.List.{List, []}
use lib.Dec.{T, eqb}
use lib.ListN.{length}
use borrow.Author.Tests.{eqb-true, eqb-false}
use Rattle.event.specs.declared.Row.{Row}
use Rattle.event.specs.Parser.{Parser, Test, element, times, many}
use Rattle.event.specs.Words.{between}
use Rattle.event.specs.Outcome.{done, refused, outcome, limited}
use Rattle.event.specs.Writing.{rows_in, writing_by, RefusedAt}
use Rattle.event.proofs.Elements.{bounds}
use Rattle.event.proofs.Refusals.{Keeps, There, keeps_left, keeps_element, keeps_times, keeps_many_at, keeps_outcome}
use Rattle.event.proofs.RowsIn.{rows_count}
use Rattle.event.proofs.Whole.{limited_refused}

-- the refusals of a row
abbrev of_row : ℕ → Bool
of_row = between 21 22

-- a row that is missing is refused at the row count, by 21
abbrev past : ℕ → ℕ
past n = cond (eqb n 21) 1 0

-- a parser of rows, in a writing of `count` rows; what it leaves is no longer than what it found, or shorter
abbrev pub Writes : {A : Type 0} → ℕ → List Row → Parser Row A → Type 0
Writes count s p = Keeps of_row count past s p (λ r. length r ≤ length s)

abbrev pub Takes : {A : Type 0} → ℕ → List Row → Parser Row A → Type 0
Takes count s p = Keeps of_row count past s p (λ r. length r < length s)

pub takes_row : {A : Type 0} {count n : ℕ} (fields : Row → A) (tests : Row → List Test) {s : List Row} → There of_row past n tests s → Takes count s (element n fields tests)
takes_row fields tests c = keeps_left (keeps_element fields tests c) (λ r e. omega arith)

pub writes_many : {St A : Type 0} {count : ℕ} (item : St → Parser Row A) (next : St → A → St) (stop : List Row → Bool) → T (stop [])
    → ((st : St) (s : List Row) → Takes count s (item st)) → (st : St) (s : List Row) → Writes count s (many item next stop st)
writes_many item next stop halt c st s = keeps_left
    (keeps_many_at item next stop halt (λ r. length r ≤ length s) (λ st t g l. keeps_left (c st t) (λ r e. (e, omega arith))) st s (omega arith))
    (λ r h. h.1)

pub writes_times : {St A : Type 0} {count : ℕ} (item : St → Parser Row A) (next : St → A → St) → ((st : St) (s : List Row) → Takes count s (item st))
    → (n : ℕ) (st : St) (s : List Row) → Writes count s (times item next n st)
writes_times item next c n st s = keeps_times item next (λ k r. length r ≤ length s) (λ k st t g. keeps_left (c st t) (λ r e. omega arith)) n st s (omega arith)

module _ {Event : Type 0} {p : Parser Row Event} (words : Event → List ℕ) (largest : ℕ) (c : (rs : List Row) → Writes (length rs) rs p) (xs : List ℕ) (n k : ℕ) where
  -- 21 or 22, each at its places
  placed : (b : Bool) → eqb n 21 ≡ b → T (of_row n) → k < length (rows_in xs) + cond b 1 0 → RefusedAt largest (length xs / 4) n k
  placed true e t l = inr (inl (eqb-true n 21 e, omega (arith, rows_count xs)))
  placed false e t l = inr (inr (inl (omega (arith, bounds 21 22 n t, eqb-false n 21 e), omega (arith, rows_count xs))))

  of_rows : limited 23 largest (outcome (λ e. done (words e)) (p 0 (rows_in xs))) ≡ refused n k → RefusedAt largest (length xs / 4) n k
  of_rows e = ⊎_elim
      (λ r.
      let h = keeps_outcome (c (rows_in xs)) (omega arith) words n k r in
      placed (eqb n 21) refl h.0 h.1)
      (λ h. inr (inr (inr h)))
      (limited_refused 23 largest (outcome (λ e. done (words e)) (p 0 (rows_in xs))) n k e)

  pub writing_refused : writing_by words largest p xs ≡ refused n k → RefusedAt largest (length xs / 4) n k
  writing_refused = go (eqb (length xs % 4) 0)
    where
      go : (b : Bool) → cond b (limited 23 largest (outcome (λ e. done (words e)) (p 0 (rows_in xs)))) (refused 20 0) ≡ refused n k → RefusedAt largest (length xs / 4) n k
      go true e = of_rows e
      go false e = inl (cc, cc)
