-- Rows stored run by run, and the vector that they make. Assumes nothing.
use mathlib.Core.Path.{◌≡◌, refl}
use mathlib.Core.Bool.{Bool, true, false, cond}
use mathlib.Core.List.{List}
use Prim.Native.Nat.{ℕ, zero, suc, ◌+◌, ◌-◌, ◌*◌, ◌/◌, ◌≤◌, ◌<◌}
use native.Mathlib.Nat.{not-suc-le-zero}
use native.Mathlib.Numerals.{sub-one}
use native.Mathlib.Omega.{arith}
use lib.Dec.{ltb, leb}
use lib.ListN.{length, take, replicate}
use Rattle.std.specs.Prelude.{Option, Some, None}
use Rattle.event.specs.declared.Row.{Row}
use Rattle.event.specs.Rows.{store_row}
use Rattle.event.specs.Scanning.{store_rows}
use Rattle.run_vectors.specs.declared.lines.Numbers.{Numbers}
use Rattle.run_vectors.specs.declared.vectors.Vector.{Vector}
use Rattle.run_vectors.specs.declared.vectors.Rows.{Rows}
use Rattle.run_vectors.specs.Lines.{line_bytes, line_at}
use borrow.Author.Tests.{leb-true, lt-ltb, le-ltb}
use Rattle.run_vectors.specs.Vectors.{most_elements, call_number, head_holds, expansion, row_of, suits, call_of, call_dialect, vector_of, vector_at, VectorWithin}

-- a row that is stored so many times: once more
module _ (buffer : List ℕ) (at : ℕ) (row : Row) where
  pub repeat_next : (n : ℕ) → 0 < n → store_rows buffer at (replicate n row) ≡ store_rows (store_row buffer at row) (at + 1) (replicate (n - 1) row)
  repeat_next zero h = absurd (not-suc-le-zero h)
  repeat_next (suc n) h = rw sub-one

-- runs: none left; the next line malformed; too many rows; the rows of one run more
module _ (input : List ℕ) (most place count : ℕ) (buffer : List ℕ) where
  pub runs_none : (n : ℕ) → n ≤ 0 → expansion input most place count n buffer ≡ (Some (record { count = count; next = place }), buffer)
  unfolding expansion
  runs_none zero h = refl
  runs_none (suc n) h = absurd (not-suc-le-zero h)

  pub runs_malformed : (n : ℕ) → 0 < n → None ≡ line_at input place → expansion input most place count n buffer ≡ (None, buffer)
  unfolding expansion
  runs_malformed zero h e = absurd (not-suc-le-zero h)
  runs_malformed (suc n) h e = rw (← e)

  module _ {run : Numbers} (n : ℕ) (h : 0 < n) (e : Some run ≡ line_at input place) where
    pub runs_crowded : most - count < run.first → expansion input most place count n buffer ≡ (None, buffer)
    unfolding expansion
    runs_crowded t = go n h
      where
        go : (n : ℕ) → 0 < n → expansion input most place count n buffer ≡ (None, buffer)
        go zero h = absurd (not-suc-le-zero h)
        go (suc n) h = rw (← e, lt-ltb (most - count) run.first t)

    pub runs_next : {row : Row} {after : List ℕ} → run.first ≤ most - count → row ≡ row_of run → after ≡ store_rows buffer count (replicate run.first row)
        → expansion input most place count n buffer ≡ expansion input most (place + line_bytes) (count + run.first) (n - 1) after
    unfolding expansion
    runs_next {row} {after} t r s = go n h
      where
        go : (n : ℕ) → 0 < n → expansion input most place count n buffer ≡ expansion input most (place + line_bytes) (count + run.first) (n - 1) after
        go zero h = absurd (not-suc-le-zero h)
        go (suc n) h = rw (← e, le-ltb (most - count) run.first t, sub-one, s, r)

-- a vector: its head's line malformed; its head does not hold; its runs malformed; its runs expanded
module _ (input : List ℕ) (place : ℕ) (buffer : List ℕ) where
  pub vector_no_line : None ≡ line_at input place → vector_at input place buffer ≡ (None, buffer)
  unfolding vector_at
  vector_no_line e = rw (← e)

  module _ {head : Numbers} (e : Some head ≡ line_at input place) where
    pub vector_no_head : head_holds head ≡ false → vector_at input place buffer ≡ (None, buffer)
    unfolding vector_at
    vector_no_head f = rw (← e, f)

    module _ (f : head_holds head ≡ true) where
      abbrev runs : Option Rows × List ℕ
      runs = expansion input (length buffer / 4) (place + line_bytes) 0 head.fifth buffer

      pub vector_no_runs : {after : List ℕ} → (None, after) ≡ runs → vector_at input place buffer ≡ (None, after)
      unfolding vector_at
      vector_no_runs g = rw (← e, f, ← g)

      pub vector_runs : {after : List ℕ} {rows : Rows} → (Some rows, after) ≡ runs → vector_at input place buffer ≡ (vector_of head after (rows.count * 4) rows.next, after)
      unfolding vector_at
      vector_runs g = rw (← e, f, ← g)

-- a head that holds leaves no more room than can be lent
third_test : (s t u : Bool) → cond s false (cond t false u) ≡ true → u ≡ true
third_test true t u e = cc
third_test false true u e = cc
third_test false false u e = e

pub head_room : (head : Numbers) → head_holds head ≡ true → head.third ≤ most_elements
unfolding head_holds
head_room head e = leb-true head.third most_elements (third_test (ltb 1 (call_number head.first)) (ltb 1 head.second) (leb head.third most_elements) e)

-- a vector that is given stays within what its head and its runs give
module _ (n most place : ℕ) where
  given_within : (s t : Bool) (vector : Vector) → VectorWithin n most place (Some vector)
      → VectorWithin n most place (cond s None (cond t (Some vector) None))
  given_within true t vector h = tt
  given_within false true vector h = h
  given_within false false vector h = tt

  pub vector_within : (head : Numbers) (buffer : List ℕ) (all next : ℕ) → place < next → next ≤ n → head.third ≤ most_elements → all ≤ most
      → VectorWithin n most place (vector_of head buffer all next)
  unfolding vector_of
  vector_within head buffer all next p q r s =
      given_within (ltb all head.fourth) (suits (call_of (call_number head.first)) (call_dialect head.first) (take (all - head.fourth) buffer)) _ (p, q, r, omega arith)
