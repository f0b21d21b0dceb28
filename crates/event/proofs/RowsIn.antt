-- The rows in a buffer, by their index.
-- Assumes nothing.
use Prim.Native.Nat.{ℕ, zero, suc, ◌+◌, ◌*◌, ◌/◌, ◌≤◌, ◌<◌}
use native.Mathlib.Omega.{arith}
use mathlib.Core.Path.{◌≡◌, refl, ap}
use mathlib.Core.List.{List, [], ◌∷◌}
use lib.ListN.{length, get_or}
use Rattle.event.specs.declared.Row.{Row}
use Rattle.event.specs.Rows.{row}
use Rattle.event.specs.Writing.{rows_in, no_row, row_at}

pub rows_count : (xs : List ℕ) → length (rows_in xs) ≡ length xs / 4
rows_count [] = refl
rows_count (k ∷ []) = refl
rows_count (k ∷ u ∷ []) = refl
rows_count (k ∷ u ∷ c ∷ []) = refl
rows_count (k ∷ u ∷ c ∷ d ∷ xs) = omega (arith, rows_count xs)

-- four elements from 4 × i on
pub row_there : (xs : List ℕ) (i : ℕ) → i < length xs / 4
    → row (get_or xs (i * 4) 0) (get_or xs (i * 4 + 1) 0) (get_or xs (i * 4 + 2) 0) (get_or xs (i * 4 + 3) 0) ≡ row_at xs i
row_there [] i h = absurd (omega arith)
row_there (k ∷ []) i h = absurd (omega arith)
row_there (k ∷ u ∷ []) i h = absurd (omega arith)
row_there (k ∷ u ∷ c ∷ []) i h = absurd (omega arith)
row_there (k ∷ u ∷ c ∷ d ∷ xs) zero h = refl
row_there (k ∷ u ∷ c ∷ d ∷ xs) (suc i) h =
    let ih = row_there xs i (omega arith) in
    let z : suc i * 4 ≡ suc (suc (suc (suc (i * 4)))) = omega arith in
    let e : (j : ℕ) → suc i * 4 + j ≡ suc (suc (suc (suc (i * 4 + j)))) = λ j. omega arith in
    let p = ap (λ (n : ℕ). get_or (k ∷ u ∷ c ∷ d ∷ xs) n 0) z in
    let q : (j : ℕ) → get_or (k ∷ u ∷ c ∷ d ∷ xs) (suc i * 4 + j) 0 ≡ get_or xs (i * 4 + j) 0 = λ j. ap (λ (n : ℕ). get_or (k ∷ u ∷ c ∷ d ∷ xs) n 0) (e j) in
    cc (q 1, q 2, q 3)

pub row_past : (xs : List ℕ) (i : ℕ) → length xs / 4 ≤ i → no_row ≡ row_at xs i
row_past xs i h = past (rows_in xs) i (rw (rows_count xs) h)
  where
    past : (rs : List Row) (i : ℕ) → length rs ≤ i → no_row ≡ get_or rs i no_row
    past [] i h = refl
    past (r ∷ rs) zero h = absurd (omega arith)
    past (r ∷ rs) (suc i) h = past rs i (omega arith)
