-- A table that is filled one by one, once all are.
-- Assumes nothing.
use Prim.Native.Nat.{ℕ, ◌≤◌, ◌<◌}
use native.Mathlib.Omega.{arith}
use mathlib.Core.Path.{◌≡◌, sym, ◌∙◌}
use mathlib.Core.List.{List}
use lib.ListN.{length, get_or}
use lib.Seq.{ext_get_or}
use Rattle.page_layout.specs.Plane.{table}
use Rattle.page_layout.proofs.Tables.{table_length, table_at}

module _ (size : ℕ) (f : ℕ → ℕ) where
  -- those below n stand there
  pub record Filled (n : ℕ) (xs : List ℕ) : Type 0 where
    pub all : length xs ≡ size
    pub right : (k : ℕ) → k < n → get_or xs k 0 ≡ f k

  pub all_filled : (n : ℕ) (xs : List ℕ) → size ≤ n → Filled n xs → xs ≡ table size f
  all_filled n xs h filled =
      ext_get_or 0 xs (table size f) (filled.all ∙ sym (table_length size f))
      (λ k l. filled.right k (omega (arith, filled.all)) ∙ sym (table_at size f k 0 (omega (arith, filled.all))))
