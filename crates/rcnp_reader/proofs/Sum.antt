-- The sum of words, as the layout says it and as the library does.
-- Assumes nothing.
use Prim.Native.Nat.{ℕ, ◌+◌}
use native.Mathlib.Omega.{arith}
use mathlib.Core.Path.{◌≡◌, ◌∙◌}
use mathlib.Core.List.{List, [], ◌∷◌}
use Rattle.std.specs.List.{fold, sum}
use Rattle.rcnp_layout.specs.Layout.{total}

sum_from : (a : ℕ) (ws : List ℕ) → fold (λ s w. s + w) a ws ≡ a + total ws
sum_from a [] = omega arith
sum_from a (w ∷ ws) = omega (arith, sum_from (a + w) ws)

pub sum_total : (ws : List ℕ) → sum ws ≡ total ws
sum_total ws = sum_from 0 ws ∙ omega arith
