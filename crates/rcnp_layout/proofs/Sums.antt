-- What code that sums needs: the sum of one more word, and that of the words that were read.
-- Assumes nothing.
use Prim.Native.Nat.{ℕ, suc, ◌+◌, ◌%◌, ◌<◌}
use native.Mathlib.Omega.{arith}
use mathlib.Core.Path.{◌≡◌, ap, sym, ◌∙◌}
use mathlib.Core.List.{List, [], ◌∷◌, ◌++◌, append-nil}
use lib.Dec.{eqb}
use lib.ListN.{length, get_or, take}
use lib.Seq.{take-suc}
use Rattle.event.specs.Parser.{ok, finish, several}
use Rattle.event.proofs.Codes.{nil, codes_finish}
use Rattle.rcnp_layout.specs.Event.{Event}
use Rattle.rcnp_layout.specs.Layout.{words, total, summed}
use Rattle.rcnp_layout.specs.Reading.{region, sum_region, at_sum, parts_with}
use Rattle.rcnp_layout.proofs.Words.{codes_parts}
use Rattle.rcnp_layout.proofs.Event.{ends_parts}

-- one word more
pub total_append : (xs ys : List ℕ) → total (xs ++ ys) ≡ total xs + total ys
total_append [] ys = omega arith
total_append (x ∷ xs) ys = omega (arith, total_append xs ys)

pub total_next : (ws : List ℕ) (i : ℕ) → i < length ws → total (take (suc i) ws) ≡ total (take i ws) + get_or ws i 0
total_next ws i h = rw (take-suc ws i 0 h) (omega (arith, total_append (take i ws) (get_or ws i 0 ∷ [])))

-- of an event that was read, the sum is that of the words
pub read_sum : (ws : List ℕ) (e : Event) (j : ℕ) (r : List ℕ) → parts_with (finish 6) 0 ws ≡ ok e j r → (summed e ≡ eqb (total ws % 65536) 0) × (j ≡ length ws)
read_sum ws e j r h =
    let s = (codes_parts (codes_finish 6)).sound 0 ws e j r h in
    let l : ws ≡ words e = s.1 ∙ ap (words e ++◌) (nil r (ends_parts 6 (several region at_sum) sum_region 0 ws e j r h)) ∙ append-nil (words e) in
    (ap (λ (x : List ℕ). eqb (total x % 65536) 0) (sym l), omega (arith, s.2, ap length l))
