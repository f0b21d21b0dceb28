-- Words of either width by their numbers: how many, which, and the tail.
-- Assumes nothing.
use Prim.Native.Nat.{ℕ, ◌<◌}
use mathlib.Core.Path.{◌≡◌, sym}
use mathlib.Core.Bool.{Bool, true, false, cond}
use mathlib.Core.List.{List, map}
use lib.Dec.{ltb}
use lib.ListN.{length, get_or, drop}
use Rattle.std.proofs.lemmas.List.{length-map, get_or-map, drop-map}
use Rattle.comparison.specs.Differences.{tail_of}

module _ {W : Type 0} {numbers : List W → List ℕ} {number : W → ℕ} (each : (ws : List W) → numbers ws ≡ map number ws) where
  pub numbers_length : (ws : List W) → length (numbers ws) ≡ length ws
  numbers_length ws = rw (each ws) (length-map ws number)

  pub number_at : (ws : List W) (i : ℕ) (z : W) → i < length ws → get_or (numbers ws) i 0 ≡ number (get_or ws i z)
  number_at ws i z h = rw (each ws) (get_or-map number ws i z 0 h)

  pub numbers_tail : (a b : List W) → numbers (tail_of a b) ≡ tail_of (numbers a) (numbers b)
  numbers_tail a b = rw (each (tail_of a b), each a, each b, length-map, length-map) (go (ltb (length a) (length b)))
    where
      go : (t : Bool) → map number (cond t (drop (length a) b) (drop (length b) a)) ≡ cond t (drop (length a) (map number b)) (drop (length b) (map number a))
      go true = sym (drop-map number (length a) b)
      go false = sym (drop-map number (length b) a)
