-- A block of longwords. Over plain values.
-- Assumes nothing.
use Prim.Native.Nat.{ℕ, ◌+◌}
use native.Mathlib.Omega.{arith}
use mathlib.Core.Path.{◌≡◌, sym}
use mathlib.Core.List.{List, [], ◌∷◌, ◌++◌}
use lib.ListN.{length}
use Rattle.event.specs.Words.{store_word}
use Rattle.event.specs.Scanning.{store_words}
use Rattle.event.proofs.Leads.{store_append}
use Rattle.event.proofs.WordStores.{stored_before}

-- a block at the front: the longwords under its header, then the header and the footer
pub block_stored : (b : List ℕ) (header : ℕ) (ws : List ℕ) (footer : ℕ) {b₁ b₂ b₃ : List ℕ} {k : ℕ} → b₁ ≡ store_words 32 b 1 ws → b₂ ≡ store_word 32 b₁ 0 header → k ≡ 1 + length ws
    → b₃ ≡ store_word 32 b₂ k footer → b₃ ≡ store_words 32 b 0 (header ∷ (ws ++ (footer ∷ [])))
block_stored b header ws footer p q l r = rw (r, q, l, p, stored_before 32 ws b 0 1 header (omega arith)) (sym (store_append (store_word 32) (store_word 32 b 0 header) 1 ws (footer ∷ [])))
