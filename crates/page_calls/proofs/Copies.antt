-- Numbers copied to the front of a buffer, one by one, and a page's among them.
-- Assumes nothing.
use Prim.Native.Nat.{ℕ, suc, ◌+◌, ◌≤◌, ◌<◌}
use native.Mathlib.Numerals.{add-one}
use native.Mathlib.Omega.{arith}
use mathlib.Core.Path.{◌≡◌, ◌∙◌}
use mathlib.Core.List.{List, [], ◌∷◌}
use lib.ListN.{length, get_or, set, length-set}
use lib.Seq.{paste, paste-suc, take-length}
use borrow.Author.Tests.{le-leb, lt-leb}
use Rattle.page_calls.specs.Calls.{all_put}

-- items are put behind the first `at` elements
module _ (items buffer₀ : List ℕ) (at : ℕ) where
  -- k of them stand there
  pub record Copied (k : ℕ) (buffer : List ℕ) : Type 0 where
    pub long : length buffer ≡ length buffer₀
    pub front : buffer ≡ paste buffer₀ at items k

  pub one_more : (k : ℕ) (buffer : List ℕ) → k < length items → at + length items ≤ length buffer₀ → Copied k buffer
      → Copied (k + 1) (set buffer (at + k) (get_or items k 0))
  one_more k buffer h l c = record {
    long = rw length-set c.long;
    front = rw (c.front, add-one) (paste-suc buffer₀ at items k 0 (omega arith) h);
  }

pub none_put : (items buffer₀ : List ℕ) → length buffer₀ < length items → buffer₀ ≡ all_put items buffer₀
unfolding all_put
none_put items buffer₀ h = rw (lt-leb (length items) (length buffer₀) h)

-- two items, and others behind them
pub two_then : (a b : ℕ) (items buffer₀ : List ℕ) (k : ℕ) (buffer : List ℕ) → k ≡ length items → 2 + length items ≤ length buffer₀
    → Copied items (set (set buffer₀ 0 a) 1 b) 2 k buffer → buffer ≡ all_put (a ∷ b ∷ items) buffer₀
unfolding all_put
two_then a b items [] k buffer e h c = absurd (omega arith)
two_then a b items (x ∷ []) k buffer e h c = absurd (omega arith)
two_then a b items (x ∷ y ∷ buffer₀) k buffer e h c =
    let n : 2 + length items ≡ suc (suc (length items)) = omega arith in
    c.front ∙ rw (e, take-length items, n, le-leb (suc (suc (length items))) (suc (suc (length buffer₀))) (omega arith))
