-- Rows stored one by one in a buffer, each where it has room; a row for each word from `first` on.
-- Assumes nothing.
use Prim.Native.Nat.{ℕ, ◌+◌, ◌*◌, ◌-◌, ◌≤◌, ◌<◌, min}
use native.Mathlib.Omega.{arith}
use native.Mathlib.Numerals.{add-one}
use mathlib.Core.Path.{◌≡◌, refl, ap, sym, ◌∙◌}
use mathlib.Core.Bool.{Bool, true, false, cond}
use mathlib.Core.List.{List, [], ◌∷◌, ◌++◌, map, map-append}
use lib.Dec.{ltb, leb}
use lib.ListN.{length, get_or, take, drop, length-map, take-append-drop}
use lib.Seq.{sets, length-sets, slice, length-slice, length-take-le, take-suc, take-take, drop-append-le}
use borrow.Author.Tests.{le-ltb, leb-true, leb-false}
use Rattle.event.specs.declared.Row.{Row}
use Rattle.event.specs.Rows.{flat_row, room, store_row}
use Rattle.event.specs.Scanning.{store_rows}
use Rattle.event.proofs.Leads.{store_append}

length_row : (b : List ℕ) (k : ℕ) (r : Row) → length (store_row b k r) ≡ length b
unfolding store_row
length_row b k r = go (ltb k (room (length b)))
  where
    go : (t : Bool) → length (cond t (sets b (k * 4) (flat_row r)) b) ≡ length b
    go true = length-sets b (k * 4) (flat_row r)
    go false = refl

pub length_rows : (rs : List Row) (b : List ℕ) (k : ℕ) → length (store_rows b k rs) ≡ length b
length_rows [] b k = refl
length_rows (r ∷ rs) b k = length_rows rs (store_row b k r) (k + 1) ∙ length_row b k r

-- rows past the room
pub past_room : (rs : List Row) (b : List ℕ) (k : ℕ) → room (length b) ≤ k → store_rows b k rs ≡ b
unfolding store_row
past_room [] b k h = refl
past_room (r ∷ rs) b k h = rw (le-ltb k (room (length b)) h) (past_room rs b (k + 1) (omega arith))

-- a slice, cut at m
slice_cut : (ws : List ℕ) (first m end : ℕ) → first ≤ m → m ≤ end → end ≤ length ws → slice first end ws ≡ slice first m ws ++ slice m end ws
slice_cut ws first m end h g l =
    let t : take end ws ≡ take m ws ++ drop m (take end ws) = sym (take-append-drop m (take end ws)) ∙ ap (◌++ drop m (take end ws)) (take-take m end ws g) in
    ap (drop first) t ∙ drop-append-le first (take m ws) (drop m (take end ws)) (rw (length-take-le m ws (omega arith)) h)

pub slice_more : (ws : List ℕ) (first i : ℕ) → first ≤ i → i < length ws → slice first (i + 1) ws ≡ slice first i ws ++ (get_or ws i 0 ∷ [])
slice_more ws first i h l = rw (add-one i, take-suc ws i 0 l) (drop-append-le first (take i ws) (get_or ws i 0 ∷ []) (rw (length-take-le i ws (omega arith)) h))

module _ (row_of : ℕ → Row) (ws : List ℕ) (first at : ℕ) (b : List ℕ) where
  abbrev stored : ℕ → List ℕ
  stored end = store_rows b at (map row_of (slice first end ws))

  behind : (i : ℕ) (xs : List ℕ) → i ≤ length ws → store_rows b at (map row_of (slice first i ws ++ xs)) ≡ store_rows (stored i) (at + (i - first)) (map row_of xs)
  behind i xs l =
      rw (map-append row_of (slice first i ws) xs, store_append store_row b at (map row_of (slice first i ws)) (map row_of xs), length-map (slice first i ws) row_of, length-slice first i ws l)

  -- one more
  pub stored_more : (i : ℕ) → first ≤ i → i < length ws → stored (i + 1) ≡ store_row (stored i) (at + (i - first)) (row_of (get_or ws i 0))
  stored_more i h l = rw (slice_more ws first i h l) (behind i (get_or ws i 0 ∷ []) (omega arith))

  -- the same in a loop from 0 on
  pub stored_next : (m : ℕ) {w : ℕ} {b₁ b₂ : List ℕ} → first + m < length ws → b₁ ≡ stored (first + m) → w ≡ get_or ws (first + m) 0 → b₂ ≡ store_row b₁ (at + m) (row_of w)
      → b₂ ≡ stored (first + (m + 1))
  stored_next m l e d q =
      let n : first + (m + 1) ≡ first + m + 1 = omega arith in
      let k : first + m - first ≡ m = omega arith in
      q ∙ rw (e, d, n, stored_more (first + m) (omega arith) l, k)

  -- those that fit are as good as all
  pub stored_enough : (m end : ℕ) → first ≤ end → end ≤ length ws → m ≡ min (end - first) (room (length b) - at) → stored end ≡ stored (first + m)
  stored_enough m end h l e = go (leb (end - first) (room (length b) - at)) refl
    where
      go : (t : Bool) → leb (end - first) (room (length b) - at) ≡ t → stored end ≡ stored (first + m)
      go true t = let z : first + m ≡ end = omega (arith, leb-true (end - first) (room (length b) - at) t) in rw z
      go false t =
          let full = leb-false (end - first) (room (length b) - at) t in
          let k : room (length b) ≤ at + (first + m - first) = omega arith in
          rw (slice_cut ws first (first + m) end (omega arith) (omega arith) l) (behind (first + m) (slice (first + m) end ws) (omega arith))
          ∙ past_room (map row_of (slice (first + m) end ws)) (stored (first + m)) (at + (first + m - first)) (rw (length_rows (map row_of (slice first (first + m) ws)) b at) k)
