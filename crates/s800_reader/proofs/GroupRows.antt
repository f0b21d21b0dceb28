-- The rows of the words of a CRDC's groups, stored one by one.
-- Assumes nothing.
use Prim.Native.Nat.{ℕ, suc, ◌+◌, ◌-◌, ◌^◌, ◌≤◌, ◌<◌, min}
use native.Mathlib.Omega.{arith}
use mathlib.Core.Path.{◌≡◌, refl, sym, ◌∙◌}
use mathlib.Core.Bool.{Bool, true, false, cond}
use mathlib.Core.List.{List, [], ◌∷◌, ◌++◌, append_assoc}
use lib.Dec.{leb}
use lib.ListN.{length, get_or, length-append}
use lib.Seq.{slice, slice_empty}
use borrow.Author.Tests.{leb-true, leb-false}
use Rattle.event.specs.declared.Row.{Row}
use Rattle.event.specs.Rows.{room, store_row}
use Rattle.event.specs.Scanning.{store_rows}
use Rattle.event.proofs.Leads.{store_append}
use Rattle.event.proofs.RowStores.{length_rows, past_room}
use Rattle.event.proofs.Turns.{at_word}
use Rattle.s800_reader.specs.Groups.{head_after, word_row, word_rows}
use Rattle.s800_reader.specs.Groups.{FaultAt}
use Rattle.event.specs.Refusal.{Answer, refusal}
use Rattle.event.specs.Parser.{each}
use Rattle.event.specs.Scanning.{Scanned}
use Rattle.event.proofs.Leads.{scanned_refuse}
use Rattle.s800_layout.specs.Layout.{group_rows}
use Rattle.s800_reader.specs.Channel.{NoMore}
use Rattle.std.specs.Prelude.{Err}
use Rattle.s800_reader.specs.Groups.{groups_in}

pub picked_below : {w head v bound : ℕ} → v ≡ cond (leb (2 ^ 15) w) w head → w < bound → head < bound → v < bound
picked_below {w} {head} {v} {bound} e a b = go (leb (2 ^ 15) w) e
  where
    go : (c : Bool) → v ≡ cond c w head → v < bound
    go true q = omega arith
    go false q = omega arith

-- the rows of the first i words, under the heads among them
pub record Laid (ws : List ℕ) (from end first : ℕ) (b₀ : List ℕ) (head i : ℕ) (b : List ℕ) : Type 0 where
  pub done : List Row
  pub count : length done ≡ i
  pub split : word_rows 0 (slice from end ws) ≡ done ++ word_rows head (slice (from + i) end ws)
  pub stored : b ≡ store_rows b₀ first done

module _ {ws : List ℕ} {from end first : ℕ} {b₀ : List ℕ} where
  pub laid_begin : Laid ws from end first b₀ 0 0 b₀
  laid_begin = let z : from + 0 ≡ from = omega arith in record { done = []; count = refl; split = rw z; stored = refl }

  module _ {head i : ℕ} {b : List ℕ} (h : Laid ws from end first b₀ head i b) where
    pub laid_next : {w head' : ℕ} {b' : List ℕ} → from + i < end → end ≤ length ws → w ≡ get_or ws (from + i) 0 → b' ≡ store_row b (first + i) (word_row head w) → head' ≡ head_after head w
        → Laid ws from end first b₀ head' (i + 1) b'
    laid_next {w} {head'} l m p s e =
        let next : from + (i + 1) ≡ suc (from + i) = omega arith in
        let here : slice (from + i) end ws ≡ w ∷ slice (from + (i + 1)) end ws = at_word ws (from + i) end l m ∙ rw (p, next) in
        record {
          done = h.done ++ (word_row head w ∷ []);
          count = omega (arith, h.count, length-append h.done (word_row head w ∷ []));
          split = h.split ∙ rw (here, e) (sym (append_assoc h.done (word_row head w ∷ []) (word_rows (head_after head w) (slice (from + (i + 1)) end ws))));
          stored = s ∙ rw (h.stored, ← h.count) (sym (store_append store_row b₀ first h.done (word_row head w ∷ [])));
        }

    -- those that fit are as good as all
    pub laid_all : from ≤ end → i ≡ min (end - from) (room (length b₀) - first) → b ≡ store_rows b₀ first (word_rows 0 (slice from end ws))
    laid_all l m = h.stored ∙ rw h.split (sym (store_append store_row b₀ first h.done left ∙ go (leb (end - from) (room (length b₀) - first)) refl))
      where
        left : List Row
        left = word_rows head (slice (from + i) end ws)

        go : (t : Bool) → leb (end - from) (room (length b₀) - first) ≡ t → store_rows (store_rows b₀ first h.done) (first + length h.done) left ≡ store_rows b₀ first h.done
        go true t =
            let z : from + i ≡ end = omega (arith, leb-true (end - from) (room (length b₀) - first) t) in
            rw (z, slice_empty end ws)
        go false t =
            let full = leb-false (end - from) (room (length b₀) - first) t in
            past_room left (store_rows b₀ first h.done) (first + length h.done) (rw (length_rows h.done b₀ first) (omega (arith, h.count)))

-- groups that are refused
pub samples_refused : (ws : List ℕ) (from end : ℕ) {place k : ℕ} {b after : List ℕ} {a : Answer} → FaultAt ws from end place → a ≡ Err (refusal 10 place)
    → Scanned (each group_rows) (groups_in ws from end) k b a after × NoMore end a
samples_refused ws from end {place} {k} {b} {after} t e = rw (e, t.named) (scanned_refuse (each group_rows) {n = t.number} {p = t.place} k b after t.refused, tt)
