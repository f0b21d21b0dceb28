-- The check sum region, and what may follow it. Over plain values.
-- Assumes nothing.
use Prim.Native.Nat.{ℕ, ◌+◌, ◌-◌, ◌/◌, ◌%◌, ◌^◌, ◌≤◌, ◌<◌}
use native.Mathlib.Numerals.{add-one}
use native.Mathlib.Omega.{arith}
use mathlib.Core.Path.{◌≡◌, refl, sym, ◌∙◌}
use mathlib.Core.Bool.{true}
use mathlib.Core.List.{List, []}
use lib.Dec.{eqb}
use lib.ListN.{length, get_or, drop, drop_of_length-le}
use lib.Seq.{slice, slice_empty, drop-cons}
use borrow.Author.Tests.{eq-eqb, ne_eqb, eqb-true, lt-ltb}
use Rattle.std.specs.Prelude.{Ok}
use Rattle.event.specs.Parser.{ok, refuse}
use Rattle.event.specs.Rows.{store_row}
use Rattle.event.specs.Scanning.{Scanned}
use Rattle.event.proofs.Loops.{to_the_end}
use Rattle.event.proofs.Turns.{read_below}
use Rattle.rcnp_layout.specs.Event.{sum_id}
use Rattle.rcnp_layout.specs.Layout.{header_word, region_row, word_row, sum_rows}
use Rattle.rcnp_layout.specs.Reading.{filling, word, sum_region, at_sum}
use Rattle.rcnp_reader.specs.Regions.{last_parts}
use Rattle.rcnp_reader.proofs.Headers.{sum_at_word, there, filling_short, filling_fits}

pub no_sum : (ws : List ℕ) (i : ℕ) → length ws ≤ i → last_parts i (drop i ws) ≡ refuse 6 i
no_sum ws i l = rw (drop_of_length-le ws l)

module _ (ws : List ℕ) (i : ℕ) (at : at_sum (drop i ws) ≡ true) (below : i < length ws) {w : ℕ} (d : w ≡ get_or ws i 0) where
  abbrev size : ℕ
  size = w % 2 ^ 12

  header : sum_region i (drop i ws) ≡ filling i size (eqb size 1) word (i + 1) (slice (i + 1) (length ws) ws)
  header =
      let e = eqb-true sum_id (w / 2 ^ 12) (rw (← d) at (sym (sum_at_word ws i below) ∙ at)) in
      rw (there ws i below, ← d, eq-eqb w (header_word sum_id size) (omega arith), lt-ltb size (2 ^ 12) (omega arith), add-one i)

  pub sum_short : length ws - i ≤ size → last_parts i (drop i ws) ≡ refuse 5 i
  sum_short l = rw (header, filling_short ws i size (eqb size 1) word below (omega arith))

  module _ (l : size < length ws - i) where
    pub sum_size : (size ≡ 1 → ⊥) → last_parts i (drop i ws) ≡ refuse 7 i
    sum_size n = rw (header, filling_fits ws i size (eqb size 1) word (omega arith), ne_eqb size 1 n)

    module _ (one : size ≡ 1) (fits : (j : ℕ) → get_or ws j 0 < 2 ^ 16) where
      read : sum_region i (drop i ws) ≡ ok (get_or ws (i + 1) 0) (i + 2) (drop (i + 2) ws)
      read =
          let next : i + 1 + 1 ≡ i + 2 = omega arith in
          let value : word (i + 1) (slice (i + 1) (i + 2) ws) ≡ ok (get_or ws (i + 1) 0) (i + 2) []
          = read_below 10 (2 ^ 16) ws (i + 1) (i + 2) (omega arith) (omega arith) (fits (i + 1)) ∙ rw (next, slice_empty (i + 2) ws) in
          header ∙ rw one (filling_fits ws i 1 true word (omega arith) ∙ rw (next, value, to_the_end (i + 2) ws))

      pub more_words : 2 < length ws - i → last_parts i (drop i ws) ≡ refuse 6 (i + 2)
      more_words m = rw (read, drop-cons ws (i + 2) 0 (omega arith))

      pub sum_read : {k v : ℕ} {b b₁ b₂ : List ℕ} → length ws - i ≤ 2 → b₁ ≡ store_row b k (region_row sum_id 1) → v ≡ get_or ws (i + 1) 0 → b₂ ≡ store_row b₁ (k + 1) (word_row v)
          → Scanned sum_rows (last_parts i (drop i ws)) k b (Ok (k + 2)) b₂
      sum_read m p q r = let end : length ws ≤ i + 2 = omega arith in rw (read, drop_of_length-le ws end) (record { answered = refl; stored = r ∙ rw (p, q) })
