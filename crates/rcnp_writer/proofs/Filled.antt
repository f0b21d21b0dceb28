-- The words of rows, stored row by row, region by region. Over plain values.
-- Assumes nothing.
use Rattle.std.proofs.Common.{◌≡◌, ℕ, zero, suc, ◌+◌, ◌-◌, ◌*◌, ◌<◌, ◌≤◌, min, Bool, true, false, cond, T, ltb, List, [], ◌∷◌, ◌++◌, length, get_or, take, drop, sym, refl, ap, ◌∙◌, append-nil, arith, ltb→lt, length-append, take_all, drop-drop, take-add, ne_eqb}
use borrow.Rule.Slice.PartMut.{put_mid}
use Rattle.event.specs.declared.Row.{Row}
use Rattle.event.specs.Parser.{each}
use Rattle.event.specs.Words.{store_word}
use Rattle.event.specs.Writing.{of_kind, no_row}
use Rattle.event.specs.Scanning.{store_words}
use Rattle.event.proofs.Codes.{T_true}
use Rattle.event.proofs.Elements.{each_append}
use Rattle.event.proofs.Leads.{store_append}
use Rattle.event.proofs.RowJudged.{rows_from_lem}
use Rattle.event.proofs.WordStores.{length_words, past_the_end, part_written}
use Rattle.rcnp_layout.specs.Layout.{scaler_words, vdc_word}
use Rattle.rcnp_layout.specs.Writing.{vdc_of}
use Rattle.rcnp_writer.specs.Parts.{of_chamber, such, RunAt, words_in, Filled}
use Rattle.rcnp_writer.specs.RowWords.{field_word, row_words, single_word}

pub row_few : (r : Row) → length (row_words r) ≤ 2 * 1
row_few r = go (of_kind 33 r) (of_kind 34 r)
  where
    go : (b c : Bool) → length (cond b (r.datum ∷ []) (cond c (scaler_words r.datum) (field_word r ∷ []))) ≤ 2 * 1
    go true c = omega arith
    go false true = omega arith
    go false false = omega arith

pub same_length : {rs : List Row} {i j at end : ℕ} {b b' : List ℕ} → Filled rs i j at end b b' → length b' ≡ length b
same_length {rs} {i} {j} {at} {b = b} f = ap length f.stored ∙ length_words 16 (words_in rs i (j - i)) b at

-- no row
pub filled_none : {rs : List Row} {i at : ℕ} {b : List ℕ} → i ≤ length rs → Filled rs i i at at b b
filled_none {i = i} l = let z : i - i ≡ 0 = omega arith in record { order = omega arith; inside = l; counted = rw z (omega arith); few = omega arith; stored = rw z }

pub first_none : {rs : List Row} {i at : ℕ} {b : List ℕ} → i ≤ length rs → Filled rs i (i + 0) at (at + 0) b b
first_none {i = i} {at} l =
    let row : i + 0 ≡ i = omega arith in
    let end : at + 0 ≡ at = omega arith in
    rw (row, end) (filled_none l)

-- one row
pub filled_row : {rs : List Row} {i at end : ℕ} {b b' : List ℕ} {r : Row} → i < length rs → r ≡ get_or rs i no_row → (b' ≡ store_words 16 b at (row_words r)) × (end ≡ at + length (row_words r))
    → Filled rs i (i + 1) at end b b'
filled_row {rs} {i} {r = r} l e s =
    let n : i + 1 - i ≡ 1 = omega arith in
    let one : take 1 (drop i rs) ≡ r ∷ [] = rw (rows_from_lem rs i l, e) in
    let words : words_in rs i 1 ≡ row_words r = rw one (append-nil (row_words r)) in
    record { order = omega arith; inside = omega arith; counted = rw (n, words) s.1; few = omega (arith, s.1, row_few r); stored = rw (n, words) s.0 }

-- rows, and those after them
pub filled_then : {rs : List Row} {i j k at mid end : ℕ} {b b₁ b₂ : List ℕ} → Filled rs i j at mid b b₁ → Filled rs j k mid end b₁ b₂ → Filled rs i k at end b b₂
filled_then {rs} {i} {j} {k} {at} {b = b} f g =
    let m = j - i in
    let n = k - j in
    let o = f.order in
    let p = g.order in
    let few = f.few in
    let more = g.few in
    let rows : k - i ≡ m + n = omega arith in
    let here : i + m ≡ j = omega arith in
    let words : words_in rs i (m + n) ≡ words_in rs i m ++ words_in rs j n =
    rw (take-add m n (drop i rs), drop-drop m i rs, here) (each_append row_words (take m (drop i rs)) (take n (drop j rs))) in
    record {
      order = omega arith;
      inside = g.inside;
      counted = rw (rows, words) (omega (arith, f.counted, g.counted, length-append (words_in rs i m) (words_in rs j n)));
      few = omega arith;
      stored = rw (rows, words, store_append (store_word 16) b at (words_in rs i m) (words_in rs j n), ← f.counted, ← f.stored) g.stored;
    }

-- rows of one word each
word_alone_lem : (r : Row) → T (of_kind 33 r) → row_words r ≡ r.datum ∷ []
word_alone_lem r t = rw (T_true (of_kind 33 r) t)

chamber_alone : (r : Row) → T (of_chamber r) → row_words r ≡ vdc_word (vdc_of r) ∷ []
chamber_alone r t =
    let h = ltb→lt 34 r.kind t in
    rw (ne_eqb 33 r.kind (λ e. omega arith), ne_eqb 34 r.kind (λ e. omega arith), T_true (ltb 34 r.kind) t)

pub such_alone : (chamber : Bool) (r : Row) → T (such chamber r) → row_words r ≡ single_word chamber r ∷ []
such_alone true = chamber_alone
such_alone false = word_alone_lem

-- one of them more
pub filled_one : (k : ℕ) {rs : List Row} {i at w : ℕ} {b₀ b b' : List ℕ} {r : Row} → Filled rs i (i + k) at (at + k) b₀ b → i + k < length rs → r ≡ get_or rs (i + k) no_row
    → row_words r ≡ w ∷ [] → b' ≡ store_word 16 b (at + k) w → Filled rs i (i + (k + 1)) at (at + (k + 1)) b₀ b'
filled_one k {i = i} {at} f l e word s =
    let row : i + (k + 1) ≡ i + k + 1 = omega arith in
    let end : at + (k + 1) ≡ at + k + 1 = omega arith in
    rw (row, end) (filled_then f (filled_row l e (rw word (s, refl))))

-- m of them past the end of the words
module _ {rs : List Row} {i at : ℕ} {b : List ℕ} (word_of : Row → ℕ) where
  past : (m : ℕ) → i + m ≤ length rs → ((k : ℕ) → k < m → row_words (get_or rs (i + k) no_row) ≡ word_of (get_or rs (i + k) no_row) ∷ []) → (1 ≤ m → length b ≤ at)
      → Filled rs i (i + m) at (at + m) b b
  past zero l one h = first_none (omega arith)
  past (suc m) l one h =
      let next : suc m ≡ m + 1 = omega arith in
      let r = get_or rs (i + m) no_row in
      rw next (filled_one m (past m (omega arith) (λ k q. one k (omega arith)) (λ q. h (omega arith))) (omega arith) refl (one m (omega arith))
      (sym (past_the_end 16 (word_of r ∷ []) b (at + m) (let full = h (omega arith) in omega arith))))

-- those that fit are stored, and the others need no room
pub filled_run : (such : Row → Bool) (word_of : Row → ℕ) → ((r : Row) → T (such r) → row_words r ≡ word_of r ∷ []) → {rs : List Row} {first n at most k : ℕ} {b₀ b : List ℕ}
    → RunAt such rs first n → most ≡ min n (length b₀ - at) → k ≤ most → most ≤ k → Filled rs first (first + k) at (at + k) b₀ b → Filled rs first (first + n) at (at + n) b₀ b
filled_run such word_of one {rs} {first} {n} {at} {most} {k} {b₀} {b} run m h l f =
    let rest = n - k in
    let row : first + k + rest ≡ first + n = omega arith in
    let end : at + k + rest ≡ at + n = omega arith in
    let size : length b ≡ length b₀ = same_length f in
    rw (← row, ← end) (filled_then f (past word_of rest (omega (arith, run.inside))
    (λ j q. let there : first + k + j ≡ first + (k + j) = omega arith in rw there (one (get_or rs (first + (k + j)) no_row) (run.each (k + j) (omega arith))))
    (λ q. omega arith)))

-- rows at the front of the part of the words that starts at their place
pub filled_part : {rs : List Row} {i j at count start : ℕ} {b part part' b' : List ℕ} → start ≡ min at (length b) → part ≡ take (length b - start) (drop start b) → Filled rs i j 0 count part part'
    → b' ≡ put_mid start (length b - start) b part' → Filled rs i j at (at + count) b b'
filled_part {rs} {i} {j} {at} {b = b} s lent f back =
    let few = f.few in
    record {
      order = f.order;
      inside = f.inside;
      counted = omega (arith, f.counted);
      few = omega arith;
      stored = part_written 16 (words_in rs i (j - i)) b at s lent f.stored back;
    }

pub all_filled : {rs : List Row} {i end : ℕ} {b b' : List ℕ} → Filled rs 0 i 0 end b b' → length rs ≤ i → b' ≡ store_words 16 b 0 (each row_words rs)
all_filled {rs} {i} {b = b} f l = f.stored ∙ ap (λ (x : List Row). store_words 16 b 0 (each row_words x)) (take_all (i - 0) rs (omega arith))
