-- Scalers, two words each. Over plain values.
-- Assumes nothing.
use Prim.Native.Nat.{ℕ, suc, ◌+◌, ◌*◌, ◌^◌, ◌≤◌, ◌<◌}
use native.Mathlib.Nat.{add-zero, zero-add, mul-one}
use native.Mathlib.Numerals.{add-one}
use native.Mathlib.Omega.{arith}
use mathlib.Core.Path.{◌≡◌, refl, ap, ◌∙◌}
use mathlib.Core.List.{List, [], ◌∷◌, ◌++◌}
use lib.ListN.{length, get_or, length-append}
use lib.Seq.{slice, slice_empty}
use borrow.Author.Tests.{eq-eqb, lt-ltb, le-ltb}
use Rattle.std.specs.Prelude.{Ok, Err}
use Rattle.event.specs.Refusal.{refusal}
use Rattle.event.specs.declared.Row.{Row}
use Rattle.event.specs.Parser.{ok, refuse, ended, alone, prints}
use Rattle.event.specs.Rows.{store_row}
use Rattle.event.specs.Scanning.{store_rows, Scanned}
use Rattle.event.proofs.Elements.{prints_length}
use Rattle.event.proofs.ItemsTaken.{TakenTo, none_taken, all_taken, item_refuses, one_taken}
use Rattle.event.proofs.Leads.{store_append, scanned_refuse}
use Rattle.event.proofs.RowStores.{length_rows}
use Rattle.event.proofs.Turns.{at_two}
use Rattle.rcnp_layout.specs.Event.{scaler}
use Rattle.rcnp_layout.specs.Layout.{scaler_row, next_index, content_rows}
use Rattle.rcnp_layout.specs.Reading.{scaler_value, content}
use Rattle.rcnp_layout.proofs.Words.{codes_scaler}

module _ (i v w : ℕ) (r : List ℕ) (low : v < 2 ^ 16) where
  scaler_high : 2 ^ 8 ≤ w → scaler_value i (v ∷ w ∷ r) ≡ refuse 10 (i + 1)
  scaler_high h = rw (eq-eqb v v refl, lt-ltb v (2 ^ 16) low, eq-eqb w w refl, le-ltb w (2 ^ 8) h, add-one i)

  scaler_whole : w < 2 ^ 8 → scaler_value i (v ∷ w ∷ r) ≡ ok (w * 2 ^ 16 + v) (i + 2) r
  scaler_whole h =
      let two : suc (suc i) ≡ i + 2 = omega arith in
      rw (eq-eqb v v refl, lt-ltb v (2 ^ 16) low, eq-eqb w w refl, lt-ltb w (2 ^ 8) h, two)

-- the rows of scalers from index n on
abbrev rows_from : (n : ℕ) → List ℕ → List Row
rows_from = prints (λ index v. scaler_row index v ∷ []) next_index

as_many : (vs : List ℕ) → length (rows_from 0 vs) ≡ length vs
as_many vs = prints_length (λ index v. scaler_row index v ∷ []) next_index 1 (λ index v. refl) 0 vs ∙ mul-one (length vs)

-- one more
row_more : (n : ℕ) (vs : List ℕ) (v : ℕ) → rows_from n (vs ++ (v ∷ [])) ≡ rows_from n vs ++ (scaler_row (n + length vs) v ∷ [])
row_more n [] v = rw (add-zero n)
row_more n (x ∷ vs) v =
    let e : suc n + length vs ≡ n + suc (length vs) = omega arith in
    ap (scaler_row n x ∷◌) (row_more (suc n) vs v ∙ rw e)

-- so many scalers were read from the words from `first` on, and their rows stored from row k on
pub record ScalersTo (ws : List ℕ) (end first k : ℕ) (b₀ : List ℕ) (index : ℕ) (b : List ℕ) : Type 0 where
  pub values : List ℕ
  pub size : length values ≡ index
  pub taken : TakenTo (λ u. scaler_value) alone ended tt first (slice first end ws) values tt (first + 2 * index) (slice (first + 2 * index) end ws)
  pub stored : b ≡ store_rows b₀ k (content_rows scaler values)

module _ {ws : List ℕ} {end first k : ℕ} {b₀ : List ℕ} where
  pub scalers_begin : ScalersTo ws end first k b₀ 0 b₀
  scalers_begin =
      let e : first + 2 * 0 ≡ first = omega arith in
      record { values = []; size = refl; taken = rw e (none_taken (λ u. scaler_value) alone ended tt first (slice first end ws)); stored = refl }

  module _ {index : ℕ} {b : List ℕ} (h : ScalersTo ws end first k b₀ index b) where
    pub scalers_same : length b ≡ length b₀
    scalers_same = ap length h.stored ∙ length_rows (content_rows scaler h.values) b₀ k

    pub scalers_read : first + 2 * index ≡ end → Scanned (content_rows scaler) (content scaler first (slice first end ws)) k b₀ (Ok (k + index)) b
    scalers_read e =
        let all = all_taken h.taken (rw (e, slice_empty end ws)) in
        let c : k + index ≡ k + length (content_rows scaler h.values) = omega (arith, as_many h.values, h.size) in
        rw all (record { answered = ap Ok c; stored = h.stored })

    module _ {v w : ℕ} (below : first + 2 * index + 1 < end) (long : end ≤ length ws) (p : v ≡ get_or ws (first + 2 * index) 0) (low : v < 2 ^ 16)
        (q : w ≡ get_or ws (first + 2 * index + 1) 0) where
      abbrev place : ℕ
      place = first + 2 * index

      two : slice place end ws ≡ v ∷ w ∷ slice (place + 2) end ws
      two = at_two ws place end below long p q

      pub scaler_refused : (after : List ℕ) → 2 ^ 8 ≤ w → Scanned (content_rows scaler) (content scaler first (slice first end ws)) k b₀ (Err (refusal 10 (place + 1))) after
      scaler_refused after f =
          let read : scaler_value place (slice place end ws) ≡ refuse 10 (place + 1) = rw two (scaler_high place v w (slice (place + 2) end ws) low f) in
          scanned_refuse (content_rows scaler) k b₀ after (item_refuses h.taken (λ u. codes_scaler) (λ u v g r. refl) refl (rw two) read)

      pub scaler_taken : {b' : List ℕ} → w ≤ 255 → b' ≡ store_row b (k + index) (scaler_row index (w * 2 ^ 16 + v)) → ScalersTo ws end first k b₀ (index + 1) b'
      scaler_taken f s =
          let value = w * 2 ^ 16 + v in
          let next : place + 2 ≡ first + 2 * (index + 1) = omega arith in
          let read : scaler_value place (slice place end ws) ≡ ok value (place + 2) (slice (place + 2) end ws) = rw two (scaler_whole place v w (slice (place + 2) end ws) low (omega arith)) in
          let one = one_taken h.taken (λ u. codes_scaler) (λ u v g r. refl) refl (rw two) read in
          let rows = content_rows scaler h.values in
          let c : k + length rows ≡ k + index = omega (arith, as_many h.values, h.size) in
          record {
            values = h.values ++ (value ∷ []);
            size = omega (arith, length-append h.values (value ∷ []), h.size);
            taken = rw next at one;
            stored = s ∙ rw (row_more 0 h.values value, store_append store_row b₀ k rows (scaler_row (0 + length h.values) value ∷ []), c, h.size, ← h.stored, zero-add index);
          }
