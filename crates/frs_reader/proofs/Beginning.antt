-- What stands before the modules: refusal 1, the stamp, the scaler. Over plain values.
-- Assumes nothing.
use Prim.Native.Nat.{ℕ, zero, suc, ◌+◌, ◌-◌, ◌%◌, ◌^◌, ◌≤◌, ◌<◌}
use native.Mathlib.Nat.{le_refl}
use native.Mathlib.Omega.{arith}
use mathlib.Core.Path.{◌≡◌, refl, ap, sym, ◌∙◌}
use mathlib.Core.Bool.{Bool, true}
use mathlib.Core.List.{List, [], ◌∷◌, append-nil}
use lib.Dec.{eqb, ltb}
use lib.ListN.{length, get_or, take, drop}
use lib.Seq.{slice, slice_empty, length-slice}
use borrow.Author.Tests.{eq-eqb, ne_eqb, lt-ltb, le-leb}
use Rattle.std.specs.Prelude.{Ok, Err}
use Rattle.std.proofs.lemmas.List.{drop_more, drop_all}
use Rattle.event.specs.declared.refusal.Refusal.{Refusal}
use Rattle.event.specs.Refusal.{part}
use Rattle.event.specs.Parser as parser
use Rattle.event.specs.Parser.{ok, refuse, Passed, ended, filled, alone, All}
use Rattle.event.specs.Words.{halves}
use Rattle.event.specs.Rows.{row, store_row}
use Rattle.event.specs.Scanning.{store_rows, PartOf}
use Rattle.event.proofs.Codes.{true_T}
use Rattle.event.proofs.Ends.{ends_many}
use Rattle.event.proofs.Loops.{to_the_end, at_end}
use Rattle.event.proofs.Turns.{at_word}
use Rattle.frs_layout.specs.Event.{scaler_geo, stamp_identifier, word1_identifier, word2_identifier, word3_identifier, scaler_end}
use Rattle.frs_layout.specs.Layout.{header_word, scaler_checks, scaler_row, scaler_rows_from, scaler_rows, scaler_block_row}
use Rattle.frs_layout.specs.Reading.{stamp, block_of, scaler_value, scaler_values, scaler_footer, scaler}
use Rattle.frs_layout.proofs.RowCount.{scaler_count}
use Rattle.frs_layout.proofs.Words.{codes_scaler_values}
use Rattle.frs_reader.specs.Beginning.{Stamped}
use Rattle.frs_reader.specs.Longword.{under}
use Rattle.frs_reader.proofs.Longwords.{under_given, under_refused}
use Rattle.frs_reader.proofs.Blocks.{lent, values_read}
use Rattle.frs_reader.proofs.Judged.{under_judged}

-- the stamp, longword by longword
four : (ws : List ℕ) → 4 ≤ length ws → ws ≡ get_or ws 0 0 ∷ get_or ws 1 0 ∷ get_or ws 2 0 ∷ get_or ws 3 0 ∷ drop 4 ws
four [] h = absurd (omega arith)
four (a ∷ []) h = absurd (omega arith)
four (a ∷ b ∷ []) h = absurd (omega arith)
four (a ∷ b ∷ c ∷ []) h = absurd (omega arith)
four (a ∷ b ∷ c ∷ d ∷ r) h = refl

module _ (ws : List ℕ) (long : 4 ≤ length ws) where
  abbrev a : ℕ
  a = get_or ws 0 0

  abbrev b : ℕ
  b = get_or ws 1 0

  abbrev c : ℕ
  c = get_or ws 2 0

  abbrev d : ℕ
  d = get_or ws 3 0

  printed : stamp 0 ws ≡ stamp 0 (a ∷ b ∷ c ∷ d ∷ drop 4 ws)
  printed = ap (stamp 0) (four ws long)

  module _ (e : a ≡ stamp_identifier) where
    is : eqb a stamp_identifier ≡ true
    is = eq-eqb a stamp_identifier e

    pub stamp_1 : {r : Refusal} → Err r ≡ under word1_identifier 1 b → Stamped ws (Err r)
    stamp_1 q =
        let f = under_refused word1_identifier 1 b q in
        record { stamp = record { number = 10; place = 1; refused = printed ∙ rw (is, under_judged word1_identifier 1 b (c ∷ d ∷ drop 4 ws), f.0); named = f.1 } }

    module _ {u : ℕ} (p : Ok u ≡ under word1_identifier 1 b) where
      first : (eqb b (halves word1_identifier (b % 2 ^ 16)) ≡ true) × (u ≡ b % 2 ^ 16)
      first = under_given word1_identifier 1 b p

      pub stamp_2 : {r : Refusal} → Err r ≡ under word2_identifier 2 c → Stamped ws (Err r)
      stamp_2 q =
          let g = under_refused word2_identifier 2 c q in
          record {
            stamp = record {
              number = 10;
              place = 2;
              refused = printed ∙ rw (is, under_judged word1_identifier 1 b (c ∷ d ∷ drop 4 ws), first.0, under_judged word2_identifier 2 c (d ∷ drop 4 ws), g.0);
              named = g.1;
            };
          }

      module _ {v : ℕ} (s : Ok v ≡ under word2_identifier 2 c) where
        second : (eqb c (halves word2_identifier (c % 2 ^ 16)) ≡ true) × (v ≡ c % 2 ^ 16)
        second = under_given word2_identifier 2 c s

        pub stamp_3 : {r : Refusal} → Err r ≡ under word3_identifier 3 d → Stamped ws (Err r)
        stamp_3 q =
            let h = under_refused word3_identifier 3 d q in
            record {
              stamp = record {
                number = 10;
                place = 3;
                refused = printed ∙ rw (
                  is,
                  under_judged word1_identifier 1 b (c ∷ d ∷ drop 4 ws),
                  first.0,
                  under_judged word2_identifier 2 c (d ∷ drop 4 ws),
                  second.0,
                  under_judged word3_identifier 3 d (drop 4 ws),
                  h.0,
                );
                named = h.1;
              };
            }

        pub stamp_given : {w : ℕ} → Ok w ≡ under word3_identifier 3 d → Stamped ws (Ok (row 16 u v w))
        stamp_given t =
            let third = under_given word3_identifier 3 d t in
            record {
              stamp = (
                printed ∙ rw (
                  is,
                  under_judged word1_identifier 1 b (c ∷ d ∷ drop 4 ws),
                  first.0,
                  under_judged word2_identifier 2 c (d ∷ drop 4 ws),
                  second.0,
                  under_judged word3_identifier 3 d (drop 4 ws),
                  third.0,
                ),
                rw (first.1, second.1, third.1),
              );
            }

-- the loop over the scalers: the i stored, those left are stored as the whole would be
pub record Scalers (vs rows₀ rows : List ℕ) (i : ℕ) : Type 0 where
  pub leads : store_rows rows (2 + i) (scaler_rows_from i (drop i vs)) ≡ store_rows rows₀ 2 (scaler_rows_from 0 vs)

pub scalers_step : {vs rows₀ rows rows' : List ℕ} {i : ℕ} → Scalers vs rows₀ rows i → i < length vs → rows' ≡ store_row rows (2 + i) (scaler_row i (get_or vs i 0)) → Scalers vs rows₀ rows' (i + 1)
scalers_step {vs} {rows₀} {rows} {i = i} h below q =
    let stored = store_row rows (2 + i) (scaler_row i (get_or vs i 0)) in
    let k : 2 + (i + 1) ≡ 2 + i + 1 = omega arith in
    let j : i + 1 ≡ suc i = omega arith in
    record {
      leads = rw q
          (ap (λ (m : ℕ). store_rows stored m (scaler_rows_from (i + 1) (drop (i + 1) vs))) k
          ∙ ap (λ (m : ℕ). store_rows stored (2 + i + 1) (scaler_rows_from m (drop (i + 1) vs))) j
          ∙ ap (λ (l : List ℕ). store_rows rows (2 + i) (scaler_rows_from i l)) (sym (drop_more vs i 0 below)) ∙ h.leads);
    }

pub scalers_end : {vs rows₀ rows : List ℕ} {i : ℕ} → Scalers vs rows₀ rows i → length vs ≤ i → rows ≡ store_rows rows₀ 2 (scaler_rows_from 0 vs)
scalers_end {vs} {i = i} h l = rw (drop_all i vs l) at h.leads

-- the scaler
module _ (ws : List ℕ) (long : 7 ≤ length ws) where
  abbrev header : ℕ
  header = get_or ws 4 0

  abbrev in_layout : Bool
  in_layout = eqb header (header_word scaler_geo (header % 2 ^ 6))

  from_header : drop 4 ws ≡ header ∷ slice 5 (length ws) ws
  from_header = to_the_end 4 ws ∙ at_word ws 4 (length ws) (omega arith) (le_refl (length ws))

  abbrev Scaled : parser.Result ℕ (List ℕ) → Type 0
  Scaled x = scaler 4 (drop 4 ws) ≡ x

  module _ {n : ℕ} (some : 1 ≤ n) (few : n ≤ 32) (h : header ≡ header_word scaler_geo n) where
    block : Scaled (block_of 4 n scaler_values scaler_footer 5 (slice 5 (length ws) ws))
    block =
        let c : header % 2 ^ 6 ≡ n = omega arith in
        rw from_header (rw (eq-eqb header (header_word scaler_geo (header % 2 ^ 6)) (omega arith), c, le-leb 1 n some, le-leb n 32 few))

    module _ (fits : (i : ℕ) → get_or ws i 0 < 2 ^ 32) (inside : 5 + n < length ws) where
      abbrev scalers : List ℕ
      scalers = slice 5 (5 + n) ws

      all_fit : (m i : ℕ) → i + m ≤ length ws → All (λ v. Passed (scaler_checks 0 v)) (slice i (i + m) ws)
      all_fit zero i h = let e : i + 0 ≡ i = omega arith in rw (e, slice_empty i ws) tt
      all_fit (suc m) i h =
          let e : i + suc m ≡ suc i + m = omega arith in
          rw (at_word ws i (i + suc m) (omega arith) h) ((true_T (ltb (get_or ws i 0) (2 ^ 32)) (lt-ltb (get_or ws i 0) (2 ^ 32) (fits i)), tt), rw e (all_fit m (suc i) (omega arith)))

      values : scaler_values 5 scalers ≡ ok scalers (5 + n) []
      values =
          let h = codes_scaler_values.complete scalers (all_fit n 5 (omega arith)) 5 [] tt in
          let e : scaler_values 5 scalers ≡ ok scalers h.0 [] = rw append-nil at h.1 in
          at_end codes_scaler_values (ends_many ended (λ u. scaler_value) alone tt) 5 (5 + n) ws (omega arith) (omega arith) scalers h.0 [] e

      judged : Scaled (filled (slice (5 + n + 1) (length ws) ws) (scaler_footer scalers (5 + n) (get_or ws (5 + n) 0 ∷ [])))
      judged = block ∙ values_read 4 n 5 scaler_values scaler_footer ws (omega arith) values

      pub scaler_footer_lem : (get_or ws (5 + n) 0 ≡ scaler_end → ⊥) → Scaled (refuse 9 (5 + n))
      scaler_footer_lem z = judged ∙ rw (ne_eqb (get_or ws (5 + n) 0) scaler_end z)

      pub scaler_read : {before after : List ℕ} → get_or ws (5 + n) 0 ≡ scaler_end → after ≡ store_rows (store_row before 1 (scaler_block_row n)) 2 (scaler_rows_from 0 (take (5 + n - 5) (drop 5 ws)))
          → PartOf scaler_rows (scaler 4 (drop 4 ws)) ws 1 before after (Ok (part (5 + n + 1) (2 + n)))
      scaler_read {before} z q =
          let size : length scalers ≡ n = length-slice 5 (5 + n) ws (omega arith) ∙ (let m : 5 + n - 5 ≡ n = omega arith in m) in
          let one : suc (5 + n) ≡ 5 + n + 1 = omega arith in
          let rest : slice (5 + n + 1) (length ws) ws ≡ drop (5 + n + 1) ws = sym (to_the_end (5 + n + 1) ws) in
          record {
            part = record {
              value = scalers;
              parsed = judged ∙ rw (eq-eqb (get_or ws (5 + n) 0) scaler_end z, one, rest);
              inside = omega arith;
              few = omega arith;
              counted = let c = scaler_count 0 scalers in omega arith;
              stored = q ∙ rw (lent 5 (5 + n) ws (omega arith), size);
            };
          }
