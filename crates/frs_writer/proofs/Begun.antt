-- The parts before the modules together, and from them to the event. Over plain values.
-- Assumes nothing.
use Prim.Native.Nat.{ℕ, ◌+◌, ◌-◌, ◌*◌, ◌≤◌, ◌<◌, min}
use native.Mathlib.Omega.{arith}
use mathlib.Core.Path.{◌≡◌, refl, ap, sym, ◌∙◌}
use mathlib.Core.List.{List, [], ◌∷◌, ◌++◌, append_assoc}
use mathlib.Core.Option.{Option, some, none}
use lib.ListN.{length, get_or, take, drop, length-append}
use borrow.Rule.Slice.PartMut.{put_mid}
use Rattle.std.specs.Prelude.{Ok, Err}
use Rattle.event.specs.declared.Part.{Part}
use Rattle.event.specs.declared.refusal.Refusal.{Refusal}
use Rattle.event.specs.Refusal.{Answer, PartAnswer, part, verdict}
use Rattle.event.proofs.Answers.{passed_test, failed_test}
use Rattle.event.specs.declared.Row.{Row}
use Rattle.event.specs.Parser.{ok, ended, optionally, many, each, if_any}
use Rattle.event.specs.Words.{store_word}
use Rattle.event.specs.Writing.{of_kind, no_row}
use Rattle.event.specs.Scanning.{store_words, writing_all, writing_part, ScannedBy, LeadsBy, RefusedAs, Writes}
use Rattle.event.specs.Demands.{InWidth}
use Rattle.event.proofs.Leads.{leads_part, store_append}
use Rattle.event.proofs.RowJudged.{row_taken, row_refused}
use Rattle.event.proofs.Sequences.{codes_optionally}
use Rattle.event.proofs.Ends.{placed}
use Rattle.event.proofs.WordStores.{part_written}
use Rattle.event.proofs.WritingTurns.{Wrote, wrote, unwritten, all_refused, all_done}
use Rattle.frs_layout.specs.Event.{Stamp, PatternUnit, Event, scaler_end}
use Rattle.frs_layout.specs.Layout.{stamp_words, scaler_words, pattern_words, module_words, words, stamp_row, pattern_rows, stamp_checks, geos, largest_event}
use Rattle.frs_layout.specs.Writing.{stamp_of, stamp, scaler, pattern_unit, at_pattern, one_module, event_rows_up_to}
use Rattle.frs_layout.proofs.RowCount.{scaler_count}
use Rattle.frs_layout.proofs.Rows.{codes_scaler, codes_pattern, codes_one}
use Rattle.frs_layout.proofs.Width.{words_fit}
use Rattle.frs_writer.specs.Faults.{stamp_fault}
use Rattle.frs_writer.specs.Parts.{Begins}

-- the longwords before the modules
abbrev first : Stamp → List ℕ → Option PatternUnit → List ℕ
first s vs o = stamp_words s ++ (scaler_words vs ++ if_any pattern_words o)

-- at most four longwords for a row
few_words : (o : Option PatternUnit) → length (if_any pattern_words o) ≤ 4 * length (if_any pattern_rows o)
few_words none = omega arith
few_words (some p) = omega arith

leads_event : (rs : List Row) {before b : List ℕ} {at at' k : ℕ} (s : Stamp) (vs : List ℕ) (o : Option PatternUnit) → stamp 0 rs ≡ ok s 1 (drop 1 rs) → scaler 1 (drop 1 rs) ≡ ok vs at (drop at rs)
    → optionally at_pattern pattern_unit at (drop at rs) ≡ ok o at' (drop at' rs) → k ≡ 0 + length (first s vs o) → b ≡ store_words 32 before 0 (first s vs o)
    → LeadsBy (writing_part 32) (each module_words) (many one_module geos ended [] at' (drop at' rs)) k b words (event_rows_up_to ended 0 rs) 0 before
leads_event rs {before} {at' = at'} s vs o p q r l t = rw (p, q, r, l, t) (leads_part (first s vs o) (each module_words) (many one_module geos ended [] at' (drop at' rs))
    (λ ms. record { stamp = s; scalers = vs; pattern = o; modules = ms }) words 0 before
    (λ ms. ap (stamp_words s ++◌) (sym (append_assoc (scaler_words vs) (if_any pattern_words o) (each module_words ms)))))

module _ (rs : List Row) (before : List ℕ) {r : Row} (e : r ≡ get_or rs 0 no_row) where
  pub stamp_refused : {refused : Refusal} {after : List ℕ} → Err refused ≡ verdict (stamp_fault r) 0 → Begins rs before after (Err refused)
  unfolding stamp_fault
  stamp_refused q =
      let t = failed_test (stamp_fault r) 0 q in
      let u = row_refused (of_kind 16) stamp_of stamp_row (stamp_checks 22) refl (λ s. (tt, (tt, (tt, tt)))) rs 0 e {n = stamp_fault r} refl t.some in
      record { begun = record { number = stamp_fault r; place = 0; refused = rw u; named = t.named } }

  module _ {u : Unit {0}} (q : Ok u ≡ verdict (stamp_fault r) 0) where
    stamped : (0 < length rs) × (stamp 0 rs ≡ ok (stamp_of r) 1 (drop 1 rs))
    unfolding stamp_fault
    stamped = row_taken (of_kind 16) stamp_of stamp_row (stamp_checks 22) refl (λ s. (tt, (tt, (tt, tt)))) rs 0 e (passed_test (stamp_fault r) 0 q)

    pub block_there : 1 ≤ length rs
    block_there = stamped.0

    abbrev ScalerIn : List ℕ → PartAnswer → List ℕ → Type 0
    ScalerIn = Writes 32 scaler_words (scaler 1 (drop 1 rs)) rs 0

    pub scaler_refused : {lent lent' after : List ℕ} {refused : Refusal} → ScalerIn lent (Err refused) lent' → Begins rs before after (Err refused)
    scaler_refused {after = after} {refused} w = go (unwritten 32 scaler_words (scaler 1 (drop 1 rs)) w.scanned)
      where
        go : RefusedAs (scaler 1 (drop 1 rs)) refused → Begins rs before after (Err refused)
        go t = record { begun = record { number = t.number; place = t.place; refused = rw (stamped.1, t.refused); named = t.named } }

    -- the stamp and the scaler are written, as k longwords
    pub record Scaled (b : List ℕ) (at k : ℕ) : Type 0 where
      pub values : List ℕ
      pub parsed : scaler 1 (drop 1 rs) ≡ ok values at (drop at rs)
      pub inside : at ≤ length rs
      pub few : k + 2 ≤ 4 * at
      pub counted : k ≡ 4 + length (scaler_words values)
      pub stored : b ≡ store_words 32 before 0 (stamp_words (stamp_of r) ++ scaler_words values)

    pub scaler_done : {b₁ b₂ lent lent' : List ℕ} {start : ℕ} {p : Part} → b₁ ≡ store_words 32 before 0 (stamp_words (stamp_of r)) → start ≡ min 4 (length b₁)
        → lent ≡ take (length b₁ - start) (drop start b₁)
        → ScalerIn lent (Ok p) lent' → b₂ ≡ put_mid start (length b₁ - start) b₁ lent' → Scaled b₂ p.next (4 + p.count)
    scaler_done {b₁} {b₂} {lent} {lent'} {start} {p} stored s is w back = go (wrote 32 scaler_words (scaler 1 (drop 1 rs)) w.scanned)
      where
        go : Wrote 32 scaler_words (scaler 1 (drop 1 rs)) 0 lent p.next p.count lent' → Scaled b₂ p.next (4 + p.count)
        go v =
            let vs = v.value in
            let l = placed codes_scaler rs 1 (omega (arith, stamped.0)) v.parsed in
            record {
              values = vs;
              parsed = v.parsed ∙ ap (ok vs p.next) l.0;
              inside = l.2;
              few = omega (arith, l.1, scaler_count 0 vs, v.counted, length-append vs (scaler_end ∷ []));
              counted = omega (arith, v.counted);
              stored = part_written 32 (scaler_words vs) b₁ 4 s is v.stored back ∙ rw stored;
            }

    -- and the pattern unit, if any
    module _ {b₂ : List ℕ} {at k : ℕ} (t : Scaled b₂ at k) where
      abbrev PatternIn : List ℕ → PartAnswer → List ℕ → Type 0
      PatternIn = Writes 32 (if_any pattern_words) (optionally at_pattern pattern_unit at (drop at rs)) rs 0

      pub pattern_refused : {lent lent' after : List ℕ} {refused : Refusal} → PatternIn lent (Err refused) lent' → Begins rs before after (Err refused)
      pattern_refused {after = after} {refused} w = go (unwritten 32 (if_any pattern_words) (optionally at_pattern pattern_unit at (drop at rs)) w.scanned)
        where
          go : RefusedAs (optionally at_pattern pattern_unit at (drop at rs)) refused → Begins rs before after (Err refused)
          go r = record { begun = record { number = r.number; place = r.place; refused = rw (stamped.1, t.parsed, r.refused); named = r.named } }

      pub begins : {b₃ lent lent' : List ℕ} {start : ℕ} {p : Part} → start ≡ min k (length b₂) → lent ≡ take (length b₂ - start) (drop start b₂) → PatternIn lent (Ok p) lent' → b₃ ≡ put_mid start (length b₂ - start) b₂ lent'
          → Begins rs before b₃ (Ok (part p.next (k + p.count)))
      begins {b₃} {lent} {lent'} {start} {p} s is w back = go (wrote 32 (if_any pattern_words) (optionally at_pattern pattern_unit at (drop at rs)) w.scanned)
        where
          go : Wrote 32 (if_any pattern_words) (optionally at_pattern pattern_unit at (drop at rs)) 0 lent p.next p.count lent' → Begins rs before b₃ (Ok (part p.next (k + p.count)))
          go v =
              let o = v.value in
              let ss = scaler_words t.values in
              let ps = if_any pattern_words o in
              let l = placed (codes_optionally at_pattern codes_pattern (λ p g r. refl)) rs at t.inside v.parsed in
              let laid : k ≡ 0 + length (stamp_words (stamp_of r) ++ ss) = omega (arith, t.counted) in
              let stored : b₃ ≡ store_words 32 before 0 (first (stamp_of r) t.values o) =
              part_written 32 ps b₂ k s is v.stored back ∙ ap (λ (l : List ℕ). store_words 32 l k ps) t.stored
              ∙ ap (λ (m : ℕ). store_words 32 (store_words 32 before 0 (stamp_words (stamp_of r) ++ ss)) m ps) laid
              ∙ sym (store_append (store_word 32) before 0 (stamp_words (stamp_of r) ++ ss) ps) in
              record {
                begun = record {
                  inside = l.2;
                  few = omega (arith, t.few, few_words o, v.counted, l.1);
                  leads = leads_event rs (stamp_of r) t.values o stamped.1 t.parsed (v.parsed ∙ ap (ok o p.next) l.0) (omega (arith, t.counted, v.counted, length-append ss ps)) stored;
                };
              }

-- from the parts before the modules to the event
abbrev pub Laid : List Row → List ℕ → Answer → List ℕ → Type 0
Laid rs before = ScannedBy (writing_all 32) words (event_rows_up_to ended 0 rs) 0 before

module _ {rs : List Row} {before b : List ℕ} {begun : Part} (s : Begins rs before b (Ok begun)) where
  module _ {r : PartAnswer} {after : List ℕ} (m : Writes 32 (each module_words) (many one_module geos ended [] begun.next (drop begun.next rs)) rs begun.count b r after) where
    whole : ScannedBy (writing_part 32) words (event_rows_up_to ended 0 rs) 0 before r after
    whole = s.begun.leads.leads r after m.scanned

    pub event_refused : {refused : Refusal} → r ≡ Err refused → Laid rs before (Err refused) after
    event_refused = all_refused 32 words whole

    pub event_laid : {p : Part} → r ≡ Ok p → Laid rs before (Ok p.count) after
    event_laid = all_done 32 words whole

-- what an event taken is written as
pub event_fits : (rs : List Row) (e : Event) (j : ℕ) (r : List Row) → event_rows_up_to ended 0 rs ≡ ok e j r → length (words e) ≤ largest_event → InWidth 32 (words e)
event_fits rs e j r p l = words_fit e (record { formed = (codes_one.sound 0 rs e j r p).0; size = l })
