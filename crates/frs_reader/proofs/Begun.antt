-- The parts before the modules together: refusal 1, the stamp, the scaler, the pattern unit. Over plain values.
-- Assumes nothing.
use Prim.Native.Nat.{ℕ, ◌+◌, ◌≤◌}
use native.Mathlib.Omega.{arith}
use mathlib.Core.Path.{◌≡◌, ap, sym, ◌∙◌}
use mathlib.Core.Bool.{true}
use mathlib.Core.List.{List, [], ◌∷◌, ◌++◌, append_assoc}
use lib.ListN.{length, drop, length-append}
use Rattle.std.specs.Prelude.{Ok, Err}
use Rattle.event.specs.declared.Part.{Part}
use Rattle.event.specs.declared.Row.{Row}
use Rattle.event.specs.Refusal.{Answer, PartAnswer}
use Rattle.event.specs.Parser.{ended, optionally, many, each, if_any}
use Rattle.event.specs.Words.{between}
use Rattle.event.specs.Rows.{store_row}
use Rattle.event.specs.Scanning.{store_rows, Scanned, PartOf}
use Rattle.event.proofs.Elements.{is_between}
use Rattle.event.proofs.Leads.{leads_part, store_append}
use Rattle.frs_layout.specs.Layout.{stamp_row, scaler_rows, pattern_rows, module_rows, rows, geos, smallest_event, largest_event}
use Rattle.frs_layout.specs.Reading.{scaler, pattern_unit, at_pattern, one_module, event_parser}
use Rattle.frs_reader.specs.Beginning.{stamp_at, Stamped, Begins}

module _ (ws : List ℕ) where
  module _ (long : smallest_event ≤ length ws) (short : length ws ≤ largest_event) where
    sized : between smallest_event largest_event (length ws) ≡ true
    sized = is_between smallest_event largest_event (length ws) long short

    module _ {first : Row} (s : Stamped ws (Ok first)) where
      module _ {b₁ b₂ b₃ : List ℕ} {scaled : Part} {r : PartAnswer} (c : PartOf scaler_rows (scaler 4 (drop 4 ws)) ws 1 b₁ b₂ (Ok scaled))
          (d : PartOf (if_any pattern_rows) (optionally at_pattern pattern_unit scaled.next (drop scaled.next ws)) ws scaled.count b₂ b₃ r) where
        pub begins : (before : List ℕ) → b₁ ≡ store_row before 0 first → Begins ws before b₃ r
        begins before stored = go r d
          where
            go : (y : PartAnswer) → PartOf (if_any pattern_rows) (optionally at_pattern pattern_unit scaled.next (drop scaled.next ws)) ws scaled.count b₂ b₃ y → Begins ws before b₃ y
            go (Err r) e = let t = e.part in record { begun = record { number = t.number; place = t.place; refused = rw (sized, s.stamp.0, c.part.parsed, t.refused); named = t.named } }
            go (Ok p) e =
                let v = c.part in
                let o = e.part in
                let ss = scaler_rows v.value in
                let ps = if_any pattern_rows o.value in
                let first = stamp_row (stamp_at ws) ∷ (ss ++ ps) in
                let n : p.count ≡ 0 + length first = omega (arith, v.counted, o.counted, length-append ss ps) in
                let b : b₃ ≡ store_rows before 0 first
                = o.stored ∙ ap (λ (l : List ℕ). store_rows l scaled.count ps) v.stored ∙ ap (λ (m : ℕ). store_rows (store_rows b₁ 1 ss) m ps) v.counted
                ∙ sym (store_append store_row b₁ 1 ss ps) ∙ ap (λ (l : List ℕ). store_rows l 1 (ss ++ ps)) (stored ∙ ap (store_row before 0) s.stamp.1) in
                record {
                  begun = record {
                    inside = o.inside;
                    few = o.few;
                    leads = rw (sized, s.stamp.0, v.parsed, o.parsed, n, b) (leads_part first (each module_rows) (many one_module geos ended [] p.next (drop p.next ws))
                        (λ ms. record { stamp = stamp_at ws; scalers = v.value; pattern = o.value; modules = ms }) rows 0 before
                        (λ ms. ap (stamp_row (stamp_at ws) ∷◌) (sym (append_assoc ss ps (each module_rows ms)))));
                  };
                }

-- from the parts before the modules to the event
module _ {ws before b : List ℕ} {p : Part} (s : Begins ws before b (Ok p)) where
  pub modules_there : (p.next ≤ length ws) × (p.count ≤ p.next)
  modules_there = (s.begun.inside, s.begun.few)

  pub whole_event : {a : Answer} {after : List ℕ} → Scanned (each module_rows) (many one_module geos ended [] p.next (drop p.next ws)) p.count b a after
      → Scanned rows (event_parser (length ws) 0 ws) 0 before a after
  whole_event {a} {after} t = s.begun.leads.leads a after t
