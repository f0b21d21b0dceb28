-- The pattern unit, where there is one. Over plain values.
-- Assumes nothing.
use Prim.Native.Nat.{ℕ, suc, ◌+◌, ◌%◌, ◌^◌, ◌≤◌, ◌<◌}
use native.Mathlib.Nat.{le_refl}
use native.Mathlib.Omega.{arith}
use mathlib.Core.Path.{◌≡◌, refl, ◌∙◌}
use mathlib.Core.Bool.{true}
use mathlib.Core.List.{List, [], ◌∷◌}
use mathlib.Core.Option.{Option, some}
use lib.Dec.{eqb}
use lib.ListN.{length, get_or, drop}
use lib.Seq.{slice}
use borrow.Author.Tests.{eq-eqb, ne_eqb}
use Rattle.event.specs.declared.Row.{Row}
use Rattle.event.specs.Parser.{Result, ok, refuse, then, give, filled, within, optionally, if_any}
use Rattle.event.specs.Scanning.{PartOf}
use Rattle.event.specs.Words.{halves}
use Rattle.event.specs.Rows.{store_row}
use Rattle.event.proofs.Loops.{to_the_end, within_slice}
use Rattle.event.proofs.Turns.{at_word, three_words}
use Rattle.frs_layout.specs.Event.{PatternUnit, pattern_header, register_identifier, multiplicity_identifier, pattern_end}
use Rattle.frs_layout.specs.Layout.{pattern_row, pattern_rows}
use Rattle.frs_layout.specs.Reading.{pattern_body, pattern_unit, at_pattern}
use Rattle.event.specs.Refusal.{PartAnswer, refusal, part}
use Rattle.event.proofs.Leads.{refused_as}
use Rattle.event.specs.declared.refusal.Refusal.{Refusal}
use Rattle.std.specs.Prelude.{Ok, Err}
use Rattle.frs_reader.proofs.Judged.{under_judged}
use Rattle.frs_reader.specs.Longword.{under}
use Rattle.frs_reader.proofs.Longwords.{under_given, under_refused}

module _ (ws : List ℕ) (at : ℕ) where
  abbrev Looked : Result ℕ (Option PatternUnit) → Type 0
  Looked x = optionally at_pattern pattern_unit at (drop at ws) ≡ x

  abbrev PatternPart : (k : ℕ) (before after : List ℕ) → PartAnswer → Type 0
  PatternPart = PartOf (if_any pattern_rows) (optionally at_pattern pattern_unit at (drop at ws)) ws

  -- none
  module _ (below : at < length ws) where
    abbrev header : ℕ
    header = get_or ws at 0

    from_header : drop at ws ≡ header ∷ slice (at + 1) (length ws) ws
    from_header = to_the_end at ws ∙ at_word ws at (length ws) below (le_refl (length ws)) ∙ (let z : suc at ≡ at + 1 = omega arith in rw z)

    module _ (h : header ≡ pattern_header) where
      begun : {x : Result ℕ PatternUnit} → within 5 at 3 pattern_body (at + 1) (slice (at + 1) (length ws) ws) ≡ x → Looked (then (λ p. give (some p)) x)
      begun e = let z : suc at ≡ at + 1 = omega arith in rw from_header (rw (h, z, e))

      module _ (inside : at + 4 ≤ length ws) where
        abbrev register : ℕ
        register = get_or ws (at + 1) 0

        abbrev multiplicity : ℕ
        multiplicity = get_or ws (at + 2) 0

        abbrev footer : ℕ
        footer = get_or ws (at + 3) 0

        three : slice (at + 1) (at + 4) ws ≡ register ∷ multiplicity ∷ footer ∷ []
        three =
            let a : at + 1 + 1 ≡ at + 2 = omega arith in
            let b : at + 1 + 2 ≡ at + 3 = omega arith in
            let c : at + 1 + 3 ≡ at + 4 = omega arith in
            rw (a, b, c) at (three_words ws (at + 1) (omega arith))

        body : (x : Result ℕ PatternUnit) → pattern_body (at + 1) (register ∷ multiplicity ∷ footer ∷ []) ≡ x → Looked (then (λ p. give (some p)) (filled (drop (at + 4) ws) x))
        body x e =
            let d : at + 1 + 3 ≡ at + 4 = omega arith in
            begun {x = filled (drop (at + 4) ws) x} (within_slice 5 at 3 pattern_body (at + 1) (length ws) ws (le_refl (length ws)) (omega arith) ∙ rw (d, three, e, to_the_end (at + 4) ws))

        pub pattern_register : {k : ℕ} {b : List ℕ} {r : Refusal} → Err r ≡ under register_identifier (at + 1) register → PatternPart k b b (Err r)
        pattern_register q =
            let e = under_refused register_identifier (at + 1) register q in
            record {
              part = record {
                number = 10;
                place = at + 1;
                refused = body (refuse 10 (at + 1)) (rw (under_judged register_identifier (at + 1) register (multiplicity ∷ footer ∷ []), e.0));
                named = e.1;
              };
            }

        module _ {a : ℕ} (p : Ok a ≡ under register_identifier (at + 1) register) where
          second : suc (at + 1) ≡ at + 2
          second = omega arith

          first : (eqb register (halves register_identifier (register % 2 ^ 16)) ≡ true) × (a ≡ register % 2 ^ 16)
          first = under_given register_identifier (at + 1) register p

          pub pattern_multiplicity : {k : ℕ} {b : List ℕ} {r : Refusal} → Err r ≡ under multiplicity_identifier (at + 2) multiplicity → PatternPart k b b (Err r)
          pattern_multiplicity q =
              let e = under_refused multiplicity_identifier (at + 2) multiplicity q in
              record {
                part = record {
                  number = 10;
                  place = at + 2;
                  refused = body (refuse 10 (at + 2)) (rw (
                    under_judged register_identifier (at + 1) register (multiplicity ∷ footer ∷ []),
                    first.0,
                    second,
                    under_judged multiplicity_identifier (at + 2) multiplicity (footer ∷ []),
                    e.0,
                  ));
                  named = e.1;
                };
              }

          module _ {b : ℕ} (q : Ok b ≡ under multiplicity_identifier (at + 2) multiplicity) where
            third : suc (at + 2) ≡ at + 3
            third = omega arith

            next : (eqb multiplicity (halves multiplicity_identifier (multiplicity % 2 ^ 16)) ≡ true) × (b ≡ multiplicity % 2 ^ 16)
            next = under_given multiplicity_identifier (at + 2) multiplicity q

            pub pattern_footer : (footer ≡ pattern_end → ⊥) → Looked (refuse 9 (at + 3))
            pattern_footer z = body (refuse 9 (at + 3)) (rw (
              under_judged register_identifier (at + 1) register (multiplicity ∷ footer ∷ []),
              first.0,
              second,
              under_judged multiplicity_identifier (at + 2) multiplicity (footer ∷ []),
              next.0,
              third,
              ne_eqb footer pattern_end z,
            ))

            pub pattern_read : {k : ℕ} {before after : List ℕ} → footer ≡ pattern_end → k ≤ at → after ≡ store_row before k (pattern_row (record { register = a; multiplicity = b }))
                → PatternPart k before after (Ok (part (at + 4) (k + 1)))
            pattern_read {k} z f stored =
                let last : suc (at + 3) ≡ at + 4 = omega arith in
                record {
                  part = record {
                    value = some (record { register = register % 2 ^ 16; multiplicity = multiplicity % 2 ^ 16 });
                    parsed = body (ok (record { register = register % 2 ^ 16; multiplicity = multiplicity % 2 ^ 16 }) (at + 4) []) (rw (
                      under_judged register_identifier (at + 1) register (multiplicity ∷ footer ∷ []),
                      first.0,
                      second,
                      under_judged multiplicity_identifier (at + 2) multiplicity (footer ∷ []),
                      next.0,
                      third,
                      eq-eqb footer pattern_end z,
                      last,
                    ));
                    inside = inside;
                    few = omega arith;
                    counted = refl;
                    stored = stored ∙ rw (first.1, next.1);
                  };
                }

-- a refused part, and one refused longword
pub part_refused : {A : Type 0} {rows_of : A → List Row} {x : Result ℕ A} {ws before after : List ℕ} {k n p : ℕ} {r : PartAnswer} → r ≡ Err (refusal n p) → x ≡ refuse n p → PartOf rows_of x ws k before after r
part_refused {n = n} {p = p} q e = rw q (record { part = refused_as {n = n} {p = p} e })
