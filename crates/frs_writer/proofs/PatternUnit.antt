-- The pattern unit, where the row after the scalers is one. Over plain values.
-- Assumes nothing.
use Prim.Native.Nat.{ℕ, zero, suc, ◌+◌, ◌≤◌}
use native.Mathlib.Omega.{arith}
use mathlib.Core.Path.{◌≡◌, refl, sym, ap, ◌∙◌}
use mathlib.Core.Bool.{Bool, cond}
use mathlib.Core.List.{List, [], ◌∷◌}
use mathlib.Core.Option.{some, none}
use lib.ListN.{length, get_or, drop}
use borrow.Author.Tests.{eq-eqb, ne_eqb}
use Rattle.std.specs.Prelude.{Ok, Err}
use Rattle.event.specs.declared.refusal.Refusal.{Refusal}
use Rattle.event.specs.Refusal.{PartAnswer, part, verdict}
use Rattle.event.proofs.Answers.{passed_test, failed_test}
use Rattle.event.specs.declared.Row.{Row}
use Rattle.event.specs.Parser.{ok, then, give, optionally, if_any}
use Rattle.event.specs.Writing.{of_kind, no_row}
use Rattle.event.specs.Scanning.{store_words, Writes}
use Rattle.event.proofs.RowJudged.{row_taken, row_refused}
use Rattle.event.proofs.WritingTurns.{writes_refused, writes_done}
use Rattle.frs_layout.specs.Layout.{pattern_words, pattern_row, pattern_checks}
use Rattle.frs_layout.specs.Writing.{pattern_of, pattern_unit, at_pattern}
use Rattle.frs_writer.specs.Faults.{pattern_fault}

next_row : (rs : List Row) (i : ℕ) → at_pattern (drop i rs) ≡ of_kind 19 (get_or rs i no_row)
next_row [] zero = refl
next_row [] (suc i) = refl
next_row (r ∷ rs) zero = refl
next_row (r ∷ rs) (suc i) = next_row rs i

module _ (rs : List Row) (i : ℕ) (b : List ℕ) {r : Row} (e : r ≡ get_or rs i no_row) where
  looks : at_pattern (drop i rs) ≡ of_kind 19 r
  looks = next_row rs i ∙ ap (of_kind 19) (sym e)

  abbrev Written : PartAnswer → List ℕ → Type 0
  Written = Writes 32 (if_any pattern_words) (optionally at_pattern pattern_unit i (drop i rs)) rs 0 b

  pub no_pattern : (r.kind ≡ 19 → ⊥) → i ≤ length rs → Written (Ok (part i 0)) b
  no_pattern n l = writes_done 32 (if_any pattern_words) {a = none} {l = drop i rs} (rw (looks, ne_eqb 19 r.kind (λ q. n (sym q)))) refl refl refl l (omega arith)

  module _ (is : r.kind ≡ 19) where
    pub pattern_refused : {refused : Refusal} (after : List ℕ) → Err refused ≡ verdict (pattern_fault r) i → Written (Err refused) after
    unfolding pattern_fault
    pattern_refused after q =
        let t = failed_test (pattern_fault r) i q in
        let u = row_refused (of_kind 19) pattern_of pattern_row (pattern_checks 22) refl (λ p. (tt, (tt, tt))) rs i e {n = pattern_fault r} refl t.some in
        let looked = ap (λ (b : Bool). cond b (then (λ p. give (some p)) (pattern_unit i (drop i rs))) (ok none i (drop i rs))) (looks ∙ eq-eqb 19 r.kind (sym is)) in
        writes_refused 32 (if_any pattern_words) (record { number = pattern_fault r; place = i; refused = looked ∙ ap (then (λ p. give (some p))) u; named = t.named }) refl

    pub pattern_done : {u : Unit {0}} {after : List ℕ} → Ok u ≡ verdict (pattern_fault r) i → after ≡ store_words 32 b 0 (pattern_words (pattern_of r)) → Written (Ok (part (i + 1) 4)) after
    unfolding pattern_fault
    pattern_done q s =
        let t = row_taken (of_kind 19) pattern_of pattern_row (pattern_checks 22) refl (λ p. (tt, (tt, tt))) rs i e (passed_test (pattern_fault r) i q) in
        writes_done 32 (if_any pattern_words) {a = some (pattern_of r)} {l = drop (i + 1) rs} (rw (looks, eq-eqb 19 r.kind (sym is), t.1)) refl refl s (omega arith) (omega arith)
