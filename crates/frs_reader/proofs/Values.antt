-- The loop over the data longwords of a module. Over plain values.
-- Assumes nothing.
use Prim.Native.Nat.{ℕ, suc, ◌+◌, ◌/◌, ◌%◌, ◌^◌, ◌≤◌, ◌<◌}
use native.Mathlib.Omega.{arith}
use mathlib.Core.Path.{◌≡◌, refl, ◌∙◌}
use mathlib.Core.List.{List, [], ◌∷◌, map, map-append}
use lib.ListN.{length, get_or}
use lib.Seq.{slice, slice_empty}
use borrow.Author.Tests.{ne_eqb}
use Rattle.std.specs.Prelude.{Ok, Err}
use Rattle.event.specs.declared.refusal.Refusal.{Refusal}
use Rattle.event.specs.Parser.{ended}
use Rattle.event.specs.Channels.{insert, Blocked}
use Rattle.event.specs.Refusal.{verdict}
use Rattle.event.proofs.Answers.{passed_test, failed_test}
use Rattle.event.proofs.ChannelLaws.{blocked_none, blocked_more}
use Rattle.event.proofs.ItemsTaken.{TakenTo, none_taken, all_taken, item_refuses, one_taken}
use Rattle.event.proofs.RowStores.{slice_more}
use Rattle.event.proofs.Turns.{at_word}
use Rattle.frs_layout.specs.Layout.{channels}
use Rattle.frs_layout.specs.Reading.{value_of, value}
use Rattle.frs_layout.proofs.Words.{codes_value}
use Rattle.frs_reader.specs.Longword.{value_fault}
use Rattle.frs_reader.specs.Modules.{ValuesJudged}
use Rattle.frs_reader.proofs.Judged.{value_judged}

-- the data longwords from `first` up to i are good; the set holds their channels
pub record ValuesTo (g set : ℕ) (ws : List ℕ) (first end i : ℕ) : Type 0 where
  pub state : List ℕ
  pub holds : Blocked 0 set state
  pub taken : TakenTo (value g) channels ended [] first (slice first end ws) (map value_of (slice first i ws)) state i (slice i end ws)

pub values_begin : {g : ℕ} {ws : List ℕ} {first end : ℕ} → ValuesTo g 0 ws first end first
values_begin {g} {ws} {first} {end} = record { state = []; holds = blocked_none; taken = rw (slice_empty first ws) (none_taken (value g) channels ended [] first (slice first end ws)) }

module _ {g set : ℕ} {ws : List ℕ} {first end i : ℕ} (h : ValuesTo g set ws first end i) where
  module _ (below : i < end) (long : end ≤ length ws) {w : ℕ} (e : w ≡ get_or ws i 0) where
    here : slice i end ws ≡ w ∷ slice (i + 1) end ws
    here = let one : suc i ≡ i + 1 = omega arith in rw e (at_word ws i end below long ∙ rw one)

    pub values_refused : {r : Refusal} → Err r ≡ verdict (value_fault g set w) i → ValuesJudged g ws first end (Err r)
    values_refused q =
        let t = failed_test (value_fault g set w) i q in
        record {
          judged = record {
            number = value_fault g set w;
            place = i;
            refused = item_refuses h.taken (codes_value g) (λ seen v p r. refl) refl (rw here refl)
                (rw (here, value_judged h.holds i (slice (i + 1) end ws) g w) (rw (ne_eqb (value_fault g set w) 0 t.some)));
            named = t.named;
          };
        }

    pub values_next : first ≤ i → {u : Unit {0}} → Ok u ≡ verdict (value_fault g set w) i → {channel set' : ℕ} → channel ≡ w / 2 ^ 16 % 2 ^ 5 → set' ≡ insert set (channel % 32)
        → ValuesTo g set' ws first end (i + 1)
    values_next from q {channel} c s =
        let good : 0 ≡ value_fault g set w = passed_test (value_fault g set w) i q in
        let low : channel % 32 ≡ (value_of w).channel = omega arith in
        let one : suc i ≡ i + 1 = omega arith in
        let all = map-append value_of (slice first i ws) (w ∷ []) in
        let more = slice_more ws first i from (omega arith) in
        record {
          state = (value_of w).channel ∷ h.state;
          holds = rw (s, low) (blocked_more (value_of w).channel h.holds);
          taken = rw (more, ← e, all) (one_taken h.taken (codes_value g) (λ seen v p r. refl) refl (rw here refl)
              (rw (here, value_judged h.holds i (slice (i + 1) end ws) g w) (rw (← good, one))));
        }

  pub values_end : i ≡ end → {u : Unit {0}} → ValuesJudged g ws first end (Ok u)
  values_end e = record { judged = let none = slice_empty end ws in rw e at (all_taken h.taken (rw (e, none) refl)) ∙ rw none }
