-- The loop over pairs of an energy and a time: one turn, over plain values.
-- Assumes nothing.
use Prim.Native.Nat.{ℕ, ◌+◌, ◌-◌, ◌%◌, ◌^◌, ◌<◌}
use native.Mathlib.Omega.{arith}
use mathlib.Core.Path.{◌≡◌, refl, sym, ap, subst, ◌∙◌}
use mathlib.Core.Bool.{Bool, true, false, cond, not, ◌&&◌}
use mathlib.Core.List.{List, []}
use lib.Dec.{eqb, ltb}
use lib.ListN.{length, get_or, drop}
use borrow.Author.Tests.{ltb-true}
use Rattle.event.specs.declared.Row.{Row}
use Rattle.event.specs.Channels.{insert, Blocked}
use Rattle.event.specs.Parser.{ok, fault_in, many, each}
use Rattle.event.specs.Rows.{row}
use Rattle.event.specs.Words.{below_checks}
use Rattle.event.specs.Scanning.{store_words, RefusedAs, Writes}
use Rattle.event.specs.Writing.{row_tests, of_kind, no_row}
use Rattle.event.proofs.ChannelLaws.{blocked_more}
use Rattle.event.proofs.RowJudged.{row_taken}
use Rattle.event.proofs.Turns.{up_to_stop}
use Rattle.event.proofs.WritingTurns.{WritesOn, run_refused, run_taken}
use Rattle.s800_format.proofs.Formats.{pair_format, pair_format_lem}
use Rattle.s800_layout.specs.Event.{ChannelFormat, pair_energy}
use Rattle.s800_layout.specs.Layout.{pair_words, datum_row, datum_checks, pair_channels}
use Rattle.s800_layout.specs.Writing.{at_packet, datum_of, datum, pair}
use Rattle.s800_layout.proofs.Rows.{codes_pair}
use Rattle.s800_writer.specs.Rows.{datum_fault, time_fault, pair_of}
use Rattle.s800_writer.proofs.Channels.{sound}
use Rattle.s800_writer.proofs.Datum.{datum_fault_lem}
use Rattle.s800_writer.proofs.Limits.{time_fault_lem}
use Rattle.std.specs.Prelude.{Err}
use Rattle.event.specs.declared.refusal.Refusal.{Refusal}
use Rattle.event.proofs.Answers.{Failed}
use Rattle.s800_writer.proofs.Failures.{row_failed, refused_first}

-- the number of a time without a fault
pub short_time : (channel : ℕ) (r : Row) → 0 ≡ time_fault channel r → r.datum < 2 ^ 12
unfolding time_fault
short_time channel r = go (eqb 5 r.kind) (eqb r.unit 0 && eqb r.channel channel) (ltb r.datum 4096) refl
  where
    go : (a b c : Bool) → ltb r.datum 4096 ≡ c → ◌≡◌ {A = ℕ} 0 (cond a (cond (b && c) 0 22) 21) → r.datum < 4096
    go true true true q e = ltb-true r.datum 4096 q
    go true true false q e = absurd (omega arith)
    go true false c q e = absurd (omega arith)
    go false b c q e = absurd (omega arith)

-- an energy, and a pair, after the channels of a set
module _ {set : ℕ} {seen : List ℕ} (s : Blocked pair_format.barred set seen) (rs : List Row) (i : ℕ) {r : Row} (e : r ≡ get_or rs i no_row) where
  fault : fault_in (row_tests (of_kind 6) (datum_of 0) (datum_row 6 0) (datum_checks 22 22 pair_energy seen) r) ≡ datum_fault pair_format set r
  fault = subst (λ (f : ChannelFormat). fault_in (row_tests (of_kind 6) (datum_of 0) (datum_row 6 0) (datum_checks 22 22 f seen) r) ≡ datum_fault pair_format set r) pair_format_lem (datum_fault_lem pair_format s r)

  energy_refused : {refused : Refusal} → Failed (datum_fault pair_format set r) i refused → RefusedAs (pair seen i (drop i rs)) refused
  energy_refused t = refused_first _ (row_failed (of_kind 6) (datum_of 0) (datum_row 6 0) (datum_checks 22 22 pair_energy seen) refl (λ a. (tt, (tt, (tt, tt)))) rs i e fault t)

  module _ (f : 0 ≡ datum_fault pair_format set r) where
    energy_taken : (i < length rs) × (datum 6 0 pair_energy seen i (drop i rs) ≡ ok (datum_of 0 r) (i + 1) (drop (i + 1) rs))
    energy_taken = row_taken (of_kind 6) (datum_of 0) (datum_row 6 0) (datum_checks 22 22 pair_energy seen) refl (λ a. (tt, (tt, (tt, tt)))) rs i e (f ∙ sym fault)

    same_channel : r.channel - 0 ≡ r.channel
    same_channel = omega arith

    module _ {t : Row} (q : t ≡ get_or rs (i + 1) no_row) where
      time_refused : {refused : Refusal} → Failed (time_fault r.channel t) (i + 1) refused → RefusedAs (pair seen i (drop i rs)) refused
      time_refused u =
          rw (energy_taken.1, same_channel)
          (refused_first _ (row_failed (of_kind 5) (λ r. r.datum) (row 5 0 r.channel) (below_checks 22 (2 ^ 12)) refl (λ a. (tt, tt)) rs (i + 1) q (time_fault_lem r.channel t) u))

      time_taken : 0 ≡ time_fault r.channel t → (i + 1 < length rs) × (pair seen i (drop i rs) ≡ ok (pair_of r t) (i + 2) (drop (i + 2) rs))
      time_taken g =
          let k = row_taken (of_kind 5) (λ r. r.datum) (row 5 0 r.channel) (below_checks 22 (2 ^ 12)) refl (λ a. (tt, tt)) rs (i + 1) q (g ∙ sym (time_fault_lem r.channel t)) in
          let two : i + 1 + 1 ≡ i + 2 = omega arith in
          (k.0, rw (energy_taken.1, ap (λ (c : ℕ). row 5 0 c) same_channel, k.1, two))

abbrev pub Pairs : ℕ → List Row → ℕ → ℕ → List ℕ → ℕ → ℕ → List ℕ → Type 0
Pairs set rs = WritesOn 16 (up_to_stop at_packet pair pair_channels) pair_words (Blocked pair_format.barred set) rs []

module _ {set : ℕ} {rs : List Row} {i₀ k₀ i k : ℕ} {b₀ b : List ℕ} (h : Pairs set rs i₀ k₀ b₀ i k b) (going : true ≡ not (at_packet (drop i rs))) {r : Row} (e : r ≡ get_or rs i no_row) where
  pub pairs_stop : {refused : Refusal} (after : List ℕ) → Failed (datum_fault pair_format set r) i refused → Writes 16 (each pair_words) (many pair pair_channels at_packet [] i₀ (drop i₀ rs)) rs k₀ b₀ (Err refused) after
  pairs_stop after t = run_refused 16 at_packet h codes_pair (λ st x g l. refl) refl going after (energy_refused h.holds rs i e t)

  module _ (f : 0 ≡ datum_fault pair_format set r) where
    pub pairs_inside : i < length rs
    pairs_inside = (energy_taken h.holds rs i e f).0

    module _ {t : Row} (q : t ≡ get_or rs (i + 1) no_row) where
      pub pairs_stop_2 : {refused : Refusal} (after : List ℕ) → Failed (time_fault r.channel t) (i + 1) refused → Writes 16 (each pair_words) (many pair pair_channels at_packet [] i₀ (drop i₀ rs)) rs k₀ b₀ (Err refused) after
      pairs_stop_2 after t = run_refused 16 at_packet h codes_pair (λ st x g l. refl) refl going after (time_refused h.holds rs i e f q t)

      module _ (g : 0 ≡ time_fault r.channel t) where
        pub pairs_inside_2 : i + 1 < length rs
        pairs_inside_2 = (time_taken h.holds rs i e f q g).0

        pub pairs_step : {set' : ℕ} {b' : List ℕ} → set' ≡ insert set (r.channel % 32) → b' ≡ store_words 16 b k (pair_words (pair_of r t)) → length b' ≡ length b → Pairs set' rs i₀ k₀ b₀ (i + 2) (k + 2) b'
        pairs_step s w z =
            let few = h.few in
            let u = time_taken h.holds rs i e f q g in
            let l = u.0 in
            let low : r.channel % 32 ≡ r.channel - 0 = let d = (sound pair_format set r f).low in omega arith in
            run_taken 16 at_packet h codes_pair (λ st x g l. refl) refl going u.1 (rw (s, low) (blocked_more (r.channel - 0) h.holds)) (omega arith) (omega arith) refl w z
