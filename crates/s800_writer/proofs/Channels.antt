-- The loop over times or energies: one turn, over plain values.
-- Assumes nothing.
use Prim.Native.Nat.{ℕ, ◌+◌, ◌-◌, ◌%◌, ◌^◌, ◌≤◌, ◌<◌}
use native.Mathlib.Omega.{arith}
use mathlib.Core.Path.{◌≡◌, refl, sym, ◌∙◌}
use mathlib.Core.Bool.{Bool, true, false, cond, not, ◌&&◌}
use mathlib.Core.List.{List, [], ◌∷◌, ◌++◌}
use lib.Dec.{eqb, ltb, leb}
use lib.ListN.{length, get_or, drop}
use borrow.Author.Tests.{ltb-true, leb-true, ne_eqb}
use Rattle.event.specs.declared.Row.{Row}
use Rattle.event.specs.Channels.{present, insert, Blocked}
use Rattle.event.specs.Parser.{ok, each}
use Rattle.event.specs.Words.{store_word}
use Rattle.event.specs.Scanning.{Writes}
use Rattle.event.specs.Writing.{of_kind, no_row}
use Rattle.event.proofs.ChannelLaws.{blocked_more}
use Rattle.event.proofs.RowJudged.{row_taken}
use Rattle.event.proofs.Turns.{up_to_stop}
use Rattle.event.proofs.WritingTurns.{WritesOn, run_refused, run_taken}
use Rattle.s800_layout.specs.Event.{Datum}
use Rattle.s800_layout.specs.Layout.{channel_word, datum_row, datum_checks, channels, ValidDatum}
use Rattle.s800_layout.specs.Writing.{at_packet, datum_of, datum, channel_rows}
use Rattle.s800_layout.proofs.Rows.{codes_datum}
use Rattle.s800_format.specs.declared.Format.{Format}
use Rattle.s800_format.specs.Format.{bits_of, format_of}
use Rattle.s800_writer.specs.Rows.{datum_fault, datum_words}
use Rattle.s800_writer.proofs.Datum.{datum_fault_lem}
use Rattle.std.specs.Prelude.{Err}
use Rattle.event.specs.declared.refusal.Refusal.{Refusal}
use Rattle.event.proofs.Answers.{Failed}
use Rattle.s800_writer.proofs.Failures.{row_failed}

-- what a row without a fault has
pub record Sound (m : Format) (r : Row) : Type 0 where
  pub base : m.base ≤ r.channel
  pub low : r.channel - m.base < 16
  pub number : r.datum < 2 ^ bits_of m

pub sound : (m : Format) (set : ℕ) (r : Row) → 0 ≡ datum_fault m set r → Sound m r
unfolding datum_fault
sound m set r e = go (eqb m.kind r.kind) (leb m.base r.channel) refl (eqb r.unit 0) (ltb (r.channel - m.base) 16) refl (ltb r.datum (2 ^ bits_of m)) refl (present set (r.channel - m.base)) e
  where
    go : (a b : Bool) → leb m.base r.channel ≡ b → (u c : Bool) → ltb (r.channel - m.base) 16 ≡ c → (d : Bool) → ltb r.datum (2 ^ bits_of m) ≡ d → (x : Bool)
        → ◌≡◌ {A = ℕ} 0 (cond a (cond b (cond ((u && c) && d) (cond x 22 0) 22) 22) 21) → Sound m r
    go true true p true true q true s x e = record { base = leb-true m.base r.channel p; low = ltb-true (r.channel - m.base) 16 q; number = ltb-true r.datum (2 ^ bits_of m) s }
    go true true p true true q false s x e = absurd (omega arith)
    go true true p true false q d s x e = absurd (omega arith)
    go true true p false c q d s x e = absurd (omega arith)
    go true false p u c q d s x e = absurd (omega arith)
    go false b p u c q d s x e = absurd (omega arith)

-- `set` holds the barred channels, and those of the rows before
abbrev pub Channels : Format → ℕ → List Row → ℕ → ℕ → List ℕ → ℕ → ℕ → List ℕ → Type 0
Channels m set rs = WritesOn 16 (up_to_stop at_packet (datum m.kind m.base (format_of m)) channels) (datum_words m) (Blocked m.barred set) rs []

module _ (m : Format) {set : ℕ} {rs : List Row} {i₀ k₀ i k : ℕ} {b₀ b : List ℕ} (h : Channels m set rs i₀ k₀ b₀ i k b) (other : 1 < m.kind) (going : true ≡ not (at_packet (drop i rs)))
    {r : Row} (e : r ≡ get_or rs i no_row) where
  on : (st : List ℕ) (d : Datum) → ValidDatum (format_of m) st d → (l : List Row) → at_packet ((datum_row m.kind m.base d ∷ []) ++ l) ≡ false
  on st d g l = ne_eqb 1 m.kind (λ z. omega arith)

  none : of_kind m.kind no_row ≡ false
  none = ne_eqb m.kind 0 (λ z. omega arith)

  pub channels_stop : {refused : Refusal} (after : List ℕ) → Failed (datum_fault m set r) i refused → Writes 16 (each (datum_words m)) (channel_rows m.kind m.base (format_of m) i₀ (drop i₀ rs)) rs k₀ b₀ (Err refused) after
  channels_stop after t = run_refused 16 at_packet h (codes_datum m.kind m.base (format_of m)) on refl going after
      (row_failed (of_kind m.kind) (datum_of m.base) (datum_row m.kind m.base) (datum_checks 22 22 (format_of m) h.state) none (λ a. (tt, (tt, (tt, tt)))) rs i e (datum_fault_lem m h.holds r) t)

  module _ (f : 0 ≡ datum_fault m set r) where
    taken : (i < length rs) × (datum m.kind m.base (format_of m) h.state i (drop i rs) ≡ ok (datum_of m.base r) (i + 1) (drop (i + 1) rs))
    taken = row_taken (of_kind m.kind) (datum_of m.base) (datum_row m.kind m.base) (datum_checks 22 22 (format_of m) h.state) none (λ a. (tt, (tt, (tt, tt)))) rs i e (f ∙ sym (datum_fault_lem m h.holds r))

    pub channels_inside : i < length rs
    channels_inside = taken.0

    pub channels_step : {set' channel w : ℕ} {b' : List ℕ} → channel ≡ r.channel - m.base → set' ≡ insert set (channel % 32) → w ≡ channel_word (format_of m) channel r.datum
        → b' ≡ store_word 16 b k w → length b' ≡ length b → Channels m set' rs i₀ k₀ b₀ (i + 1) (k + 1) b'
    channels_step {channel = channel} c s w q z =
        let few = h.few in
        let l = taken.0 in
        let low : channel % 32 ≡ r.channel - m.base = let d = (sound m set r f).low in omega arith in
        run_taken 16 at_packet h (codes_datum m.kind m.base (format_of m)) on refl going taken.1
        (rw (s, low) (blocked_more (r.channel - m.base) h.holds)) (omega arith) (omega arith) refl (q ∙ rw (w, c)) z
