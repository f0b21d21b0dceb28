-- The loop over packets, each written in its part of the words: one turn, over plain values.
-- Assumes nothing.
use Prim.Native.Nat.{ℕ, ◌+◌, ◌*◌, ◌-◌, ◌≤◌, ◌<◌, min}
use mathlib.Core.Path.{◌≡◌, refl}
use mathlib.Core.List.{List}
use lib.ListN.{length, take, drop}
use borrow.Rule.Slice.PartMut.{put_mid}
use Rattle.event.specs.declared.Row.{Row}
use Rattle.event.specs.Parser.{ended, several, each, alone}
use Rattle.event.specs.Scanning.{Writes}
use Rattle.event.proofs.PartTurns.{parts_done, part_refused, part_within, part_taken}
use Rattle.event.proofs.Turns.{up_to_stop}
use Rattle.event.proofs.WritingTurns.{WritesOn}
use Rattle.s800_layout.specs.Layout.{packet_words}
use Rattle.s800_layout.specs.Writing.{packet}
use Rattle.s800_layout.proofs.Rows.{codes_packet}
use Rattle.s800_writer.proofs.FewWords.{few_words}
use Rattle.event.specs.Refusal.{PartAnswer, part}
use Rattle.std.specs.Prelude.{Err, Ok}
use Rattle.event.specs.declared.refusal.Refusal.{Refusal}
use Rattle.event.specs.declared.Part.{Part}

abbrev pub Packets : List Row → ℕ → ℕ → List ℕ → ℕ → ℕ → List ℕ → Type 0
Packets rs = WritesOn 16 (up_to_stop ended (λ u. packet) alone) packet_words (λ u. Unit {0}) rs tt

module _ {rs : List Row} {i₀ k₀ i k : ℕ} {b₀ b : List ℕ} (h : Packets rs i₀ k₀ b₀ i k b) where
  abbrev Written : PartAnswer → List ℕ → Type 0
  Written = Writes 16 (each packet_words) (several packet ended i₀ (drop i₀ rs)) rs k₀ b₀

  pub packets_done : length rs ≤ i → Written (Ok (part i k)) b
  packets_done = parts_done 16 h

  module _ (below : i < length rs) {start : ℕ} (s : start ≡ min k (length b)) {part part' : List ℕ} (lent : part ≡ take (length b - start) (drop start b)) where
    pub packets_stop : {refused : Refusal} (after : List ℕ) → Writes 16 packet_words (packet i (drop i rs)) rs 0 part (Err refused) part' → Written (Err refused) after
    packets_stop after w = part_refused 16 (λ u. codes_packet) (λ q l. tt) tt (λ q l. refl) few_words h below s lent w after refl

    module _ {p : Part} (w : Writes 16 packet_words (packet i (drop i rs)) rs 0 part (Ok p) part') where
      pub packets_within : (p.next ≤ length rs) × (i < p.next) × (k + p.count ≤ 4 * p.next)
      packets_within = part_within 16 (λ u. codes_packet) (λ q l. tt) tt (λ q l. refl) few_words h below s lent w {j = p.next} {n = p.count} refl

      pub packets_step : {b' : List ℕ} → b' ≡ put_mid start (length b - start) b part' → Packets rs i₀ k₀ b₀ p.next (k + p.count) b'
      packets_step = part_taken 16 (λ u. codes_packet) (λ q l. tt) tt (λ q l. refl) few_words h below s lent w {j = p.next} {n = p.count} refl (λ q l g z. tt)
