-- The whole event: its first words, the stamp, the event number, the packets, and its length. Over plain values.
-- Assumes nothing.
use Prim.Native.Nat.{ℕ, ◌-◌, ◌≤◌, min}
use native.Mathlib.Omega.{arith}
use mathlib.Core.Path.{◌≡◌, refl, ap, ◌∙◌}
use mathlib.Core.List.{List, ◌∷◌, ◌++◌}
use lib.ListN.{length, take, drop}
use borrow.Rule.Slice.PartMut.{put_mid}
use Rattle.event.specs.declared.Row.{Row}
use Rattle.event.specs.declared.StampOrder.{StampOrder}
use Rattle.event.specs.Parser.{Result, ok, then, give, ended, several, each}
use Rattle.event.specs.Words.{store_word}
use Rattle.event.specs.Scanning.{store_words, ScannedBy, writing_all, writing_part, BegunBy, RefusedAs, Writes}
use Rattle.event.proofs.Leads.{leads_part, then_then, scanned_refuse}
use Rattle.event.proofs.WordStores.{part_written}
use Rattle.event.proofs.Ends.{placed}
use Rattle.event.proofs.WritingTurns.{Wrote, wrote, unwritten, all_done}
use Rattle.s800_layout.specs.Event.{run_of, Stamp, Event, event_tag, stamp_tag, number_tag}
use Rattle.s800_layout.specs.Layout.{framed, stamp_words, number_words, packet_words, packets_words, version, words}
use Rattle.s800_layout.specs.Writing.{packet, stamp_packet, number_packet, event_rows_up_to}
use Rattle.s800_layout.proofs.Event.{run_words_lem}
use Rattle.s800_layout.proofs.Rows.{codes_stamp, codes_number}
use Rattle.s800_writer.specs.Packets.{closed}
use Rattle.s800_writer.proofs.Closing.{closed_writes}
use Rattle.event.specs.Refusal.{Answer, PartAnswer}
use Rattle.std.specs.Prelude.{Err, Ok}
use Rattle.event.specs.declared.Part.{Part}
use Rattle.event.specs.declared.refusal.Refusal.{Refusal}
use Rattle.s800_writer.proofs.Failures.{refused_first}

module _ (o : StampOrder) (rs : List Row) where
  abbrev event_at : Result Row Event
  event_at = event_rows_up_to o ended 0 rs

  abbrev StampIn : List ℕ → PartAnswer → List ℕ → Type 0
  StampIn b p after = Writes 16 (λ s. framed stamp_tag (stamp_words s)) (stamp_packet o 0 rs) rs 0 b p after

  abbrev NumberIn : List ℕ → PartAnswer → List ℕ → Type 0
  NumberIn b p after = Writes 16 (λ k. framed number_tag (number_words k)) (number_packet 2 (drop 2 rs)) rs 0 b p after

  abbrev Laid : List ℕ → Answer → List ℕ → Type 0
  Laid b r after = ScannedBy (writing_all 16) words event_at 0 b r after

  event_stops : {b after : List ℕ} {refused : Refusal} → RefusedAs event_at refused → Laid b (Err refused) after
  event_stops {b} {after} t = rw t.named (scanned_refuse words {n = t.number} {p = t.place} 0 b after t.refused)

  pub stamp_laid : {part part' b after : List ℕ} {refused : Refusal} → StampIn part (Err refused) part' → Laid b (Err refused) after
  stamp_laid w = event_stops (refused_first _ (unwritten 16 (λ s. framed stamp_tag (stamp_words s)) (stamp_packet o 0 rs) w.scanned))

  -- the stamp is written
  pub record Stamped (b b₂ : List ℕ) : Type 0 where
    pub stamp : Stamp
    pub parsed : stamp_packet o 0 rs ≡ ok stamp 2 (drop 2 rs)
    pub two : 2 ≤ length rs
    pub stored : b₂ ≡ store_words 16 b 2 (version ∷ framed stamp_tag (stamp_words stamp))

  pub stamp_done : (b : List ℕ) {b₁ b₂ part part' : List ℕ} {start : ℕ} {p : Part} → b₁ ≡ store_word 16 b 2 5 → start ≡ min 3 (length b₁) → part ≡ take (length b₁ - start) (drop start b₁) → StampIn part (Ok p) part'
      → b₂ ≡ put_mid start (length b₁ - start) b₁ part' → Stamped b b₂
  stamp_done b {b₁} {b₂} {part} {part'} {start} {p} q s lent w back = go (wrote 16 (λ s. framed stamp_tag (stamp_words s)) (stamp_packet o 0 rs) {j = p.next} {e = p.count} w.scanned)
    where
      go : Wrote 16 (λ s. framed stamp_tag (stamp_words s)) (stamp_packet o 0 rs) 0 part p.next p.count part' → Stamped b b₂
      go v =
          let k = placed (codes_stamp o) rs 0 (omega arith) v.parsed in
          let m : p.next ≡ 2 = k.1 in
          record {
            stamp = v.value;
            parsed = v.parsed ∙ rw (k.0, m);
            two = omega (arith, k.2);
            stored = part_written 16 (framed stamp_tag (stamp_words v.value)) b₁ 3 s lent v.stored back ∙ rw q;
          }

  -- the event number too
  abbrev pub Begun : (b b₃ : List ℕ) → Type 0
  Begun b b₃ = BegunBy (writing_part 16) (each packet_words) (several packet ended) (λ e. version ∷ packets_words e) event_at rs 2 b b₃ 4 14

  pub number_laid : {b b₂ part part' after : List ℕ} {refused : Refusal} → Stamped b b₂ → NumberIn part (Err refused) part' → Laid b (Err refused) after
  number_laid t w = event_stops (rw t.parsed (refused_first _ (unwritten 16 (λ k. framed number_tag (number_words k)) (number_packet 2 (drop 2 rs)) w.scanned)))

  pub number_done : (b : List ℕ) {b₂ b₃ part part' : List ℕ} {start : ℕ} {p : Part} → Stamped b b₂ → start ≡ min 9 (length b₂) → part ≡ take (length b₂ - start) (drop start b₂) → NumberIn part (Ok p) part'
      → b₃ ≡ put_mid start (length b₂ - start) b₂ part' → Begun b b₃
  number_done b {b₂} {b₃} {part} {part'} {start} {p} t s lent w back = go (wrote 16 (λ k. framed number_tag (number_words k)) (number_packet 2 (drop 2 rs)) {j = p.next} {e = p.count} w.scanned)
    where
      go : Wrote 16 (λ k. framed number_tag (number_words k)) (number_packet 2 (drop 2 rs)) 0 part p.next p.count part' → Begun b b₃
      go v =
          let k = placed codes_number rs 2 t.two v.parsed in
          let m : p.next ≡ 4 = k.1 in
          let first : List ℕ = version ∷ (framed stamp_tag (stamp_words t.stamp) ++ framed number_tag (number_words v.value)) in
          let parsed : event_at ≡ then (λ qs. give (record { stamp = t.stamp; number = v.value; run = run_of qs })) (several packet ended 4 (drop 4 rs)) =
          rw (t.parsed, v.parsed, k.0, m) (then_then (several packet ended 4 (drop 4 rs)) run_of (λ r. record { stamp = t.stamp; number = v.value; run = r })) in
          let stored : b₃ ≡ store_words 16 b 2 first = part_written 16 (framed number_tag (number_words v.value)) b₂ 9 s lent v.stored back ∙ rw t.stored in
          record {
            inside = omega (arith, k.2);
            few = omega arith;
            leads = rw (parsed, stored) (leads_part first (each packet_words) (several packet ended 4 (drop 4 rs)) (λ qs. record { stamp = t.stamp; number = v.value; run = run_of qs })
                (λ e. version ∷ packets_words e) 2 b
                (λ qs. ap (λ (l : List ℕ). version ∷ (framed stamp_tag (stamp_words t.stamp) ++ (framed number_tag (number_words v.value) ++ l))) (run_words_lem qs)));
          }

  -- the packets, and the event's length
  module _ {b b₃ b₄ : List ℕ} (h : Begun b b₃) where
    headed : {p : PartAnswer} → Writes 16 (each packet_words) (several packet ended 4 (drop 4 rs)) rs 14 b₃ p b₄ → Writes 16 (λ e. version ∷ packets_words e) event_at rs 2 b p b₄
    headed {p} w = record { scanned = h.leads.leads p b₄ w.scanned; within = w.within }

    pub event_refused : {refused : Refusal} {after : List ℕ} → Writes 16 (each packet_words) (several packet ended 4 (drop 4 rs)) rs 14 b₃ (Err refused) b₄ → Laid b (Err refused) after
    event_refused w = event_stops (unwritten 16 (λ e. version ∷ packets_words e) event_at (headed w).scanned)

    pub event_laid : {p : Part} {b₅ : List ℕ} → Writes 16 (each packet_words) (several packet ended 4 (drop 4 rs)) rs 14 b₃ (Ok p) b₄ → b₅ ≡ closed 0 event_tag p.count b₄ → Laid b (Ok p.count) b₅
    event_laid w c = all_done 16 words (closed_writes (λ e. version ∷ packets_words e) 0 event_tag event_at (headed w) c).scanned refl
