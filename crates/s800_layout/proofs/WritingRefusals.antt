-- Every refusal of a writing of dialect S has a number of document 01, 20 to 23, and its place: 0; a row's index, or for 21 the row count; more words than the largest event has.
-- Assumes nothing.
use Prim.Native.Nat.{ℕ, suc, ◌*◌, ◌/◌, ◌^◌}
use native.Mathlib.Omega.{arith}
use mathlib.Core.Path.{◌≡◌}
use mathlib.Core.Bool.{Bool, cond}
use mathlib.Core.List.{List, []}
use lib.Dec.{T, eqb}
use lib.ListN.{length}
use Rattle.event.specs.declared.Row.{Row}
use Rattle.event.specs.declared.StampOrder.{StampOrder}
use Rattle.event.specs.Parser.{Parser, Test, ended, ◌>>=◌, alone, All}
use Rattle.event.specs.Words.{between, below_checks}
use Rattle.event.specs.Rows.{row}
use Rattle.event.specs.Outcome.{refused}
use Rattle.event.specs.Writing.{RefusedAt}
use Rattle.event.specs.Writing.{row_tests, row_with, of_kind, at_kind}
use Rattle.event.proofs.Refusals.{Keeps, either, keeps_give, keeps_left, keeps_bind, keeps_map, keeps_next, keeps_checked}
use Rattle.event.proofs.WritingRefusals.{Writes, Takes, takes_row, writes_many, writing_refused}
use Rattle.s800_layout.specs.Event.{Form, trigger, time_of_flight, scintillator, ion_chamber, crdc, hodoscope, object_pin, vme_adc, opaque, hits_id, ChannelFormat, trigger_time}
use Rattle.s800_layout.specs.Event.{flight_time, pair_energy, energy16, adc_energy, stamp_tag, number_tag, tag, form_of, pattern_bound}
use Rattle.s800_layout.specs.Layout.{words, largest_event, channels, pair_channels, above, has_data}
use Rattle.s800_layout.specs.Layout.{packet_row, stamp_row, number_row, datum_row, sample_head_row, sample_datum_row, anode_row, register_row, stamp_checks, number_checks}
use Rattle.s800_layout.specs.Layout.{id_checks, datum_checks, sample_head_checks, sample_datum_checks, anode_checks, register_checks}
use Rattle.s800_layout.specs.Writing.{at_packet, datum_below, datum, channel_rows, pair, samples, content, packet, stamp_packet, number_packet, event_rows_up_to, writing, after_data, group}
use Rattle.s800_layout.specs.Writing.{of_tag, sample_datum, datum_of, sample_head_of, sample_datum_of, anode_of, registers_of, header_of, header_row, own_row, stamp_of, number_of}

-- a row's refusals have numbers of the table
abbrev Numbered : {A : Type 0} → (A → List Test) → Type 0
Numbered {A} checks = (a : A) → All (λ t. T (between 21 22 t.number)) (checks a)

-- what `Writes` and `Takes` say, of any rows that are left
abbrev Judges : {A : Type 0} → ℕ → List Row → Parser Row A → (List Row → Type 0) → Type 0
Judges count s p Left = Keeps (between 21 22) count (λ n. cond (eqb n 21) 1 0) s p Left

module _ {count : ℕ} {A : Type 0} (stands : Row → Bool) (fields : Row → A) (print : A → Row) (checks : A → List Test) (c : Numbered checks) where
  -- a row of its fields
  takes_with : (s : List Row) → Takes count s (row_with stands fields print checks)
  takes_with s = takes_row fields (row_tests stands fields print checks) (tt, (λ r. (tt, (tt, c (fields r)))), omega arith)

  -- the same and what follows it
  next_with : {B : Type 0} {s : List Row} {Left : List Row → Type 0} {q : A → Parser Row B}
      → ((a : A) (r : List Row) → suc (length r) ≡ length s → Judges count r (q a) Left)
      → Judges count s (row_with stands fields print checks >>= q) Left
  next_with d = keeps_next fields (row_tests stands fields print checks) (tt, (λ r. (tt, (tt, c (fields r)))), omega arith) d

module _ {count : ℕ} where
  -- a row of which only the datum is free
  next_below : {B : Type 0} (kind channel bound : ℕ) {s : List Row} {Left : List Row → Type 0} {q : ℕ → Parser Row B}
      → ((a : ℕ) (r : List Row) → suc (length r) ≡ length s → Judges count r (q a) Left)
      → Judges count s (datum_below kind channel bound >>= q) Left
  next_below kind channel bound d = next_with (of_kind kind) (λ r. r.datum) (row kind 0 channel) (below_checks 22 bound) (λ a. omega arith) d

  -- a time or an energy
  takes_datum : (kind base : ℕ) (f : ChannelFormat) (seen : List ℕ) (s : List Row) → Takes count s (datum kind base f seen)
  takes_datum kind base f seen s = takes_with (of_kind kind) (datum_of base) (datum_row kind base) (datum_checks 22 22 f seen) (λ a. omega arith) s

  -- a packet's own row
  next_own_row : {B : Type 0} (t : ℕ) {s : List Row} {Left : List Row → Type 0} {q : Unit {0} → Parser Row B}
      → ((u : Unit {0}) (r : List Row) → suc (length r) ≡ length s → Judges count r (q u) Left)
      → Judges count s (own_row t >>= q) Left
  next_own_row t d = next_with (of_tag t) (λ r. tt) (λ u. packet_row t 0) (λ u. []) (λ a. tt) d

  writes_channels : (kind base : ℕ) (f : ChannelFormat) (s : List Row) → Writes count s (channel_rows kind base f)
  writes_channels kind base f = writes_many (datum kind base f) channels at_packet tt (takes_datum kind base f) []

  takes_group : (s : List Row) → Takes count s group
  takes_group s = next_with (of_kind 8) sample_head_of sample_head_row (sample_head_checks 22) (λ a. omega arith) λ h r e. keeps_bind
      (writes_many (sample_datum h) above after_data tt (λ least s. takes_with (of_kind 12) sample_datum_of (sample_datum_row h) (sample_datum_checks 22 least) (λ a. omega arith) s) 0 r)
      (λ xs r₁ l. keeps_left (keeps_checked has_data 21 (record { head = h; energies = xs }) tt (omega arith)) (λ r₂ e₂. omega arith))

  takes_samples : (s : List Row) → Takes count s samples
  takes_samples s = next_below 7 0 (2 ^ 16) λ t r e. keeps_left
      (keeps_map _ (writes_many (λ u. group) alone (at_kind 9) tt (λ u s. takes_group s) tt r))
      (λ r₁ l. omega arith)

  writes_content : (f : Form) (id : ℕ) (s : List Row) → Writes count s (content f id)
  writes_content trigger id s = next_below 4 0 pattern_bound λ w r e. keeps_left (keeps_map _ (writes_channels 5 0 trigger_time r)) (λ r₁ l. omega arith)
  writes_content time_of_flight id s = writes_channels 5 0 flight_time s
  writes_content scintillator id s = writes_many pair pair_channels at_packet tt
      (λ seen s. keeps_bind (takes_datum 6 0 pair_energy seen s) λ e r h. next_below 5 e.channel (2 ^ pair_energy.bits) λ t r₁ h₁. keeps_give (omega arith)) [] s
  writes_content ion_chamber id s = writes_channels 6 0 energy16 s
  writes_content crdc id s = keeps_bind (takes_samples s) λ x r l. next_with (of_kind 9) anode_of anode_row (anode_checks 22) (λ a. omega arith) λ a r₁ e. keeps_give (omega arith)
  writes_content hodoscope id s = either (λ p. Writes count s p) (eqb id hits_id)
      (next_with (of_kind 10) registers_of register_row (register_checks 22) (λ a. omega arith) λ h r e. keeps_give (omega arith))
      (keeps_map _ (writes_channels 6 (16 * id) energy16 s))
  writes_content object_pin id s = keeps_left (takes_datum 6 0 energy16 [] s) (λ r l. omega arith)
  writes_content vme_adc id s = keeps_map _ (writes_channels 6 (8 * id) adc_energy s)
  writes_content (opaque k) id s = writes_many (λ u. datum_below 11 0 (2 ^ 16)) alone at_packet tt
      (λ u s. takes_with (of_kind 11) (λ r. r.datum) (row 11 0 0) (below_checks 22 (2 ^ 16)) (λ a. omega arith) s) tt s

  takes_packet : (s : List Row) → Takes count s packet
  takes_packet s = next_with (λ r. of_tag (tag (form_of r.unit)) r) header_of header_row (λ h. id_checks 22 h.form h.id) (λ a. omega arith) λ h r e.
      keeps_left (keeps_map _ (writes_content h.form h.id r)) (λ r₁ l. omega arith)

  takes_stamp : (o : StampOrder) (s : List Row) → Takes count s (stamp_packet o)
  takes_stamp o s = next_own_row stamp_tag λ u r e. keeps_left (takes_with (of_kind 2) (stamp_of o) (stamp_row o) (stamp_checks 22) (λ a. omega arith) r) (λ r₁ l. omega arith)

  takes_number : (s : List Row) → Takes count s number_packet
  takes_number s = next_own_row number_tag λ u r e. keeps_left (takes_with (of_kind 3) number_of number_row (number_checks 22) (λ a. omega arith) r) (λ r₁ l. omega arith)

  writes_event : (o : StampOrder) (s : List Row) → Writes count s (event_rows_up_to o ended)
  writes_event o s = keeps_bind (takes_stamp o s) λ st r l. keeps_bind (takes_number r) λ k r₁ l₁. keeps_left
      (keeps_map _ (keeps_map _ (writes_many (λ u. packet) alone ended tt (λ u s. takes_packet s) tt r₁)))
      (λ r₂ l₂. omega arith)

pub writing_refusals : (o : StampOrder) (xs : List ℕ) (n k : ℕ) → writing o xs ≡ refused n k → RefusedAt largest_event (length xs / 4) n k
writing_refusals o = writing_refused words largest_event (λ rs. writes_event o rs)
