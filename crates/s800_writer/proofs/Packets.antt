-- The packets, written after their own row: from the words of their content to the packet. Over plain values.
-- Assumes nothing.
use Prim.Native.Nat.{ℕ, ◌+◌, ◌*◌, ◌-◌, ◌^◌, ◌≤◌, ◌<◌}
use native.Mathlib.Omega.{arith}
use mathlib.Core.Path.{◌≡◌, refl, sym, ap, subst, ◌∙◌}
use mathlib.Core.List.{List, [], ◌∷◌, map}
use lib.ListN.{length, get_or, drop}
use borrow.Author.Tests.{ne_eqb}
use Rattle.event.specs.declared.Row.{Row}
use Rattle.event.specs.Parser.{Result, ok, fault_in, several, each}
use Rattle.event.specs.Rows.{row}
use Rattle.event.specs.Words.{word_alone, store_word, below_checks}
use Rattle.event.specs.Scanning.{RefusedAs, Writes}
use Rattle.event.specs.Writing.{row_tests, of_kind, no_row}
use Rattle.event.proofs.ChannelLaws.{blocked_none}
use Rattle.event.proofs.Elements.{each_map, each_alone}
use Rattle.event.proofs.RowJudged.{row_taken}
use Rattle.event.proofs.WritingTurns.{unwritten, writes_part, writes_as, writes_refused, writes_done}
use Rattle.s800_format.specs.declared.Format.{Format}
use Rattle.s800_format.specs.Format.{format_of, times_of, energies_of}
use Rattle.s800_format.proofs.Formats.{trigger_format, flight_format, energies_format, adc_format}
use Rattle.s800_layout.specs.Event.{Datum, energies, hits, Form, trigger, time_of_flight, ion_chamber, hodoscope, object_pin, vme_adc, Opaque, opaque, Content, energies_tag, tag, hits_id, pattern_bound, ChannelFormat, trigger_time, flight_time, energy16, adc_energy}
use Rattle.s800_layout.specs.Layout.{framed, channel_word, datum_word, register_words, content_words, packet_words, datum_row, hodoscope_base, adc_base, register_row, datum_checks, register_checks}
use Rattle.s800_layout.specs.Writing.{at_packet, datum_of, channel_rows, content, registers_of, registers, datum_below}
use Rattle.s800_writer.specs.Rows.{limits_fault, datum_fault, datum_words}
use Rattle.s800_writer.specs.Packets.{closed, WritesPacket}
use Rattle.s800_writer.proofs.Closing.{closed_refused, closed_writes}
use Rattle.s800_writer.proofs.Datum.{datum_fault_lem}
use Rattle.s800_writer.proofs.Limits.{plain_fault, hits_fault}
use Rattle.s800_writer.proofs.Singles.{one_taken, one_refused}
use Rattle.event.specs.Refusal.{PartAnswer, part}
use Rattle.std.specs.Prelude.{Err, Ok}
use Rattle.event.specs.declared.Part.{Part}
use Rattle.event.specs.declared.refusal.Refusal.{Refusal}
use Rattle.event.proofs.Answers.{Failed}
use Rattle.s800_writer.proofs.Failures.{row_failed, refused_first}

module _ (f : Form) (id : ℕ) (rs : List Row) (i : ℕ) where
  -- the rows after the packet's own row
  abbrev pub content_at : Result Row (Content f)
  content_at = content f id (i + 1) (drop (i + 1) rs)

  pub packet_closed : {b b' b'' : List ℕ} {p : Part} → Writes 16 (content_words f) content_at rs 2 b (Ok p) b' → b'' ≡ closed 0 (tag f) p.count b' → WritesPacket f id rs i b (Ok p) b''
  packet_closed s c =
      writes_part 16 (λ c. framed (tag f) (content_words f c)) [] content_at (λ c. record { form = f; content = c }) packet_words (λ c. refl) refl refl (closed_writes (content_words f) 0 (tag f) content_at s c)

  pub packet_refused : {b after : List ℕ} {refused : Refusal} → RefusedAs content_at refused → WritesPacket f id rs i b (Err refused) after
  packet_refused t = writes_refused 16 packet_words (refused_first _ t) refl

  pub content_refused : {b b' after : List ℕ} {refused : Refusal} → Writes 16 (content_words f) content_at rs 2 b (Err refused) b' → WritesPacket f id rs i b (Err refused) after
  content_refused s = packet_refused (unwritten 16 (content_words f) content_at s.scanned)

-- times or energies, as the layout has them
module _ (m : Format) (f : ChannelFormat) (e : format_of m ≡ f) where
  data_words : (xs : List Datum) → each (datum_words m) xs ≡ map (datum_word f) xs
  data_words xs = each_map (datum_word (format_of m)) xs ∙ ap (λ (g : ChannelFormat). map (datum_word g) xs) e

  channels_as : (rs : List Row) (i : ℕ) {k : ℕ} {b after : List ℕ} {r : PartAnswer} → Writes 16 (each (datum_words m)) (channel_rows m.kind m.base (format_of m) i (drop i rs)) rs k b r after
      → Writes 16 (map (datum_word f)) (channel_rows m.kind m.base f i (drop i rs)) rs k b r after
  channels_as rs i s = writes_as 16 (each (datum_words m)) (map (datum_word f)) (channel_rows m.kind m.base f i (drop i rs)) (λ xs j l p. data_words xs) (rw e at s)

module _ (rs : List Row) (i : ℕ) where
  -- 0x5802
  pub flight_content : {m : Format} {b after : List ℕ} {r : PartAnswer} → m ≡ times_of flight_time
      → Writes 16 (each (datum_words m)) (channel_rows m.kind m.base (format_of m) (i + 1) (drop (i + 1) rs)) rs 2 b r after
      → Writes 16 (content_words time_of_flight) (content_at time_of_flight 0 rs i) rs 2 b r after
  flight_content q s = channels_as (times_of flight_time) flight_time flight_format rs (i + 1) (rw q at s)

  -- 0x5820: the inner packet
  pub chamber_content : {m : Format} {b b' after : List ℕ} {p : Part} → m ≡ energies_of 0 energy16
      → Writes 16 (each (datum_words m)) (channel_rows m.kind m.base (format_of m) (i + 1) (drop (i + 1) rs)) rs 4 b (Ok p) b'
      → after ≡ closed 2 energies_tag p.count b' → Writes 16 (content_words ion_chamber) (content_at ion_chamber 0 rs i) rs 2 b (Ok p) after
  chamber_content q s = closed_writes (map (datum_word energy16)) 2 energies_tag (content_at ion_chamber 0 rs i) (channels_as (energies_of 0 energy16) energy16 (energies_format 0) rs (i + 1) (rw q at s))

  pub chamber_refused : {m : Format} {b b' : List ℕ} {refused : Refusal} → m ≡ energies_of 0 energy16
      → Writes 16 (each (datum_words m)) (channel_rows m.kind m.base (format_of m) (i + 1) (drop (i + 1) rs)) rs 4 b (Err refused) b'
      → Writes 16 (content_words ion_chamber) (content_at ion_chamber 0 rs i) rs 2 b (Err refused) b'
  chamber_refused q s =
      closed_refused (map (datum_word energy16)) 2 energies_tag (content_at ion_chamber 0 rs i) (channels_as (energies_of 0 energy16) energy16 (energies_format 0) rs (i + 1) (rw q at s))

  -- 0x58b0 with energies: the id before them
  pub energies_content_lem : (id : ℕ) → (id ≡ hits_id → ⊥) → {m : Format} {b b' after : List ℕ} {r : PartAnswer} → m ≡ energies_of (hodoscope_base id) energy16 → b' ≡ store_word 16 b 2 id
      → Writes 16 (each (datum_words m)) (channel_rows m.kind m.base (format_of m) (i + 1) (drop (i + 1) rs)) rs 3 b' r after
      → Writes 16 (content_words hodoscope) (content_at hodoscope id rs i) rs 2 b r after
  energies_content_lem id z q w s = rw (ne_eqb id hits_id z) (writes_part 16 (map (datum_word energy16)) (id ∷ []) (channel_rows 6 (hodoscope_base id) energy16 (i + 1) (drop (i + 1) rs)) (energies id) (content_words hodoscope)
      (λ xs. refl) refl w (channels_as (energies_of (hodoscope_base id) energy16) energy16 (energies_format (hodoscope_base id)) rs (i + 1) (rw q at s)))

  -- 0x58b0 with the hits
  pub hits_content_lem : {id : ℕ} {b b' after : List ℕ} {r : PartAnswer} → id ≡ hits_id → b' ≡ store_word 16 b 2 id → Writes 16 register_words (registers (i + 1) (drop (i + 1) rs)) rs 3 b' r after
      → Writes 16 (content_words hodoscope) (content_at hodoscope id rs i) rs 2 b r after
  hits_content_lem q w s = rw q (writes_part 16 register_words (hits_id ∷ []) (registers (i + 1) (drop (i + 1) rs)) hits (content_words hodoscope) (λ h. refl) refl (rw q at w) s)

  -- 0x58c0: the id before the energies
  pub adc_content : (id : ℕ) {m : Format} {b b' after : List ℕ} {r : PartAnswer} → m ≡ energies_of (adc_base id) adc_energy → b' ≡ store_word 16 b 2 id
      → Writes 16 (each (datum_words m)) (channel_rows m.kind m.base (format_of m) (i + 1) (drop (i + 1) rs)) rs 3 b' r after
      → Writes 16 (content_words vme_adc) (content_at vme_adc id rs i) rs 2 b r after
  adc_content id q w s = writes_part 16 (map (datum_word adc_energy)) (id ∷ []) (channel_rows 6 (adc_base id) adc_energy (i + 1) (drop (i + 1) rs)) (λ xs. record { id = id; energies = xs }) (content_words vme_adc)
      (λ xs. refl) refl w (channels_as (energies_of (adc_base id) adc_energy) adc_energy (adc_format (adc_base id)) rs (i + 1) (rw q at s))

  -- opaque words
  pub opaque_content : (k : Opaque) {b after : List ℕ} {r : PartAnswer} → Writes 16 (each word_alone) (several (datum_below 11 0 (2 ^ 16)) (at_packet) (i + 1) (drop (i + 1) rs)) rs 2 b r after
      → Writes 16 (content_words (opaque k)) (content_at (opaque k) 0 rs i) rs 2 b r after
  opaque_content k = writes_as 16 (each word_alone) (λ ws. ws) (content_at (opaque k) 0 rs i) (λ ws j l p. each_alone ws)

  module _ {r : Row} (e : r ≡ get_or rs (i + 1) no_row) where
    two : i + 1 + 1 ≡ i + 2
    two = omega arith

    -- 0x5801: the pattern before the times
    pub pattern_refused : {refused : Refusal} → Failed (limits_fault 4 0 0 31 r) (i + 1) refused → RefusedAs (content_at trigger 0 rs i) refused
    pattern_refused t = refused_first _ (one_refused 4 0 0 31 (λ r. r.datum) (row 4 0 0) (below_checks 22 pattern_bound) (plain_fault 4 31) refl (λ a. (tt, tt)) rs (i + 1) e t)

    pub pattern_inside : 0 ≡ limits_fault 4 0 0 31 r → i + 1 < length rs
    pattern_inside f = (one_taken 4 0 0 31 (λ r. r.datum) (row 4 0 0) (below_checks 22 pattern_bound) (plain_fault 4 31) refl (λ a. (tt, tt)) rs (i + 1) e f).0

    pub trigger_content : {m : Format} {b b' after : List ℕ} {p : PartAnswer} → 0 ≡ limits_fault 4 0 0 31 r → m ≡ times_of trigger_time → b' ≡ store_word 16 b 2 r.datum
        → Writes 16 (each (datum_words m)) (channel_rows m.kind m.base (format_of m) (i + 2) (drop (i + 2) rs)) rs 3 b' p after
        → Writes 16 (content_words trigger) (content_at trigger 0 rs i) rs 2 b p after
    trigger_content f q w s =
        let t = (one_taken 4 0 0 31 (λ r. r.datum) (row 4 0 0) (below_checks 22 pattern_bound) (plain_fault 4 31) refl (λ a. (tt, tt)) rs (i + 1) e f).1 in
        rw (t, two) (writes_part 16 (map (datum_word trigger_time)) (r.datum ∷ []) (channel_rows 5 0 trigger_time (i + 2) (drop (i + 2) rs)) (λ xs. record { pattern = r.datum; times = xs }) (content_words trigger)
        (λ xs. refl) refl w (channels_as (times_of trigger_time) trigger_time trigger_format rs (i + 2) (rw q at s)))

    -- 0x58a0: one energy
    energy_fault : fault_in (row_tests (of_kind 6) (datum_of 0) (datum_row 6 0) (datum_checks 22 22 energy16 []) r) ≡ datum_fault (energies_of 0 energy16) 0 r
    energy_fault =
        let m = energies_of 0 energy16 in
        subst (λ (f : ChannelFormat). fault_in (row_tests (of_kind 6) (datum_of 0) (datum_row 6 0) (datum_checks 22 22 f []) r) ≡ datum_fault m 0 r)
        (energies_format 0) (datum_fault_lem m blocked_none r)

    pub pin_refused : {m : Format} {refused : Refusal} → m ≡ energies_of 0 energy16 → Failed (datum_fault m 0 r) (i + 1) refused → RefusedAs (content_at object_pin 0 rs i) refused
    pin_refused q t = row_failed (of_kind 6) (datum_of 0) (datum_row 6 0) (datum_checks 22 22 energy16 []) refl (λ a. (tt, (tt, (tt, tt)))) rs (i + 1) e energy_fault (rw q at t)

    pin_taken : {m : Format} → m ≡ energies_of 0 energy16 → 0 ≡ datum_fault m 0 r → (i + 1 < length rs) × (content_at object_pin 0 rs i ≡ ok (datum_of 0 r) (i + 1 + 1) (drop (i + 1 + 1) rs))
    pin_taken q f = row_taken (of_kind 6) (datum_of 0) (datum_row 6 0) (datum_checks 22 22 energy16 []) refl (λ a. (tt, (tt, (tt, tt)))) rs (i + 1) e ((rw q at f) ∙ sym energy_fault)

    pub pin_inside : {m : Format} → m ≡ energies_of 0 energy16 → 0 ≡ datum_fault m 0 r → i + 1 < length rs
    pin_inside q f = (pin_taken q f).0

    pub pin_content : {m : Format} {w : ℕ} {b b' : List ℕ} → (q : m ≡ energies_of 0 energy16) → 0 ≡ datum_fault m 0 r → w ≡ channel_word (format_of m) r.channel r.datum → b' ≡ store_word 16 b 2 w
        → Writes 16 (content_words object_pin) (content_at object_pin 0 rs i) rs 2 b (Ok (part (i + 2) 3)) b'
    pin_content {w = w} q f v s =
        let t = pin_taken q f in
        let l = t.0 in
        let z : r.channel - 0 ≡ r.channel = omega arith in
        let u : w ≡ datum_word energy16 (datum_of 0 r) = (rw q at v) ∙ rw z in
        writes_done 16 (content_words object_pin) t.1 (rw two) refl (s ∙ rw u) (omega arith) (omega arith)

-- the hits, of one row
module _ (rs : List Row) (i : ℕ) {r : Row} (e : r ≡ get_or rs i no_row) where
  pub hits_refused : {refused : Refusal} → Failed (limits_fault 10 65535 65535 65535 r) i refused → RefusedAs (registers i (drop i rs)) refused
  hits_refused = one_refused 10 65535 65535 65535 registers_of register_row (register_checks 22) hits_fault refl (λ a. (tt, (tt, (tt, tt)))) rs i e

  pub hits_inside : 0 ≡ limits_fault 10 65535 65535 65535 r → i < length rs
  hits_inside f = (one_taken 10 65535 65535 65535 registers_of register_row (register_checks 22) hits_fault refl (λ a. (tt, (tt, (tt, tt)))) rs i e f).0

  pub hits_taken : {n : ℕ} {b b₁ b₂ b₃ : List ℕ} → 0 ≡ limits_fault 10 65535 65535 65535 r → n ≤ 4 * i → b₁ ≡ store_word 16 b n r.unit → b₂ ≡ store_word 16 b₁ (n + 1) r.channel
      → b₃ ≡ store_word 16 b₂ (n + 2) r.datum → Writes 16 register_words (registers i (drop i rs)) rs n b (Ok (part (i + 1) (n + 3))) b₃
  hits_taken {n} {b} {b₁} {b₂} f few p q s =
      let t = one_taken 10 65535 65535 65535 registers_of register_row (register_checks 22) hits_fault refl (λ a. (tt, (tt, (tt, tt)))) rs i e f in
      let l = t.0 in
      let two : n + 2 ≡ n + 1 + 1 = omega arith in
      writes_done 16 register_words t.1 refl refl (s ∙ rw (two, q, p)) (omega arith) (omega arith)
