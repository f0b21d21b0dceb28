-- The packets that end in channel words, opened: over plain values.
-- Assumes nothing.
use Prim.Native.Nat.{ℕ, suc, ◌+◌, ◌-◌, ◌*◌, ◌^◌, ◌≤◌}
use native.Mathlib.Omega.{arith}
use mathlib.Core.Path.{◌≡◌, refl, ◌∙◌}
use mathlib.Core.List.{List, [], ◌∷◌}
use lib.ListN.{get_or}
use lib.Seq.{slice, slice_empty}
use borrow.Author.Tests.{eq-eqb, ne_eqb, lt-ltb, le-leb}
use Rattle.event.specs.Parser.{then, give, ended}
use Rattle.event.specs.Rows.{row}
use Rattle.event.specs.Scanning.{store_rows}
use Rattle.event.proofs.Elements.{is_between}
use Rattle.event.proofs.Ends.{ends_many}
use Rattle.event.proofs.Leads.{then_then}
use Rattle.event.proofs.Loops.{filled_nil}
use Rattle.event.proofs.Turns.{at_word}
use Rattle.s800_format.proofs.Formats.{trigger_format, flight_format, energies_format, adc_format}
use Rattle.s800_layout.specs.Event.{energies, trigger, time_of_flight, ion_chamber, hodoscope, vme_adc, energies_tag, tag, trigger_time, flight_time, energy16, adc_energy}
use Rattle.s800_layout.specs.Layout.{packet_row, channels}
use Rattle.s800_layout.specs.Reading.{datum, channel_words}
use Rattle.s800_format.specs.Format.{times_of, energies_of}
use Rattle.s800_reader.specs.Opening.{PacketAt, rest_of, OpensAs}
use Rattle.s800_reader.proofs.Inner.{inner_tag, inner_read}
use Rattle.s800_reader.proofs.Opening.{opens_refused, opens_channels, last_rows}
use Rattle.event.specs.Refusal.{refusal}
use Rattle.std.specs.Prelude.{Ok, Err}
use Rattle.s800_reader.specs.Opening.{OpenAnswer, channels_left}

module _ {ws : List ℕ} {start n k : ℕ} (s : PacketAt ws start n k) where
  pub flight_opens : {b after : List ℕ} → n ≤ 10 → after ≡ store_rows b k (packet_row (tag time_of_flight) 0 ∷ [])
      → OpensAs time_of_flight ws start n k b after (Ok (channels_left (times_of flight_time) (start + 2) (start + n) (k + 1)))
  flight_opens high q =
      let few = s.few in
      let two = s.two in
      opens_channels time_of_flight (packet_row (tag time_of_flight) 0 ∷ []) (times_of flight_time) (λ xs. xs) (omega arith) flight_format (omega arith) (omega arith)
      (rw (is_between 2 10 n two high)) (λ xs. last_rows 5 0 (packet_row (tag time_of_flight) 0 ∷ []) xs) q

  -- forms whose first word after the tag is a pattern or an id
  module _ (low : 3 ≤ n) {w : ℕ} (e : w ≡ get_or ws (start + 2) 0) where
    pub first_word : slice (start + 2) (start + n) ws ≡ w ∷ slice (start + 3) (start + n) ws
    first_word =
        let three : suc (start + 2) ≡ start + 3 = omega arith in
        at_word ws (start + 2) (start + n) (omega arith) s.inside ∙ rw (e, three)

    three : suc (start + 2) ≡ start + 3
    three = omega arith

    pub trigger_opens : {b after : List ℕ} → n ≤ 7 → w ≤ 31 → after ≡ store_rows b k (packet_row (tag trigger) 0 ∷ row 4 0 0 w ∷ [])
        → OpensAs trigger ws start n k b after (Ok (channels_left (times_of trigger_time) (start + 3) (start + n) (k + 2)))
    trigger_opens high h q =
        let few = s.few in
        opens_channels trigger (packet_row (tag trigger) 0 ∷ row 4 0 0 w ∷ []) (times_of trigger_time) (λ xs. record { pattern = w; times = xs })
        (omega arith) trigger_format (omega arith) (omega arith)
        (rw (is_between 3 7 n low high, first_word, eq-eqb w w refl, lt-ltb w (2 ^ 5) (omega arith), three)
        (then_then (channel_words trigger_time (start + 3) (slice (start + 3) (start + n) ws)) _ _))
        (λ xs. last_rows 5 0 (packet_row (tag trigger) 0 ∷ row 4 0 0 w ∷ []) xs) q

    pub hodoscope_opens : {b after : List ℕ} → n ≤ 19 → w ≤ 2 → (w ≡ 2 → ⊥) → after ≡ store_rows b k (packet_row (tag hodoscope) w ∷ [])
        → OpensAs hodoscope ws start n k b after (Ok (channels_left (energies_of (16 * w) energy16) (start + 3) (start + n) (k + 1)))
    hodoscope_opens high h z q =
        let few = s.few in
        opens_channels hodoscope (packet_row (tag hodoscope) w ∷ []) (energies_of (16 * w) energy16) (energies w) (omega arith) (energies_format (16 * w)) (omega arith) (omega arith)
        (rw (is_between 3 19 n low high, first_word, eq-eqb w w refl, le-leb w 2 h, ne_eqb w 2 z, three)
        (then_then (channel_words energy16 (start + 3) (slice (start + 3) (start + n) ws)) _ _))
        (λ xs. last_rows 6 (16 * w) (packet_row (tag hodoscope) w ∷ []) xs) q

    pub adc_opens : {b after : List ℕ} → n ≤ 11 → w ≤ 3 → after ≡ store_rows b k (packet_row (tag vme_adc) w ∷ [])
        → OpensAs vme_adc ws start n k b after (Ok (channels_left (energies_of (8 * w) adc_energy) (start + 3) (start + n) (k + 1)))
    adc_opens high h q =
        let few = s.few in
        opens_channels vme_adc (packet_row (tag vme_adc) w ∷ []) (energies_of (8 * w) adc_energy) (λ xs. record { id = w; energies = xs }) (omega arith)
        (adc_format (8 * w)) (omega arith) (omega arith)
        (rw (is_between 3 11 n low high, first_word, eq-eqb w w refl, le-leb w 3 h, three)
        (then_then (channel_words adc_energy (start + 3) (slice (start + 3) (start + n) ws)) _ _))
        (λ xs. last_rows 6 (8 * w) (packet_row (tag vme_adc) w ∷ []) xs) q

  -- the inner packet of an ion chamber
  module _ (low : 4 ≤ n) (high : n ≤ 20) {v : ℕ} (e : v ≡ get_or ws (start + 2) 0) where
    module _ (l : v ≡ n - 2) {w : ℕ} (d : w ≡ get_or ws (start + 3) 0) where
      next : w ≡ get_or ws (start + 2 + 1) 0
      next = let three : start + 2 + 1 ≡ start + 3 = omega arith in rw three d

      pub chamber_tag : {b after : List ℕ} {r : OpenAnswer} → (w ≡ energies_tag → ⊥) → r ≡ Err (refusal 9 (start + 3)) → OpensAs ion_chamber ws start n k b after r
      chamber_tag z q =
          let three : start + 2 + 1 ≡ start + 3 = omega arith in
          opens_refused ion_chamber {m = 9} {p = start + 3} q (rw (
            is_between 4 20 n low high,
            inner_tag (n - 2) energies_tag (channel_words energy16) (start + 2) (start + n) ws (omega arith) (omega arith) s.inside e l next z,
            three,
          ))

      inner_words : w ≡ energies_tag → rest_of ion_chamber ws start n
          ≡ then (λ xs. give (record { form = ion_chamber; content = xs })) (channel_words energy16 (start + 4) (slice (start + 4) (start + n) ws))
      inner_words z =
          let four : start + 2 + 2 ≡ start + 4 = omega arith in
          let end : start + 2 + (n - 2) ≡ start + n = omega arith in
          rw (
            is_between 4 20 n low high,
            inner_read (n - 2) energies_tag (channel_words energy16) (start + 2) (start + n) ws (omega arith) (omega arith) s.inside e l next z,
            four,
            end,
            slice_empty (start + n) ws,
            filled_nil (channel_words energy16 (start + 4) (slice (start + 4) (start + n) ws)) (ends_many ended (datum energy16) channels [] (start + 4) (slice (start + 4) (start + n) ws)),
          )

      pub chamber_opens : {b after : List ℕ} → w ≡ energies_tag → after ≡ store_rows b k (packet_row (tag ion_chamber) 0 ∷ [])
          → OpensAs ion_chamber ws start n k b after (Ok (channels_left (energies_of 0 energy16) (start + 4) (start + n) (k + 1)))
      chamber_opens z q =
          let few = s.few in
          opens_channels ion_chamber (packet_row (tag ion_chamber) 0 ∷ []) (energies_of 0 energy16) (λ xs. xs) (omega arith) (energies_format 0) (omega arith) (omega arith)
          (inner_words z) (λ xs. last_rows 6 0 (packet_row (tag ion_chamber) 0 ∷ []) xs) q
