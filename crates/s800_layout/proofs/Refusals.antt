-- Every refusal of a reading of dialect S has a number of document 01's table, 1 to 11, and the place of a word of the event (0 where there is none).
-- Assumes nothing.
use Prim.Native.Nat.{ℕ, suc, ◌+◌, ◌-◌, ◌%◌, ◌^◌, ◌≤◌, ◌<◌}
use native.Mathlib.Omega.{arith}
use mathlib.Core.Path.{◌≡◌}
use mathlib.Core.Logic.{◌⊎◌}
use mathlib.Core.Bool.{Bool, true}
use mathlib.Core.List.{List, [], ◌∷◌}
use lib.Dec.{T, leb, eqb, leb→le, eqb→eq}
use lib.ListN.{length}
use Rattle.event.specs.declared.StampOrder.{StampOrder}
use Rattle.event.specs.Parser.{ok, Parser, Test, test, ended, ◌>>=◌, ◌>>◌, alone}
use Rattle.event.specs.Words.{layout, exactly, between, below_checks}
use Rattle.event.specs.Outcome.{refused}
use Rattle.event.proofs.Codes.{true_T}
use Rattle.event.proofs.Elements.{both, bounds}
use Rattle.event.proofs.Refusals.{Keeps, There, either, keeps_give, keeps_left, keeps_bind, keeps_map, keeps_require, keeps_element, keeps_next, keeps_here, keeps_within, keeps_many}
use Rattle.event.proofs.Refusals.{keeps_ok, keeps_many_at}
use Rattle.event.proofs.ReadingRefusals.{fills_words, reading_refused}
use Rattle.s800_layout.specs.Event.{Content, Form, trigger, time_of_flight, scintillator, ion_chamber, crdc, hodoscope, object_pin, vme_adc, opaque, stamp_tag, number_tag}
use Rattle.s800_layout.specs.Event.{energies_tag, samples_tag, anode_tag, ChannelFormat, trigger_time, flight_time, pair_energy, energy16, adc_energy}
use Rattle.s800_layout.specs.Event.{event_tag, tag, form_of, pattern_bound}
use Rattle.s800_layout.specs.Layout.{version, channel_word, datum_word, sample_head_word, sample_datum_word, id_checks, datum_checks, sample_head_checks, sample_datum_checks}
use Rattle.s800_layout.specs.Layout.{rows, smallest_event, largest_event, channels, pair_channels, above, has_data}
use Rattle.s800_layout.specs.Reading.{even, allowed_length, body_of, packet_of, inner, whole, datum, id_word, channel_words, pair, samples, anode, registers, content, form_word}
use Rattle.s800_layout.specs.Reading.{packet_content, packet, stamp_content, number_content, event_parser, reading, sample_datum, is_at_head, group}
use Rattle.s800_layout.specs.Reading.{datum_of, sample_head_of, sample_datum_of}

-- the tests of a word with fields
abbrev tests_of : {A : Type 0} → ℕ → (ℕ → A) → (A → ℕ) → (A → List Test) → ℕ → List Test
tests_of n fields print checks w = test n (eqb w (print (fields w))) ∷ checks (fields w)

-- Every place is before `bound`. A content of an allowed length finds all its words and leaves none: so there is no refusal past the words, and none by 0.
module _ (bound : ℕ) where
  abbrev Reads : {A : Type 0} → List ℕ → Parser ℕ A → (List ℕ → Type 0) → Type 0
  Reads s p Left = Keeps (between 1 11) bound (λ n. 0) s p Left

  -- and no word is left
  abbrev Fills : {A : Type 0} → List ℕ → Parser ℕ A → Type 0
  Fills s p = Reads s p (λ r. length r ≡ 0)

  -- a word with fields
  reads_layout : {A : Type 0} (n : ℕ) (fields : ℕ → A) (print : A → ℕ) (checks : A → List Test) {s : List ℕ} → There (between 1 11) (λ n. 0) n (tests_of n fields print checks) s
      → Reads s (layout n fields print checks) (λ r. suc (length r) ≡ length s)
  reads_layout n fields print checks c = keeps_element fields (tests_of n fields print checks) c

  -- the same and what follows it
  next_layout : {A B : Type 0} (n : ℕ) (fields : ℕ → A) (print : A → ℕ) (checks : A → List Test) {s : List ℕ} {Left : List ℕ → Type 0} {q : A → Parser ℕ B}
      → There (between 1 11) (λ n. 0) n (tests_of n fields print checks) s → ((a : A) (r : List ℕ) → suc (length r) ≡ length s → Reads r (q a) Left)
      → Reads s (layout n fields print checks >>= q) Left
  next_layout n fields print checks c d = keeps_next fields (tests_of n fields print checks) c d

  -- the word v, and a whole number, with what follows
  next_exactly : {B : Type 0} (n v : ℕ) {s : List ℕ} {Left : List ℕ → Type 0} {q : Unit {0} → Parser ℕ B} → T (between 1 11 n) → 1 ≤ length s
      → ((u : Unit {0}) (r : List ℕ) → suc (length r) ≡ length s → Reads r (q u) Left) → Reads s (exactly n v >>= q) Left
  next_exactly n v t l d = next_layout n (λ w. tt) (λ u. v) (λ u. []) (t, (λ x. (t, tt)), omega arith) d

  next_whole : {B : Type 0} {s : List ℕ} {Left : List ℕ → Type 0} {q : ℕ → Parser ℕ B} → 1 ≤ length s
      → ((a : ℕ) (r : List ℕ) → suc (length r) ≡ length s → Reads r (q a) Left) → Reads s (whole >>= q) Left
  next_whole l d = next_layout 10 (λ w. w) (λ w. w) (below_checks 10 (2 ^ 16)) (omega arith) d

  -- a channel word, and a packet's id with what follows
  reads_datum : (f : ChannelFormat) (seen : List ℕ) {s : List ℕ} → 1 ≤ length s → Reads s (datum f seen) (λ r. suc (length r) ≡ length s)
  reads_datum f seen l = reads_layout 10 (datum_of f) (datum_word f) (datum_checks 10 11 f seen) (omega arith)

  next_id : {B : Type 0} (f : Form) {s : List ℕ} {Left : List ℕ → Type 0} {q : ℕ → Parser ℕ B} → 1 ≤ length s
      → ((a : ℕ) (r : List ℕ) → suc (length r) ≡ length s → Reads r (q a) Left) → Reads s (id_word f >>= q) Left
  next_id f l d = next_layout 8 (λ w. w) (λ w. w) (id_checks 8 f) (omega arith) d

  -- a packet, where there is a word: its content fills it, and its length n is allowed
  reads_packet_of : {F A : Type 0} (tagWord : Parser ℕ F) (allowed : F → ℕ → Bool) (content : F → ℕ → ℕ → Parser ℕ A)
      → ((s : List ℕ) → 1 ≤ length s → Reads s tagWord (λ r. suc (length r) ≡ length s))
      → ((f : F) (p n : ℕ) (s : List ℕ) → T (allowed f n) → p < bound → 2 + length s ≡ n → Fills s (content f p n))
      → (s : List ℕ) → 1 ≤ length s → Reads s (packet_of tagWord allowed content) (λ r. (n : ℕ) × (length r + n ≡ length s) × (2 ≤ n) × ((f : F) × T (allowed f n)))
  reads_packet_of {F} tagWord allowed content c d s l = keeps_here (λ w. w) (tests_of 5 (λ w. w) (λ w. w) (λ w. [])) (omega arith) λ p b n r e. keeps_bind (keeps_require (leb 2 n) 5 p tt b) λ u r₁ e₁.
      let g = leb→le 2 n e₁.0 in
      keeps_left (keeps_within 5 p (n - 1) (body_of tagWord allowed content p n) ((f : F) × T (allowed f n)) tt b λ s h.
      keeps_bind (c s (omega arith)) λ f r₂ e₂. keeps_bind (keeps_require (allowed f n) 7 p tt b) λ u r₃ e₃.
      keeps_left (d f p n r₃ e₃.0 b (omega arith)) (λ r₄ z. (z, (f, e₃.0))))
      (λ r₅ z. (n, omega arith, g, z.1))

  -- an inner packet of length n: its content fills it
  reads_inner : {A : Type 0} {s : List ℕ} (n t : ℕ) (p : Parser ℕ A) → 2 ≤ n → 1 ≤ length s → ((r : List ℕ) → 2 + length r ≡ n → Fills r p)
      → Reads s (inner n t p) (λ r. length r + n ≡ length s)
  reads_inner n t p g l c = keeps_here (λ w. tt {0}) (tests_of 9 (λ w. tt {0}) (λ u. n) (λ u. [])) (omega arith) λ k b u r e. keeps_left
      (keeps_within 9 k (n - 1) (exactly 9 t >> p) (Unit {0}) tt b λ s h. next_exactly 9 t tt (omega arith) λ u r₁ e₁. keeps_left (c r₁ (omega arith)) (λ r₂ z. (z, tt)))
      (λ r₃ z. omega arith)

  fills_channels : (f : ChannelFormat) (s : List ℕ) → Fills s (channel_words f)
  fills_channels f = fills_words (datum f) channels (λ seen s l. reads_datum f seen l) []

  reads_group : (s : List ℕ) → 1 ≤ length s → Reads s group (λ r. length r < length s)
  reads_group s l = keeps_here sample_head_of (tests_of 10 sample_head_of sample_head_word (sample_head_checks 10)) (omega arith) λ p b h r e. keeps_bind
      (keeps_many_at sample_datum above is_at_head tt (λ r. length r < length s)
      (λ least s g l. keeps_left (reads_layout 10 sample_datum_of sample_datum_word (sample_datum_checks 10 least) (omega arith)) (λ r e. (omega arith, omega arith))) 0 r (omega arith))
      (λ xs r₁ g. keeps_bind (keeps_require (has_data (record { head = h; energies = xs })) 10 p tt b) (λ u r₂ g₂. keeps_give (omega arith)))

  fills_samples : (s : List ℕ) → 1 ≤ length s → Fills s samples
  fills_samples s l = next_whole (omega arith) λ t r e. keeps_map _
      (keeps_many (λ u. group) alone (λ r. Unit {0}) (λ u s g l. keeps_left (reads_group s l) (λ r e. (e, tt))) tt r tt)

  fills_anode : (s : List ℕ) → length s ≡ 2 → Fills s anode
  fills_anode s l = next_whole (omega arith) λ a r e. next_whole (omega arith) λ t r₁ e₁. keeps_give (omega arith)

  fills_registers : (s : List ℕ) → length s ≡ 3 → Fills s registers
  fills_registers s l = next_whole (omega arith) λ a r e. next_whole (omega arith) λ b r₁ e₁. next_whole (omega arith) λ t r₂ e₂. keeps_give (omega arith)

  fills_stamp : (s : List ℕ) → length s ≡ 4 → Fills s stamp_content
  fills_stamp s l = next_whole (omega arith) λ a r e. next_whole (omega arith) λ b r₁ e₁. next_whole (omega arith) λ c r₂ e₂. next_whole (omega arith) λ d r₃ e₃. keeps_give (omega arith)

  fills_number : (s : List ℕ) → length s ≡ 3 → Fills s number_content
  fills_number s l = next_whole (omega arith) λ a r e. next_whole (omega arith) λ b r₁ e₁. next_whole (omega arith) λ c r₂ e₂. keeps_give (omega arith)

  -- the content of a packet whose length n is allowed
  fills_content : (f : Form) (p n : ℕ) (s : List ℕ) → T (allowed_length f n) → p < bound → length s ≡ n - 2 → Fills s (content f p n)
  fills_content trigger p n s a b l = next_layout 10 (λ w. w) (λ w. w) (below_checks 10 pattern_bound) (omega (arith, bounds 3 7 n a)) λ w r e. keeps_map _ (fills_channels trigger_time r)
  fills_content time_of_flight p n s a b l = fills_channels flight_time s
  fills_content scintillator p n s a b l = keeps_many pair pair_channels (λ r. length r % 2 ≡ 0)
      (λ seen s g l. keeps_bind (reads_datum pair_energy seen (omega arith)) λ e r h.
      next_layout 10 (◌% 2 ^ pair_energy.bits) (channel_word pair_energy e.channel) (below_checks 10 (2 ^ pair_energy.bits)) (omega arith) λ t r₁ h₁. keeps_give (omega arith)) []
      s (omega (arith, eqb→eq, both (even n) (between 2 14 n) a))
  fills_content ion_chamber p n s a b l = let g = bounds 4 20 n a in
      keeps_left (reads_inner (n - 2) energies_tag (channel_words energy16) (omega arith) (omega arith) (λ r h. fills_channels energy16 r)) (λ r e. omega arith)
  fills_content crdc p n s a b l =
      let g = leb→le 10 n a in
      next_id crdc (omega arith) λ id r e. keeps_bind (reads_inner (n - 7) samples_tag samples (omega arith) (omega arith) (λ s k. fills_samples s (omega arith))) λ x r₁ e₁.
      keeps_bind (reads_inner 4 anode_tag anode (omega arith) (omega arith) (λ s k. fills_anode s (omega arith))) λ y r₂ e₂. keeps_give (omega arith)
  fills_content hodoscope p n s a b l = next_id hodoscope (omega (arith, bounds 3 19 n a)) λ id r e. either (λ q. Fills r q) (eqb id 2)
      (keeps_bind (keeps_require (eqb n 6) 7 p tt b) λ u r₁ e₁. keeps_map _ (fills_registers r₁ (omega (arith, eqb→eq))))
      (keeps_map _ (fills_channels energy16 r))
  fills_content object_pin p n s a b l = let g = eqb→eq n 3 a in keeps_left (reads_datum energy16 [] (omega arith)) (λ r e. omega arith)
  fills_content vme_adc p n s a b l = next_id vme_adc (omega (arith, bounds 3 11 n a)) λ w r e. keeps_map _ (fills_channels adc_energy r)
  fills_content (opaque k) p n s a b l = fills_words (λ u. whole) alone (λ u s l. reads_layout 10 (λ w. w) (λ w. w) (below_checks 10 (2 ^ 16)) (omega arith)) tt s

  reads_packet : (s : List ℕ) → 1 ≤ length s → Reads s packet (λ r. length r < length s)
  reads_packet s l = keeps_left
      (reads_packet_of form_word allowed_length packet_content (λ s l. reads_layout 6 form_of tag (λ f. []) (omega arith)) (λ f p n s a b l. keeps_map _ (fills_content f p n s a b (omega arith))) s l)
      (λ r e. omega arith)

  -- the first packet or the second, of one length
  reads_first : {A : Type 0} (t m : ℕ) (p : Parser ℕ A) → ((s : List ℕ) → 2 + length s ≡ m → Fills s p)
      → (s : List ℕ) → 1 ≤ length s → Reads s (packet_of (exactly 6 t) (λ u. eqb m) (λ u k n. p)) (λ r. length r + m ≡ length s)
  reads_first t m p c s l = keeps_left
      (reads_packet_of (exactly 6 t) (λ u. eqb m) (λ u k n. p) (λ s l. reads_layout 6 (λ w. tt) (λ u. t) (λ u. []) (omega arith)) (λ u k n s a b l. c s (omega (arith, eqb→eq m n a))) s l)
      (λ r e. omega (arith, eqb→eq m e.0 e.3.1))

  fills_event : (s : List ℕ) → 0 < bound → Fills s (event_parser (length s))
  fills_event s b = keeps_bind (keeps_require (between smallest_event largest_event (length s)) 1 0 tt b) λ u r e.
      let g = bounds smallest_event largest_event (length s) e.0 in
      next_exactly 2 (length s) tt (omega arith) λ u r₁ e₁. next_exactly 3 event_tag tt (omega arith) λ u r₂ e₂. next_exactly 4 version tt (omega arith) λ u r₃ e₃.
      keeps_bind (reads_first stamp_tag 6 stamp_content (λ s l. fills_stamp s (omega arith)) r₃ (omega arith)) λ st r₄ e₄.
      keeps_bind (reads_first number_tag 5 number_content (λ s l. fills_number s (omega arith)) r₄ (omega arith)) λ k r₅ e₅.
      keeps_map _ (keeps_map _ (keeps_many (λ u. packet) alone (λ r. Unit {0}) (λ u s g l. keeps_left (reads_packet s l) (λ r e. (e, tt))) tt r₅ tt))

pub refusals : (o : StampOrder) (ws : List ℕ) (n k : ℕ) → reading o ws ≡ refused n k → (1 ≤ n) × (n ≤ 11) × ((k < length ws) ⊎ (k ≡ 0))
refusals o ws n k e =
    let h = reading_refused event_parser (rows o) fills_event ws n k e in
    let t = bounds 1 11 n h.0 in
    (t.0, t.1, h.1)

-- what a packet holds fills it
empty : (r : List ℕ) → length r ≡ 0 → T (ended r)
empty [] e = tt
empty (x ∷ r) e = absurd (omega arith)

pub content_ends : (f : Form) (p n : ℕ) → allowed_length f n ≡ true → (i : ℕ) (s : List ℕ) (c : Content f) (j : ℕ) (r : List ℕ) → length s ≡ n - 2
    → content f p n i s ≡ ok c j r → T (ended r)
content_ends f p n a i s c j r l e = empty r (keeps_ok (fills_content (suc (p + i + length s)) f p n s (true_T (allowed_length f n) a) (omega arith) l) i c j r (omega arith) e)
