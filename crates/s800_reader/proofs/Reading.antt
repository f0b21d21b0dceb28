-- The scan of a whole event: the packets after the first 14 words, one after another. Over plain values.
-- Assumes nothing.
use Prim.Native.Nat.{ℕ, ◌+◌, ◌%◌, ◌^◌, ◌≤◌, ◌<◌}
use native.Mathlib.Nat.{le_refl, zero-add}
use native.Mathlib.Omega.{arith}
use mathlib.Core.Path.{◌≡◌, refl, ap, sym, ◌∙◌}
use mathlib.Core.List.{List, []}
use lib.ListN.{length, get_or, drop}
use lib.Seq.{slice, drop-cons}
use Rattle.event.specs.declared.StampOrder.{StampOrder}
use Rattle.event.specs.declared.Part.{Part}
use Rattle.event.specs.declared.Row.{Row}
use Rattle.event.specs.declared.refusal.Refusal.{Refusal}
use Rattle.event.specs.Outcome.{done, outcome, answer_of}
use Rattle.event.proofs.Answers.{Failed}
use Rattle.event.specs.Parser.{Result, ok, refuse, ended, several, each, alone}
use Rattle.event.specs.Channels.{insert}
use Rattle.event.specs.Rows.{store_row}
use Rattle.event.specs.Scanning.{store_rows, RefusedAs, Scanned}
use Rattle.event.proofs.ChannelTurns.{ChannelTurns, channel_refused, channel_taken}
use Rattle.event.proofs.Ends.{placed}
use Rattle.event.proofs.Leads.{refused_scan, scanned_refuse, begins_refused, begins_done}
use Rattle.event.proofs.Loops.{to_the_end}
use Rattle.event.proofs.Turns.{Reached, begin, stop, step}
use Rattle.event.proofs.Impossible.{impossible}
use Rattle.s800_layout.specs.Event.{Packet}
use Rattle.s800_layout.specs.Layout.{content_words, packet_rows, rows}
use Rattle.s800_layout.specs.Reading.{datum, datum_of, channel_words, packet, event_parser}
use Rattle.s800_layout.proofs.Words.{codes_datum, codes_packet}
use Rattle.s800_format.specs.declared.Format.{Format}
use Rattle.s800_format.specs.Format.{format_of}
use Rattle.s800_reader.specs.Channel.{channel_of, fault_of, channel_row, channel_rows}
use Rattle.s800_reader.specs.Head.{Begins}
use Rattle.s800_reader.specs.Opening.{OpensPacket}
use Rattle.s800_reader.proofs.Channels.{judged, low_bit}
use Rattle.event.specs.Refusal.{Answer}
use Rattle.std.specs.Prelude.{Ok, Err}
use Rattle.s800_reader.specs.Opening.{channels_left}

-- the loop over packets
abbrev pub Packets : List ℕ → ℕ → ℕ → List ℕ → ℕ → ℕ → List ℕ → Type 0
Packets ws = Reached (λ u. packet) alone packet_rows (λ u. Unit {0}) ws (length ws) tt

-- where a packet ends
packet_end : (ws : List ℕ) (i : ℕ) → i < length ws → (q : Packet) (j : ℕ) (r : List ℕ) → packet i (drop i ws) ≡ ok q j r
    → packet i (drop i ws) ≡ ok q (i + get_or ws i 0) (slice (i + get_or ws i 0) (length ws) ws)
packet_end ws i h q j r e =
    let s = codes_packet.sound i (drop i ws) q j r e in
    let p = placed codes_packet ws i (omega arith) e in
    let w : get_or ws i 0 ≡ 2 + length (content_words q.form q.content) = ap (λ (l : List ℕ). get_or l 0 0) (sym (drop-cons ws i 0 h) ∙ s.1) in
    let n : j ≡ i + get_or ws i 0 = omega (arith, s.2, w) in
    let m : r ≡ slice (i + get_or ws i 0) (length ws) ws = p.0 ∙ ap (λ (l : ℕ). drop l ws) n ∙ to_the_end (i + get_or ws i 0) ws in
    e ∙ rw (n, m)

module _ {ws : List ℕ} {i₀ k₀ i k : ℕ} {b₀ b : List ℕ} (h : Packets ws i₀ k₀ b₀ i k b) (below : i < length ws) where
  abbrev EndsRefused : Refusal → List ℕ → Type 0
  EndsRefused r after = Scanned (each packet_rows) (several packet ended i₀ (slice i₀ (length ws) ws)) k₀ b₀ (Err r) after

  refused_at : {r : Refusal} (after : List ℕ) → RefusedAs (packet i (drop i ws)) r → EndsRefused r after
  refused_at {r} after t = stop (λ u. codes_packet) (λ u q g r. refl) h below (le_refl (length ws)) after (rw (← to_the_end i ws) t)

  -- refused before its channel words
  pub opening_refused : {b₁ : List ℕ} {r : Refusal} → OpensPacket ws i k b b₁ (Err r) → EndsRefused r b₁
  opening_refused {b₁} o = refused_at b₁ o.opens

  module _ {b₁ : List ℕ} {m : Format} {at e k₁ : ℕ} (opened : OpensPacket ws i k b b₁ (Ok (channels_left m at e k₁))) where
    -- what its channel words gave
    given : {a : Answer} {after : List ℕ} → Scanned (each (channel_rows m)) (channel_words (format_of m) at (slice at e ws)) k₁ b₁ a after → Scanned packet_rows (packet i (drop i ws)) k b a after
    given {a} {after} s = opened.opens.1.leads.leads a after (rw opened.opens.0 at s)

    pub channels_refused : {r : Refusal} {after : List ℕ} → Scanned (each (channel_rows m)) (channel_words (format_of m) at (slice at e ws)) k₁ b₁ (Err r) after → EndsRefused r after
    channels_refused {after = after} s = refused_at after (refused_scan packet_rows (packet i (drop i ws)) (given s))

    pub over : {k₂ : ℕ} {b₂ : List ℕ} → Scanned (each (channel_rows m)) (channel_words (format_of m) at (slice at e ws)) k₁ b₁ (Ok k₂) b₂
        → k₂ ≤ e → length b₂ ≡ length b → Packets ws i₀ k₀ b₀ e k₂ b₂
    over {k₂} {b₂} s few same = go (packet i (drop i ws)) refl (given s)
      where
        go : (x : Result ℕ Packet) → packet i (drop i ws) ≡ x → Scanned packet_rows x k b (Ok k₂) b₂ → Packets ws i₀ k₀ b₀ e k₂ b₂
        go (refuse n p) c t = let d = t.answered in impossible cc
        go (ok x j l) c t =
            let d = t.answered in
            let g : k₂ ≡ k + length (packet_rows x) = cc in
            let end = opened.opens.0 in
            let inside = opened.ends.1 in
            let f : packet i (slice i (length ws) ws) ≡ ok x e (slice e (length ws) ws) = rw (← to_the_end i ws, end) (packet_end ws i below x j l c) in
            step (λ u. codes_packet) (λ u q g r. refl) h below (le_refl (length ws)) f tt inside few g t.stored same

-- the loop over the channel words of a packet; `blocked` holds the barred channels, and those before
abbrev pub ChannelRun : Format → ℕ → List ℕ → ℕ → ℕ → ℕ → List ℕ → ℕ → ℕ → List ℕ → Type 0
ChannelRun m = ChannelTurns (datum (format_of m)) (λ d. d.channel) (channel_row m) m.barred

module _ (m : Format) {blocked : ℕ} {ws : List ℕ} {end i₀ k₀ i k : ℕ} {b₀ b : List ℕ} (h : ChannelRun m blocked ws end i₀ k₀ b₀ i k b) (below : i < end)
    (long : end ≤ length ws) {w : ℕ} (e : w ≡ get_or ws i 0) (fits : w < 2 ^ 16) where
  pub word_refused : {r : Refusal} (after : List ℕ) → Failed (fault_of m blocked w) i r
      → Scanned (each (channel_rows m)) (channel_words (format_of m) i₀ (slice i₀ end ws)) k₀ b₀ (Err r) after
  word_refused = channel_refused (datum (format_of m)) (λ d. d.channel) (channel_row m) (codes_datum (format_of m)) h below long e (fault_of m blocked w) (datum_of (format_of m) w)
      (judged m fits h.holds i)

  pub word_taken : {channel blocked' : ℕ} {b' : List ℕ} → 0 ≡ fault_of m blocked w → channel ≡ channel_of m w → blocked' ≡ insert blocked (channel % 32)
      → b' ≡ store_row b k (channel_row m (datum_of (format_of m) w)) → length b' ≡ length b → ChannelRun m blocked' ws end i₀ k₀ b₀ (i + 1) (k + 1) b'
  word_taken f c s = channel_taken (datum (format_of m)) (λ d. d.channel) (channel_row m) (codes_datum (format_of m)) h below long e (fault_of m blocked w) (datum_of (format_of m) w)
      (judged m fits h.holds i) f (s ∙ ap (insert blocked) (low_bit m fits c))

-- the first 14 words, then the packets
module _ {o : StampOrder} {ws before b : List ℕ} {p : Part} (s : Begins o ws before b (Ok p)) where
  pub packets_begin : Packets ws p.next p.count b p.next p.count b
  packets_begin = let h = begins_done s.begins refl in begin tt h.inside h.few

  pub whole_event : {a : Answer} {after : List ℕ} → Scanned (each packet_rows) (several packet ended p.next (slice p.next (length ws) ws)) p.count b a after
      → Scanned (rows o) (event_parser (length ws) 0 ws) 0 before a after
  whole_event {a} {after} t = (begins_done s.begins refl).leads.leads a after (rw (to_the_end p.next ws) t)

pub head_refused : {o : StampOrder} {ws before b : List ℕ} {r : Refusal} → Begins o ws before b (Err r)
    → Scanned (rows o) (event_parser (length ws) 0 ws) 0 before (Err r) b
head_refused {o} {ws} {before} {b} {r} s = go (begins_refused s.begins refl)
  where
    go : RefusedAs (event_parser (length ws) 0 ws) r → Scanned (rows o) (event_parser (length ws) 0 ws) 0 before (Err r) b
    go t = rw t.named (scanned_refuse (rows o) {n = t.number} {p = t.place} 0 before b t.refused)

-- a scan by what it answered, and what it answered
pub answered_scan : {A : Type 0} (f : A → List Row) (x : Result ℕ A) {a : Answer} {b after : List ℕ} → Scanned f x 0 b a after → a ≡ answer_of (outcome (λ v. done (f v)) x)
answered_scan f (ok v j r) s = s.answered ∙ ap Ok (zero-add (length (f v)))
answered_scan f (refuse n p) s = s.answered

abbrev stored_by : {A : Type 0} → (A → List Row) → Result ℕ A → List ℕ
stored_by f (ok v j r) = store_rows [] 0 (f v)
stored_by f (refuse n p) = []

pub scanned_by : {A : Type 0} (f : A → List Row) (x : Result ℕ A) {a : Answer} → a ≡ answer_of (outcome (λ v. done (f v)) x) → Scanned f x 0 [] a (stored_by f x)
scanned_by f (ok v j r) e = record { answered = e ∙ ap Ok (sym (zero-add (length (f v)))); stored = refl }
scanned_by f (refuse n p) e = record { answered = e; stored = tt }
