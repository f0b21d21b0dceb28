-- The loops over content words that come in runs: one turn each, over plain values.
-- Assumes nothing.
use Prim.Native.Nat.{ℕ, suc, ◌+◌, ◌/◌, ◌%◌, ◌^◌, ◌≤◌, ◌<◌}
use native.Mathlib.Omega.{arith}
use native.Mathlib.Numerals.{add-one}
use mathlib.Core.Path.{◌≡◌, refl, ◌∙◌, subst}
use mathlib.Core.List.{List, [], ◌∷◌}
use lib.ListN.{length, get_or}
use lib.Seq.{slice}
use borrow.Author.Tests.{eq-eqb, ne_eqb, lt-ltb}
use Rattle.event.specs.Parser.{ok, refuse, ended, many, each, alone}
use Rattle.event.specs.Channels.{insert, Blocked}
use Rattle.event.specs.Rows.{row, store_row}
use Rattle.event.specs.Scanning.{store_rows, Scanned}
use Rattle.event.proofs.ChannelLaws.{blocked_more}
use Rattle.event.specs.declared.refusal.Refusal.{Refusal}
use Rattle.event.proofs.Answers.{Failed}
use Rattle.event.proofs.Leads.{refused_as}
use Rattle.event.proofs.ChannelTurns.{on_fault}
use Rattle.event.proofs.Turns.{Reached, at_two, read_below, step, stop}
use Rattle.s800_format.proofs.Formats.{pair_format, pair_format_lem}
use Rattle.s800_layout.specs.Event.{ChannelFormat, pair_energy}
use Rattle.s800_layout.specs.Layout.{channel_word, pair_rows, pair_channels}
use Rattle.s800_layout.specs.Reading.{whole, datum_of, datum, pair}
use Rattle.s800_layout.proofs.Words.{codes_whole, codes_pair}
use Rattle.s800_reader.specs.Channel.{fault_of, opaque_rows, pair_of}
use Rattle.s800_reader.proofs.Channels.{judged}
use Rattle.event.specs.Refusal.{Answer, refusal}
use Rattle.std.specs.Prelude.{Err}

pub read_whole : (ws : List ℕ) (i end : ℕ) → i < end → end ≤ length ws → get_or ws i 0 < 2 ^ 16 → whole i (slice i end ws) ≡ ok (get_or ws i 0) (i + 1) (slice (i + 1) end ws)
read_whole = read_below 10 (2 ^ 16)

abbrev pub Opaques : List ℕ → ℕ → ℕ → ℕ → List ℕ → ℕ → ℕ → List ℕ → Type 0
Opaques ws end = Reached (λ u. whole) alone opaque_rows (λ u. Unit {0}) ws end tt

module _ {ws : List ℕ} {end i₀ k₀ i k : ℕ} {b₀ b b' : List ℕ} (h : Opaques ws end i₀ k₀ b₀ i k b) (below : i < end) (long : end ≤ length ws)
    {w : ℕ} (e : w ≡ get_or ws i 0) (fits : w < 2 ^ 16) where
  pub opaque_step : b' ≡ store_row b k (row 11 0 0 w) → length b' ≡ length b → Opaques ws end i₀ k₀ b₀ (i + 1) (k + 1) b'
  opaque_step q z =
      let few = h.few in
      step (λ u. codes_whole) (λ u a g r. refl) h below long (read_whole ws i end below long (rw e at fits)) tt (omega arith) (omega arith) refl (rw e at q) z

-- a pair of two words, after the channels of a set
module _ {set : ℕ} {seen : List ℕ} (s : Blocked pair_format.barred set seen) (i : ℕ) {v : ℕ} (f : v < 2 ^ 16) (w : ℕ) (r : List ℕ) where
  energy_judged : datum pair_energy seen i (v ∷ w ∷ r)
      ≡ on_fault (fault_of pair_format set v) (datum_of pair_energy v) i (w ∷ r)
  energy_judged =
      subst (λ (q : ChannelFormat). datum q seen i (v ∷ w ∷ r) ≡ on_fault (fault_of pair_format set v) (datum_of q v) i (w ∷ r))
      pair_format_lem (judged pair_format f s i (w ∷ r))

  pair_energy_lem : (n : ℕ) → n ≡ fault_of pair_format set v → (n ≡ 0 → ⊥) → pair seen i (v ∷ w ∷ r) ≡ refuse n i
  pair_energy_lem n e z = rw (energy_judged, ← e, ne_eqb n 0 z)

  module _ (e : 0 ≡ fault_of pair_format set v) where
    first_read : datum pair_energy seen i (v ∷ w ∷ r) ≡ ok (datum_of pair_energy v) (suc i) (w ∷ r)
    first_read = energy_judged ∙ rw (← e)

    pair_time : (w / 4096 ≡ v / 4096 → ⊥) → pair seen i (v ∷ w ∷ r) ≡ refuse 10 (i + 1)
    pair_time z =
        let n : w ≡ channel_word pair_energy (v / 2 ^ 12) (w % 2 ^ 12) → ⊥ = λ d. z (omega arith) in
        rw (first_read, ne_eqb w (channel_word pair_energy (v / 2 ^ 12) (w % 2 ^ 12)) n, add-one i)

    pair_whole : w / 4096 ≡ v / 4096 → pair seen i (v ∷ w ∷ r) ≡ ok (pair_of v w) (i + 2) r
    pair_whole z =
        let n : w ≡ channel_word pair_energy (v / 2 ^ 12) (w % 2 ^ 12) = omega arith in
        let two : suc (suc i) ≡ i + 2 = omega arith in
        rw (first_read, eq-eqb w (channel_word pair_energy (v / 2 ^ 12) (w % 2 ^ 12)) n, lt-ltb (w % 2 ^ 12) (2 ^ 12) (omega arith), two)

-- `set` holds the barred channels, and those of the pairs before
abbrev pub Pairs : ℕ → List ℕ → ℕ → ℕ → ℕ → List ℕ → ℕ → ℕ → List ℕ → Type 0
Pairs set ws end = Reached pair pair_channels pair_rows (Blocked pair_format.barred set) ws end []

abbrev PairsScanned : List ℕ → ℕ → ℕ → ℕ → List ℕ → Answer → List ℕ → Type 0
PairsScanned ws end i₀ = Scanned (each pair_rows) (many pair pair_channels ended [] i₀ (slice i₀ end ws))

module _ {set : ℕ} {ws : List ℕ} {end i₀ k₀ i k : ℕ} {b₀ b : List ℕ} (h : Pairs set ws end i₀ k₀ b₀ i k b) (below : i + 1 < end) (long : end ≤ length ws)
    {v : ℕ} (p : v ≡ get_or ws i 0) (f : v < 2 ^ 16) where
  pub pair_stop : {r : Refusal} (after : List ℕ) → Failed (fault_of pair_format set v) i r → PairsScanned ws end i₀ k₀ b₀ (Err r) after
  pair_stop after t = stop codes_pair (λ u a g r. refl) h (omega arith) long after (record {
    number = fault_of pair_format set v;
    place = i;
    refused = rw (at_two ws i end below long p refl) (pair_energy_lem h.holds i f (get_or ws (i + 1) 0) (slice (i + 2) end ws) (fault_of pair_format set v) refl t.some);
    named = t.named;
  })

  module _ {w : ℕ} (q : w ≡ get_or ws (i + 1) 0) (e : 0 ≡ fault_of pair_format set v) where
    pub pair_stop_2 : {x : Answer} (after : List ℕ) → (w / 4096 ≡ v / 4096 → ⊥) → x ≡ Err (refusal 10 (i + 1)) → PairsScanned ws end i₀ k₀ b₀ x after
    pair_stop_2 after z x = rw x (stop codes_pair (λ u a g r. refl) h (omega arith) long after
        (refused_as {n = 10} {p = i + 1} (rw (at_two ws i end below long p q) (pair_time h.holds i f w (slice (i + 2) end ws) e z))))

    pub pair_step : {set' : ℕ} {b' : List ℕ} → w / 4096 ≡ v / 4096 → set' ≡ insert set (v / 4096 % 32) → b' ≡ store_rows b k (pair_rows (pair_of v w)) → length b' ≡ length b
        → Pairs set' ws end i₀ k₀ b₀ (i + 2) (k + 2) b'
    pair_step z t s l =
        let few = h.few in
        let low : v / 4096 % 32 ≡ v / 4096 = omega arith in
        step codes_pair (λ u a g r. refl) h (omega arith) long
        (rw (at_two ws i end below long p q) (pair_whole h.holds i f w (slice (i + 2) end ws) e z))
        (rw (t, low) (blocked_more (v / 4096) h.holds)) (omega arith) (omega arith) refl s l
