-- A hodoscope's hits, and the one energy of an object pin: over plain values.
-- Assumes nothing.
use Prim.Native.Nat.{ℕ, suc, ◌+◌, ◌^◌, ◌<◌}
use native.Mathlib.Omega.{arith}
use mathlib.Core.Path.{◌≡◌, refl, sym, ◌∙◌, subst}
use mathlib.Core.Bool.{Bool, true, false, cond}
use mathlib.Core.List.{List, [], ◌∷◌, ◌++◌}
use lib.Dec.{eqb}
use lib.ListN.{length, get_or}
use lib.Seq.{slice, slice_empty}
use borrow.Author.Tests.{eq-eqb, lt-ltb}
use Rattle.event.specs.declared.Row.{Row}
use Rattle.event.specs.Parser.{Result, ok, refuse, Test, test, judge, then, give, each}
use Rattle.event.specs.Rows.{row}
use Rattle.event.specs.Scanning.{store_rows, Leads}
use Rattle.event.proofs.Elements.{is_between}
use Rattle.event.proofs.Leads.{leads_part, leads_trans}
use Rattle.event.proofs.Turns.{at_word, three_words}
use Rattle.s800_layout.specs.Event.{Datum, hits, hodoscope, object_pin, Packet, tag, hits_id, ChannelFormat, energy16}
use Rattle.s800_layout.specs.Layout.{datum_word, datum_checks, packet_row, packet_rows}
use Rattle.s800_layout.specs.Reading.{datum, datum_of, channel_words}
use Rattle.s800_format.specs.declared.Format.{Format}
use Rattle.s800_format.specs.Format.{format_of, energies_of}
use Rattle.s800_reader.specs.Channel.{channel_rows}
use Rattle.s800_reader.specs.Opening.{PacketAt, HodoscopeHits, rest_of, OpensAs}
use Rattle.s800_reader.proofs.Opening.{opens_complete}
use Rattle.s800_format.proofs.Formats.{energies_format}
use Rattle.s800_reader.proofs.ChannelPackets.{first_word}
use Rattle.std.specs.Prelude.{Ok}
use Rattle.s800_reader.specs.Opening.{OpenAnswer, channels_left}

module _ {ws : List ℕ} {start n k : ℕ} (s : PacketAt ws start n k) (h : HodoscopeHits ws start n) where
  module _ (six : n ≡ 6) {u v w : ℕ} (a : u ≡ get_or ws (start + 3) 0) (b : v ≡ get_or ws (start + 4) 0) (c : w ≡ get_or ws (start + 5) 0)
      (fa : u < 2 ^ 16) (fb : v < 2 ^ 16) (fc : w < 2 ^ 16) where
    six_on : suc (suc (suc (suc (start + 2)))) ≡ start + 6
    six_on = omega arith

    hits_read : rest_of hodoscope ws start n ≡ ok (record { form = hodoscope; content = hits (record { a = u; b = v; time = w }) }) (start + 6) []
    hits_read =
        let end : start + n ≡ start + 6 = omega arith in
        let end-3 : start + 3 + 3 ≡ start + 6 = omega arith in
        let plus-1 : start + 3 + 1 ≡ start + 4 = omega arith in
        let plus-2 : start + 3 + 2 ≡ start + 5 = omega arith in
        let three : slice (start + 3) (start + 6) ws ≡ u ∷ v ∷ w ∷ [] = rw (a, b, c, ← plus-1, ← plus-2, ← end-3) (three_words ws (start + 3) (omega (arith, s.inside))) in
        rw (
          is_between 3 19 n h.least h.most,
          first_word s h.least (sym h.id),
          eq-eqb n 6 six,
          end,
          three,
          eq-eqb u u refl,
          lt-ltb u (2 ^ 16) fa,
          eq-eqb v v refl,
          lt-ltb v (2 ^ 16) fb,
          eq-eqb w w refl,
          lt-ltb w (2 ^ 16) fc,
          six_on,
        )

    pub hits_opens : {before after : List ℕ} {r : OpenAnswer} → after ≡ store_rows before k (packet_row (tag hodoscope) hits_id ∷ row 10 u v w ∷ [])
        → r ≡ Ok (channels_left (energies_of 0 energy16) (start + n) (start + n) (k + 2))
        → OpensAs hodoscope ws start n k before after r
    hits_opens e q = opens_complete hodoscope (rw hits_read (record { answered = refl; stored = e })) (let few = s.few in omega arith) q

-- one word that is judged: it is taken, or refused
judged_word : {A : Type 0} (a : A) (i : ℕ) (r : List ℕ) (ts : List Test) → (good : Bool) × (n : ℕ) × (judge ts a i r ≡ cond good (ok a (suc i) r) (refuse n i))
judged_word a i r [] = (true, 0, refl)
judged_word {A} a i r (t ∷ ts) = go t.holds (judged_word a i r ts)
  where
    go : (h : Bool) → (good : Bool) × (n : ℕ) × (judge ts a i r ≡ cond good (ok a (suc i) r) (refuse n i))
        → (good : Bool) × (n : ℕ) × (cond h (judge ts a i r) (refuse t.number i) ≡ cond good (ok a (suc i) r) (refuse n i))
    go true x = x
    go false x = (false, t.number, refl)

-- one channel word: its run is itself
module _ (m : Format) (i w : ℕ) (g : Datum → Packet) (before : List Row) (rows : (d : Datum) → packet_rows (g d) ≡ before ++ channel_rows m d) (k : ℕ) (b : List ℕ) where
  abbrev OneWord : Result ℕ Datum → Type 0
  OneWord x = datum (format_of m) [] i (w ∷ []) ≡ x
      → Leads (each (channel_rows m)) (channel_words (format_of m) i (w ∷ [])) (k + length before) (store_rows b k before) packet_rows (then (λ x. give (g x)) (datum (format_of m) [] i (w ∷ []))) k b

  one_word : (good : Bool) (n : ℕ) (d : Datum) → OneWord (cond good (ok d (suc i) []) (refuse n i))
  one_word true n d e =
      rw e (leads_trans (record { leads = λ r l s. record { answered = s.answered; stored = s.stored } }) (leads_part before (channel_rows m) (ok d (suc i) []) g packet_rows k b rows))
  one_word false n d e = rw e (record { leads = λ r l s. record { answered = s.answered; stored = tt } })

module _ {ws : List ℕ} {start n k : ℕ} (s : PacketAt ws start n k) (three : n ≡ 3) where
  abbrev energy : ℕ
  energy = get_or ws (start + 2) 0

  pub pin_opens : {b after : List ℕ} → after ≡ store_rows b k (packet_row (tag object_pin) 0 ∷ [])
      → OpensAs object_pin ws start n k b after (Ok (channels_left (energies_of 0 energy16) (start + 2) (start + n) (k + 1)))
  pin_opens {b} q =
      let few = s.few in
      let m = energies_of 0 energy16 in
      let end : start + n ≡ suc (start + 2) = omega arith in
      let word : slice (start + 2) (start + n) ws ≡ energy ∷ [] = at_word ws (start + 2) (start + n) (omega arith) s.inside ∙ rw (end, slice_empty (suc (start + 2)) ws) in
      let d = datum_of (format_of m) energy in
      let j = judged_word d (start + 2) [] (test 10 (eqb energy (datum_word (format_of m) d)) ∷ datum_checks 10 11 (format_of m) [] d) in
      let l = one_word m (start + 2) energy (λ d. record { form = object_pin; content = d }) (packet_row (tag object_pin) 0 ∷ []) (λ d. refl) k b j.0 j.1 d j.2 in
      let p = subst (λ (f : ChannelFormat). Leads (each (channel_rows m)) (channel_words (format_of m) (start + 2) (energy ∷ [])) (k + 1) (store_rows b k (packet_row (tag object_pin) 0 ∷ []))
      packet_rows (then (λ x. give (record { form = object_pin; content = x })) (datum f [] (start + 2) (energy ∷ []))) k b) (energies_format 0) l in
      record {
        opens = (
          refl,
          record { base = omega arith; inside = omega arith; few = omega arith; leads = rw (word, q, eq-eqb n 3 three) p },
        );
      }
