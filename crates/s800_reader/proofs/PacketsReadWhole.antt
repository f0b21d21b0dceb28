-- The packets whose content is read whole, opened: over plain values.
-- Assumes nothing.
use Prim.Native.Nat.{ℕ, suc, ◌+◌, ◌-◌, ◌%◌, ◌^◌, ◌≤◌, ◌<◌}
use native.Mathlib.Nat.{le_refl}
use native.Mathlib.Omega.{arith}
use mathlib.Core.Path.{◌≡◌, refl, ap, sym, ◌∙◌}
use mathlib.Core.Bool.{true}
use mathlib.Core.List.{List, [], ◌∷◌, ◌++◌}
use lib.ListN.{length, get_or}
use lib.Seq.{slice}
use borrow.Author.Tests.{eq-eqb, le-leb}
use Rattle.event.specs.Parser.{Result, ok, refuse, Parser, then, ◌>>=◌, give, ended, filled, many, several, each, alone}
use Rattle.event.specs.Rows.{row, store_row}
use Rattle.event.specs.Scanning.{store_rows, RefusedAs, Scanned, Leads}
use Rattle.event.proofs.Elements.{each_map}
use Rattle.event.proofs.Ends.{ends_many}
use Rattle.event.proofs.Leads.{leads_part, then_then, refused_scan, scanned_refuse, store_append}
use Rattle.event.proofs.Loops.{at_end}
use Rattle.event.proofs.Impossible.{impossible}
use Rattle.s800_format.specs.Format.{energies_of}
use Rattle.event.specs.declared.refusal.Refusal.{Refusal}
use Rattle.s800_layout.specs.Event.{energy16, Group, Samples, Crdc, Opaque, Form, scintillator, crdc, opaque, Packet, samples_tag, anode_tag, tag}
use Rattle.s800_layout.specs.Layout.{pair_rows, pair_channels, group_rows, packet_row, packet_rows}
use Rattle.s800_layout.specs.Reading.{allowed_length, inner, whole, pair, group, samples, anode}
use Rattle.s800_layout.proofs.Words.{codes_groups}
use Rattle.s800_reader.specs.Channel.{opaque_rows, anode_rows, NoMore}
use Rattle.s800_reader.specs.Opening.{PacketAt, CrdcFront, crdc_front_rows, rest_of, OpensAs}
use Rattle.s800_reader.proofs.Inner.{inner_length, inner_tag, inner_read}
use Rattle.s800_reader.proofs.Runs.{read_whole}
use Rattle.s800_reader.proofs.ChannelPackets.{first_word}
use Rattle.s800_reader.proofs.Opening.{opens_refused, opens_complete}
use Rattle.event.specs.Refusal.{Answer, refusal}
use Rattle.std.specs.Prelude.{Ok, Err}
use Rattle.s800_reader.specs.Opening.{channels_left}
use Rattle.s800_reader.specs.Opening.{OpenAnswer}

-- a packet whose content was refused
opens_failed : (f : Form) {ws : List ℕ} {start n k : ℕ} {b after : List ℕ} {r : Refusal} → Scanned packet_rows (rest_of f ws start n) k b (Err r) after → OpensAs f ws start n k b after (Err r)
opens_failed f {ws} {start} {n} s = record { opens = refused_scan packet_rows (rest_of f ws start n) s }

-- or scanned whole
abbrev pub OpenedWhole : ℕ → Answer → OpenAnswer → Type 0
OpenedWhole end (Ok k) r = r ≡ Ok (channels_left (energies_of 0 energy16) end end k)
OpenedWhole end (Err e) r = r ≡ Err e

opens_answer : (f : Form) {ws : List ℕ} {start n k : ℕ} {b after : List ℕ} (a : Answer) {r : OpenAnswer} → Scanned packet_rows (rest_of f ws start n) k b a after
    → NoMore (start + n) a → OpenedWhole (start + n) a r → OpensAs f ws start n k b after r
opens_answer f (Ok k') s few e = opens_complete f s few e
opens_answer f (Err r) s few e = rw e (opens_failed f s)

module _ {ws : List ℕ} {start n k : ℕ} (s : PacketAt ws start n k) where
  pub scintillator_opens : {b b₁ after : List ℕ} (a : Answer) {r : OpenAnswer} → (n % 2 ≡ 1 → ⊥) → n ≤ 14 → b₁ ≡ store_rows b k (packet_row (tag scintillator) 0 ∷ [])
      → Scanned (each pair_rows) (many pair pair_channels ended [] (start + 2) (slice (start + 2) (start + n) ws)) (k + 1) b₁ a after
      → NoMore (start + n) a → OpenedWhole (start + n) a r → OpensAs scintillator ws start n k b after r
  scintillator_opens {b} {b₁} {after} a z high q t few e =
      let two = s.two in
      let rest = many pair pair_channels ended [] (start + 2) (slice (start + 2) (start + n) ws) in
      let m = eq-eqb (n % 2) 0 (omega arith) in
      let l = leads_part (packet_row (tag scintillator) 0 ∷ []) (each pair_rows) rest (λ xs. record { form = scintillator; content = xs }) packet_rows k b (λ xs. refl) in
      opens_answer scintillator a (rw (m, le-leb 2 n two, le-leb n 14 high) (l.leads a after (rw q at t))) few e

  -- opaque words
  pub opaque_opens : (o : Opaque) {b b₁ after : List ℕ} {t total : ℕ} {r : OpenAnswer} → t ≡ tag (opaque o) → b₁ ≡ store_rows b k (packet_row t 0 ∷ [])
      → Scanned (each opaque_rows) (several whole ended (start + 2) (slice (start + 2) (start + n) ws)) (k + 1) b₁ (Ok total) after → total ≤ start + n
      → r ≡ Ok (channels_left (energies_of 0 energy16) (start + n) (start + n) total) → OpensAs (opaque o) ws start n k b after r
  opaque_opens o {b} {b₁} {after} {t} {total} p q u few e =
      let two = s.two in
      let rest = several whole ended (start + 2) (slice (start + 2) (start + n) ws) in
      let l = leads_part (packet_row (tag (opaque o)) 0 ∷ []) (each opaque_rows) rest (λ xs. record { form = opaque o; content = xs }) packet_rows k b
      (λ xs. ap (packet_row (tag (opaque o)) 0 ∷◌) (sym (each_map (row 11 0 0) xs))) in
      opens_answer (opaque o) (Ok total) (rw (le-leb 2 n two) (l.leads (Ok total) after (rw (q, p) at u))) few e

-- the anode's inner packet
module _ (ws : List ℕ) (i k : ℕ) (b : List ℕ) (long : i + 4 ≤ length ws) {v : ℕ} (e : v ≡ get_or ws i 0) where
  abbrev AnodeScanned : Answer → List ℕ → Type 0
  AnodeScanned = Scanned anode_rows (inner 4 anode_tag anode i (slice i (i + 4) ws)) k b

  module _ (l : v ≡ 4) {w : ℕ} (d : w ≡ get_or ws (i + 1) 0) where
    pub anode_tag_lem : {a : Answer} (after : List ℕ) → (w ≡ anode_tag → ⊥) → a ≡ Err (refusal 9 (i + 1)) → AnodeScanned a after × NoMore (i + 4) a
    anode_tag_lem after z q = rw q (scanned_refuse anode_rows {n = 9} {p = i + 1} k b after (inner_tag 4 anode_tag anode i (i + 4) ws (omega arith) (omega arith) long e l d z), tt)

abbrev packed : Result ℕ Crdc → Result ℕ Packet
packed x = then (λ c. give (record { form = crdc; content = c })) x

abbrev after_samples : ℕ → Samples → Parser ℕ Crdc
after_samples id xs = inner 4 anode_tag anode >>= λ a. give (record { id = id; samples = xs; anode = a })

-- the groups of a CRDC's packet
abbrev samples_from : List ℕ → (start n : ℕ) → Result ℕ (List Group)
samples_from ws start n = several group ended (start + 6) (slice (start + 6) (start + n - 4) ws)

-- the packet from its threshold on
abbrev after_front : List ℕ → (start n id : ℕ) → Result ℕ Packet
after_front ws start n id =
    packed (then (after_samples id) (filled (slice (start + n - 4) (start + n) ws) (then (λ xs. give (record { threshold = get_or ws (start + 5) 0; groups = xs })) (samples_from ws start n))))

module _ {ws : List ℕ} {start n k : ℕ} (s : PacketAt ws start n k) (least : 10 ≤ n) {id : ℕ} (a : id ≡ get_or ws (start + 2) 0) where
  allowed : allowed_length crdc n ≡ true
  allowed = le-leb 10 n least

  module _ (i : id ≤ 1) {v : ℕ} (c : v ≡ get_or ws (start + 3) 0) where
    abbrev samples_part : Result ℕ Samples
    samples_part = inner (n - 7) samples_tag samples (start + 3) (slice (start + 3) (start + n) ws)

    id_read : rest_of crdc ws start n ≡ packed (then (after_samples id) samples_part)
    id_read =
        let three : suc (start + 2) ≡ start + 3 = omega arith in
        rw (allowed, first_word s (omega arith) a, eq-eqb id id refl, le-leb id 1 i, three)

    pub crdc_length : {b after : List ℕ} {r : OpenAnswer} → (v ≡ n - 7 → ⊥) → r ≡ Err (refusal 9 (start + 3)) → OpensAs crdc ws start n k b after r
    crdc_length z q = opens_refused crdc {m = 9} {p = start + 3} q (id_read ∙ rw (inner_length (n - 7) samples_tag samples (start + 3) (start + n) ws (omega arith) (omega arith) s.inside c z))

    module _ (l : v ≡ n - 7) {w : ℕ} (d : w ≡ get_or ws (start + 4) 0) where
      four : start + 3 + 1 ≡ start + 4
      four = omega arith

      pub crdc_tag : {b after : List ℕ} {r : OpenAnswer} → (w ≡ samples_tag → ⊥) → r ≡ Err (refusal 9 (start + 4)) → OpensAs crdc ws start n k b after r
      crdc_tag z q = opens_refused crdc {m = 9} {p = start + 4} q
          (id_read ∙ rw (inner_tag (n - 7) samples_tag samples (start + 3) (start + n) ws (omega arith) (omega arith) s.inside c l (rw four d) z, four))

      front_read : w ≡ samples_tag → get_or ws (start + 5) 0 < 2 ^ 16 → rest_of crdc ws start n ≡ after_front ws start n id
      front_read z f =
          let five : start + 3 + 2 ≡ start + 5 = omega arith in
          let six : start + 5 + 1 ≡ start + 6 = omega arith in
          let end : start + 3 + (n - 7) ≡ start + n - 4 = omega arith in
          id_read ∙ rw (
            inner_read (n - 7) samples_tag samples (start + 3) (start + n) ws (omega arith) (omega arith) s.inside c l (rw four d) z,
            five,
            end,
            read_whole ws (start + 5) (start + n - 4) (omega arith) (omega (arith, s.inside)) f,
            six,
          )

-- the rest of it
module _ {ws : List ℕ} {start n : ℕ} (h : CrdcFront ws start n) (long : start + n ≤ length ws) where
  front_passed : rest_of crdc ws start n ≡ after_front ws start n (get_or ws (start + 2) 0)
  front_passed =
      let least = h.least in
      front_read (record { two = omega arith; inside = long; few = le_refl start }) least refl h.id refl h.samples_length refl h.its_tag h.threshold

  -- groups refused
  pub crdc_refused : {k : ℕ} {b b₁ after : List ℕ} {r : Refusal} → Scanned (each group_rows) (samples_from ws start n) (k + 2) b₁ (Err r) after → OpensAs crdc ws start n k b after (Err r)
  crdc_refused {k} {b} {b₁} {after} {r} t = go (refused_scan (each group_rows) (samples_from ws start n) t)
    where
      go : RefusedAs (samples_from ws start n) r → OpensAs crdc ws start n k b after (Err r)
      go u = record { opens = record { number = u.number; place = u.place; refused = front_passed ∙ rw u.refused; named = u.named } }

  -- groups read: the anode is left
  sampled : (xs : List Group) → samples_from ws start n ≡ ok xs (start + n - 4) [] → rest_of crdc ws start n
      ≡ then (λ a. give (record { form = crdc; content = record { id = get_or ws (start + 2) 0; samples = record { threshold = get_or ws (start + 5) 0; groups = xs }; anode = a } }))
      (inner 4 anode_tag anode (start + n - 4) (slice (start + n - 4) (start + n) ws))
  sampled xs e = front_passed ∙ rw e (then_then (inner 4 anode_tag anode (start + n - 4) (slice (start + n - 4) (start + n) ws)) _ _)

  anode_leads : {k k₁ : ℕ} {b b₁ b₂ : List ℕ} → b₁ ≡ store_rows b k (crdc_front_rows ws start) → (x : Result ℕ (List Group)) → samples_from ws start n ≡ x
      → Scanned (each group_rows) x (k + 2) b₁ (Ok k₁) b₂
      → Leads anode_rows (inner 4 anode_tag anode (start + n - 4) (slice (start + n - 4) (start + n) ws)) k₁ b₂ packet_rows (rest_of crdc ws start n) k b
  anode_leads q (refuse m p) e t = let f = t.answered in impossible cc
  anode_leads {k} {k₁} {b} {b₁} {b₂} q (ok xs j r) e t =
      let least = h.least in
      let before = crdc_front_rows ws start ++ each group_rows xs in
      let f = t.answered in
      let p : k₁ ≡ k + length before = let c : k₁ ≡ k + 2 + length (each group_rows xs) = cc in omega arith in
      let u : b₂ ≡ store_rows b k before = t.stored ∙ rw q (sym (store_append store_row b k (crdc_front_rows ws start) (each group_rows xs))) in
      let w = at_end codes_groups (ends_many ended (λ u. group) alone tt) (start + 6) (start + n - 4) ws (omega arith) (omega arith) xs j r e in
      rw (p, u, sampled xs w) (leads_part before anode_rows (inner 4 anode_tag anode (start + n - 4) (slice (start + n - 4) (start + n) ws)) _ packet_rows k b
      (λ a. refl))

  pub crdc_whole : {k k₁ : ℕ} {b b₁ b₂ after : List ℕ} {a : Answer} {r : OpenAnswer} → b₁ ≡ store_rows b k (crdc_front_rows ws start)
      → Scanned (each group_rows) (samples_from ws start n) (k + 2) b₁ (Ok k₁) b₂
      → Scanned anode_rows (inner 4 anode_tag anode (start + n - 4) (slice (start + n - 4) (start + n) ws)) k₁ b₂ a after × NoMore (start + n) a
      → OpenedWhole (start + n) a r → OpensAs crdc ws start n k b after r
  crdc_whole {after = after} {a = a} q t u v = opens_answer crdc a ((anode_leads q (samples_from ws start n) refl t).leads a after u.0) u.1 v
