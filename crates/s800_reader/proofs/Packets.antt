-- One packet of the run: from its first word to its form's own words, and to the packet after it. Over plain values.
-- Assumes nothing.
use Prim.Native.Nat.{ℕ, suc, ◌+◌, ◌-◌, ◌≤◌, ◌<◌}
use native.Mathlib.Omega.{arith}
use mathlib.Core.Path.{◌≡◌, refl, ◌∙◌}
use mathlib.Core.Bool.{Bool, true, false, cond}
use mathlib.Core.List.{List}
use lib.Dec.{T, eqb}
use lib.ListN.{length, get_or, drop}
use lib.Seq.{slice, length-slice}
use borrow.Author.Tests.{eq-eqb}
use Rattle.event.specs.Parser.{Result, ok, refuse, then, give, ended, filled}
use Rattle.event.proofs.Leads.{leads_trans, refused_as}
use Rattle.event.proofs.Loops.{leads_filled}
use Rattle.event.proofs.Impossible.{impossible}
use Rattle.s800_layout.specs.Event.{Form, Content, Packet, tag, form_of}
use Rattle.s800_layout.specs.Layout.{packet_rows}
use Rattle.s800_layout.specs.Reading.{allowed_length, content, packet_content, form_word, packet}
use Rattle.s800_layout.proofs.Lengths.{form_back}
use Rattle.s800_layout.proofs.Refusals.{content_ends}
use Rattle.s800_reader.specs.Opening.{rest_of, OpensAs, OpensPacket}
use Rattle.s800_reader.proofs.Extent.{body}
use Rattle.event.specs.Refusal.{refusal}
use Rattle.std.specs.Prelude.{Ok, Err}
use Rattle.s800_reader.specs.Opening.{OpenAnswer}

-- what a packet holds fills it
rest_ends : (f : Form) (ws : List ℕ) (start n : ℕ) → start + n ≤ length ws → 2 ≤ n → (q : Packet) (j : ℕ) (r : List ℕ) → rest_of f ws start n ≡ ok q j r → T (ended r)
rest_ends f ws start n long two q j r e = go (allowed_length f n) refl e
  where
    size : length (slice (start + 2) (start + n) ws) ≡ n - 2
    size = length-slice (start + 2) (start + n) ws long ∙ (let z : start + n - (start + 2) ≡ n - 2 = omega arith in z)

    read : allowed_length f n ≡ true → (x : Result ℕ (Content f)) → content f start n (start + 2) (slice (start + 2) (start + n) ws) ≡ x
        → then (λ c. give (record { form = f; content = c })) x ≡ ok q j r → T (ended r)
    read a (ok c k t) g h = let u : t ≡ r = cc in rw u at (content_ends f start n a (start + 2) (slice (start + 2) (start + n) ws) c k t size g)
    read a (refuse m p) g h = impossible cc

    go : (b : Bool) → allowed_length f n ≡ b
        → then (λ (u : Unit {0}). packet_content f start n) (cond b (ok tt (start + 2) (slice (start + 2) (start + n) ws)) (refuse 7 start)) ≡ ok q j r → T (ended r)
    go true a h = read a (content f start n (start + 2) (slice (start + 2) (start + n) ws)) refl h
    go false a h = impossible cc

module _ (ws : List ℕ) (start : ℕ) {n : ℕ} (below : start < length ws) (d₀ : n ≡ get_or ws start 0) where
  module _ (two : 2 ≤ n) where
    module _ (inside : n ≤ length ws - start) {t : ℕ} (d : t ≡ get_or ws (start + 1) 0) where
      pub packet_unknown : {k : ℕ} {b after : List ℕ} {r : OpenAnswer} → eqb t (tag (form_of t)) ≡ false → r ≡ Err (refusal 6 (start + 1)) → OpensPacket ws start k b after r
      packet_unknown z q = rw q (record { opens = refused_as {n = 6} {p = start + 1} (body form_word allowed_length packet_content ws start below d₀ two inside d ∙ rw z); ends = tt })

      known : (f : Form) → t ≡ tag f → packet start (drop start ws) ≡ filled (slice (start + n) (length ws) ws) (rest_of f ws start n)
      known f z =
          let next : suc (start + 1) ≡ start + 2 = omega arith in
          body form_word allowed_length packet_content ws start below d₀ two inside d ∙ rw (z, form_back f, eq-eqb (tag f) (tag f) refl, next)

      pub packet_known : (f : Form) {k : ℕ} {b after : List ℕ} (r : OpenAnswer) → t ≡ tag f → OpensAs f ws start n k b after r → OpensPacket ws start k b after r
      packet_known f (Err r) z o = record { opens = record { number = o.opens.number; place = o.opens.place; refused = known f z ∙ rw o.opens.refused; named = o.opens.named }; ends = tt }
      packet_known f {k} {b} (Ok c) z o =
          let l = o.opens.1 in
          let q = o.opens.0 in
          record {
            opens = (
              rw (← d₀) q,
              record {
                base = l.base;
                inside = rw (← d₀) l.inside;
                few = l.few;
                leads = rw (known f z, ← d₀) (leads_trans l.leads (leads_filled packet_rows (slice (start + n) (length ws) ws) (rest_of f ws start n) k b (rest_ends f ws start n (omega arith) two)));
              },
            );
            ends = (omega arith, omega arith);
          }
