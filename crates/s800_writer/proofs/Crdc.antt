-- The packet of groups and an anode: its inner packets, one after the other. Over plain values.
-- Assumes nothing.
use Prim.Native.Nat.{ℕ, suc, ◌+◌, ◌*◌, ◌^◌, ◌≤◌, ◌<◌}
use native.Mathlib.Omega.{arith}
use mathlib.Core.Path.{◌≡◌, refl, ap, ◌∙◌}
use mathlib.Core.List.{List, [], ◌∷◌}
use lib.ListN.{length, get_or, drop}
use Rattle.event.specs.declared.Row.{Row}
use Rattle.event.specs.Parser.{ok, several, each}
use Rattle.event.specs.Rows.{row}
use Rattle.event.specs.Words.{store_word, below_checks}
use Rattle.event.specs.Scanning.{RefusedAs, Writes}
use Rattle.event.specs.Writing.{at_kind, no_row}
use Rattle.event.proofs.Ends.{placed}
use Rattle.event.proofs.WritingTurns.{Wrote, wrote, unwritten, writes_part, writes_done}
use Rattle.s800_layout.specs.Event.{crdc, samples_tag, anode_tag}
use Rattle.s800_layout.specs.Layout.{framed, samples_words, anode_words, content_words, anode_row, anode_checks, group_words}
use Rattle.s800_layout.specs.Writing.{datum_below, samples, anode_of, anode, group}
use Rattle.s800_layout.proofs.Rows.{codes_samples}
use Rattle.s800_writer.specs.Rows.{limits_fault}
use Rattle.s800_writer.specs.Packets.{closed}
use Rattle.s800_writer.proofs.Closing.{closed_writes}
use Rattle.s800_writer.proofs.Limits.{plain_fault, anode_fault}
use Rattle.s800_writer.proofs.Packets.{content_at}
use Rattle.s800_writer.proofs.Singles.{one_taken, one_refused}
use Rattle.event.specs.Refusal.{PartAnswer, part}
use Rattle.std.specs.Prelude.{Err, Ok}
use Rattle.event.specs.declared.Part.{Part}
use Rattle.event.specs.declared.refusal.Refusal.{Refusal}
use Rattle.event.proofs.Answers.{Failed}
use Rattle.s800_writer.proofs.Failures.{refused_first}

-- the anode, of one row, in its inner packet at word `at`
module _ (rs : List Row) (i : ℕ) {r : Row} (e : r ≡ get_or rs i no_row) where
  pub anode_refused : {refused : Refusal} → Failed (limits_fault 9 0 65535 65535 r) i refused → RefusedAs (anode i (drop i rs)) refused
  anode_refused = one_refused 9 0 65535 65535 anode_of anode_row (anode_checks 22) anode_fault refl (λ a. (tt, (tt, tt))) rs i e

  pub anode_inside : 0 ≡ limits_fault 9 0 65535 65535 r → i < length rs
  anode_inside f = (one_taken 9 0 65535 65535 anode_of anode_row (anode_checks 22) anode_fault refl (λ a. (tt, (tt, tt))) rs i e f).0

  pub anode_taken : {at : ℕ} {b b₁ b₂ b₃ : List ℕ} → 0 ≡ limits_fault 9 0 65535 65535 r → at ≤ 4 * i → b₁ ≡ store_word 16 b (at + 2) r.channel → b₂ ≡ store_word 16 b₁ (at + 3) r.datum
      → b₃ ≡ closed at anode_tag (at + 4) b₂ → Writes 16 (λ a. framed anode_tag (anode_words a)) (anode i (drop i rs)) rs at b (Ok (part (i + 1) (at + 4))) b₃
  anode_taken {at} {b} {b₁} {b₂} f few q s c =
      let t = one_taken 9 0 65535 65535 anode_of anode_row (anode_checks 22) anode_fault refl (λ a. (tt, (tt, tt))) rs i e f in
      let l = t.0 in
      let three : at + 3 ≡ at + 2 + 1 = omega arith in
      let four : at + 4 ≡ at + 2 + 2 = omega arith in
      closed_writes anode_words at anode_tag (anode i (drop i rs))
      (writes_done 16 anode_words t.1 refl four (s ∙ ap (λ (n : ℕ). store_word 16 b₁ n r.datum) three ∙ ap (λ (l : List ℕ). store_word 16 l (at + 2 + 1) r.datum) q) (omega arith) (omega arith))
      c

-- the threshold's row, and the groups after it
module _ (id : ℕ) (rs : List Row) (i : ℕ) {r : Row} (e : r ≡ get_or rs (i + 1) no_row) where
  pub threshold_refused : {refused : Refusal} → Failed (limits_fault 7 0 0 65535 r) (i + 1) refused → RefusedAs (content_at crdc id rs i) refused
  threshold_refused t =
      refused_first _ (refused_first _ (one_refused 7 0 0 65535 (λ r. r.datum) (row 7 0 0) (below_checks 22 (2 ^ 16)) (plain_fault 7 65535) refl (λ a. (tt, tt)) rs (i + 1) e t))

  module _ (f : 0 ≡ limits_fault 7 0 0 65535 r) where
    taken : (i + 1 < length rs) × (datum_below 7 0 (2 ^ 16) (i + 1) (drop (i + 1) rs) ≡ ok r.datum (i + 1 + 1) (drop (i + 1 + 1) rs))
    taken = one_taken 7 0 0 65535 (λ r. r.datum) (row 7 0 0) (below_checks 22 (2 ^ 16)) (plain_fault 7 65535) refl (λ a. (tt, tt)) rs (i + 1) e f

    pub threshold_inside : i + 1 < length rs
    threshold_inside = taken.0

    -- the inner packet of the groups
    module _ (b₁ : List ℕ) {b₂ b₃ : List ℕ} (t : b₂ ≡ store_word 16 b₁ 5 r.datum) where
      inner : {p : PartAnswer} → Writes 16 (each group_words) (several group (at_kind 9) (i + 2) (drop (i + 2) rs)) rs 6 b₂ p b₃ → Writes 16 samples_words (samples (i + 1) (drop (i + 1) rs)) rs 5 b₁ p b₃
      inner s =
          let two : i + 1 + 1 ≡ i + 2 = omega arith in
          rw (taken.1, two)
          (writes_part 16 (each group_words) (r.datum ∷ []) (several group (at_kind 9) (i + 2) (drop (i + 2) rs)) (λ xs. record { threshold = r.datum; groups = xs })
          samples_words (λ xs. refl) refl t s)

      pub samples_refused : {refused : Refusal} → Writes 16 (each group_words) (several group (at_kind 9) (i + 2) (drop (i + 2) rs)) rs 6 b₂ (Err refused) b₃ → RefusedAs (content_at crdc id rs i) refused
      samples_refused s = refused_first _ (unwritten 16 samples_words (samples (i + 1) (drop (i + 1) rs)) (inner s).scanned)

      -- closed
      module _ {p : Part} (s : Writes 16 (each group_words) (several group (at_kind 9) (i + 2) (drop (i + 2) rs)) rs 6 b₂ (Ok p) b₃) {b₄ : List ℕ} (c : b₄ ≡ closed 3 samples_tag p.count b₃) where
        whole : Wrote 16 (λ s. framed samples_tag (samples_words s)) (samples (i + 1) (drop (i + 1) rs)) 3 b₁ p.next p.count b₄
        whole =
            wrote 16 (λ s. framed samples_tag (samples_words s)) (samples (i + 1) (drop (i + 1) rs)) {j = p.next} {e = p.count}
            (closed_writes samples_words 3 samples_tag (samples (i + 1) (drop (i + 1) rs)) (inner s) c).scanned

        pub crdc_content : {b after : List ℕ} {p'' : PartAnswer} → b₁ ≡ store_word 16 b 2 id → Writes 16 (λ a. framed anode_tag (anode_words a)) (anode p.next (drop p.next rs)) rs p.count b₄ p'' after
            → Writes 16 (content_words crdc) (content_at crdc id rs i) rs 2 b p'' after
        crdc_content = go whole
          where
            go : Wrote 16 (λ s. framed samples_tag (samples_words s)) (samples (i + 1) (drop (i + 1) rs)) 3 b₁ p.next p.count b₄ → {b after : List ℕ} {p'' : PartAnswer} → b₁ ≡ store_word 16 b 2 id
                → Writes 16 (λ a. framed anode_tag (anode_words a)) (anode p.next (drop p.next rs)) rs p.count b₄ p'' after → Writes 16 (content_words crdc) (content_at crdc id rs i) rs 2 b p'' after
            go w q a =
                let l = taken.0 in
                let input = (placed codes_samples rs (i + 1) (omega arith) w.parsed).0 in
                let n : p.count ≡ 2 + length (id ∷ framed samples_tag (samples_words w.value)) = w.counted ∙ (let m : 3 + length (framed samples_tag (samples_words w.value)) ≡ 2 + suc (length (framed samples_tag (samples_words w.value))) = omega arith in m) in
                rw (w.parsed, input) (writes_part 16 (λ a. framed anode_tag (anode_words a)) (id ∷ framed samples_tag (samples_words w.value)) (anode p.next (drop p.next rs))
                (λ a. record { id = id; samples = w.value; anode = a }) (content_words crdc) (λ a. refl) n (w.stored ∙ rw q) a)
