-- One module at the front of the words. Over plain values.
-- Assumes nothing.
use Prim.Native.Nat.{ℕ, ◌+◌, ◌≤◌, ◌<◌}
use native.Mathlib.Omega.{arith}
use mathlib.Core.Path.{◌≡◌, refl, sym, ap, ◌∙◌}
use mathlib.Core.List.{List, [], ◌∷◌, map}
use lib.ListN.{length, get_or, drop, length-append, length-map}
use borrow.Author.Tests.{eq-eqb, ne_eqb}
use Rattle.std.specs.Prelude.{Ok, Err}
use Rattle.event.specs.declared.Part.{Part}
use Rattle.event.specs.declared.refusal.Refusal.{Refusal}
use Rattle.event.specs.Refusal.{part, verdict}
use Rattle.event.proofs.Answers.{passed_test, failed_test}
use Rattle.event.specs.declared.Row.{Row}
use Rattle.event.specs.Parser.{Result, ok, times, each}
use Rattle.event.specs.Channels.{Blocked}
use Rattle.event.specs.Words.{store_word}
use Rattle.event.specs.Writing.{row_with, no_row}
use Rattle.event.specs.Scanning.{store_words, Writes, RefusedAs}
use Rattle.event.proofs.Elements.{each_map}
use Rattle.event.proofs.RowFaults.{Numbered}
use Rattle.event.proofs.RowJudged.{rows_from_lem, row_taken, row_refused}
use Rattle.event.proofs.Ends.{placed}
use Rattle.event.proofs.WritingTurns.{Wrote, wrote, unwritten, writes_refused, writes_done}
use Rattle.frs_layout.specs.Event.{Value, empty, with_data}
use Rattle.frs_layout.specs.Layout.{value_word, header_word, footer_word, empty_word, module_words, value_row, module_row, channels}
use Rattle.frs_layout.specs.Writing.{Header, empty_header, data_header, first_row, starts_module, header_of, header_checks, value, one_module}
use Rattle.frs_layout.proofs.Rows.{codes_module}
use Rattle.frs_writer.specs.Faults.{header_field_fault, header_fault}
use Rattle.frs_writer.specs.Parts.{value_words, WritesModule}
use Rattle.frs_writer.proofs.Parts.{block_stored}
use Rattle.frs_writer.proofs.Headers.{fields_kept, header_seen}

numbered : (seen : List ℕ) (h : Header) → Numbered (header_checks seen h)
numbered seen (empty_header g) = (tt, (tt, (tt, (tt, tt))))
numbered seen (data_header g n c) = (tt, (tt, (tt, (tt, (tt, (tt, (tt, tt)))))))

module _ (set : ℕ) (rs : List Row) (i : ℕ) (b : List ℕ) {r : Row} (e : r ≡ get_or rs i no_row) where
  pub header_refused : {refused : Refusal} (after : List ℕ) → Err refused ≡ verdict (header_fault set r) i → WritesModule set rs i b (Err refused) after
  header_refused after q =
      let t = failed_test (header_fault set r) i q in
      record {
        writes = λ seen s. writes_refused 32 module_words (record {
          number = header_fault set r;
          place = i;
          refused = rw (row_refused starts_module header_of first_row (header_checks seen) refl (numbered seen) rs i e (header_seen r s) t.some);
          named = t.named;
        }) refl;
      }

  module _ {u : Unit {0}} (q : Ok u ≡ verdict (header_fault set r) i) where
    good : 0 ≡ header_fault set r
    good = passed_test (header_fault set r) i q

    pub there : i < length rs
    unfolding header_field_fault
    there = (row_taken starts_module header_of first_row (header_checks []) refl (numbered []) rs i e (fields_kept r set good)).0

    taken : {seen : List ℕ} → Blocked 0 set seen → row_with starts_module header_of first_row (header_checks seen) i (drop i rs) ≡ ok (header_of r) (i + 1) (drop (i + 1) rs)
    taken {seen} s = (row_taken starts_module header_of first_row (header_checks seen) refl (numbered seen) rs i e (good ∙ header_seen r s)).1

    pub empty_done : r.kind ≡ 20 → {w : ℕ} {after : List ℕ} → w ≡ empty_word r.unit → after ≡ store_word 32 b 0 w → WritesModule set rs i b (Ok (part (i + 1) 1)) after
    empty_done is w q = record {
      writes = λ seen s. writes_done 32 module_words {a = empty r.unit} {l = drop (i + 1) rs} (rw (taken s, eq-eqb 20 r.kind (sym is))) refl refl (q ∙ ap (store_word 32 b 0) w)
          (omega (arith, there)) (omega arith);
    }

    module _ (not : r.kind ≡ 20 → ⊥) where
      abbrev values : Result Row (List Value)
      values = times (value r.unit) channels r.channel [] (i + 1) (drop (i + 1) rs)

      pub values_refused : {b₁ : List ℕ} {refused : Refusal} (after : List ℕ) → Writes 32 (each (value_words r.unit)) values rs 1 b (Err refused) b₁ → WritesModule set rs i b (Err refused) after
      values_refused {refused = refused} after v = go (unwritten 32 (each (value_words r.unit)) values v.scanned)
        where
          go : RefusedAs values refused → WritesModule set rs i b (Err refused) after
          go t = record {
            writes = λ seen s. writes_refused 32 module_words
                (record { number = t.number; place = t.place; refused = rw (taken s, ne_eqb 20 r.kind (λ k. not (sym k)), t.refused); named = t.named }) refl;
          }

      module _ {b₁ : List ℕ} {p : Part} (v : Writes 32 (each (value_words r.unit)) values rs 1 b (Ok p) b₁) where
        these : Wrote 32 (each (value_words r.unit)) values 1 b p.next p.count b₁
        these = wrote 32 (each (value_words r.unit)) values v.scanned

        parsed : {seen : List ℕ} → Blocked 0 set seen → one_module seen i (drop i rs) ≡ ok (with_data r.unit these.value r.datum) p.next these.input
        parsed s = rw (taken s, ne_eqb 20 r.kind (λ k. not (sym k)), these.parsed)

        counted : p.count ≡ 1 + length these.value
        counted = these.counted ∙ rw (each_map (value_word r.unit) these.value, length-map these.value (value_word r.unit))

        -- as many as the module's row says
        size : {seen : List ℕ} → Blocked 0 set seen → (length these.value ≡ r.channel) × (p.next ≡ i + (1 + length these.value)) × (p.next ≤ length rs)
        size {seen} s =
            let u = placed (codes_module seen) rs i (omega (arith, there)) (parsed s) in
            let w = ((codes_module seen).sound i (drop i rs) (with_data r.unit these.value r.datum) p.next these.input (parsed s)).1 in
            let x : module_row r.unit (length these.value) r.datum ≡ r = cc (w, rows_from_lem rs i there, e) in
            (ap (λ (y : Row). y.channel) x, omega (arith, u.1, length-map these.value (value_row r.unit)), u.2)

        pub data_done : {h t : ℕ} {b₂ b₃ : List ℕ} → h ≡ header_word r.unit r.channel → b₂ ≡ store_word 32 b₁ 0 h → t ≡ footer_word r.unit r.datum → b₃ ≡ store_word 32 b₂ p.count t
            → WritesModule set rs i b (Ok (part p.next (p.count + 1))) b₃
        data_done {b₂ = b₂} {b₃} hd first-stored tl last_stored = record { writes = λ seen s. go s }
          where
            go : {seen : List ℕ} → Blocked 0 set seen → Writes 32 module_words (one_module seen i (drop i rs)) rs 0 b (Ok (part p.next (p.count + 1))) b₃
            go s =
                let vs = these.value in
                let ws = map (value_word r.unit) vs in
                let n = length-map vs (value_word r.unit) in
                let c = counted in
                writes_done 32 module_words (parsed s) refl (omega (arith, length-append ws (footer_word r.unit r.datum ∷ [])))
                (block_stored b (header_word r.unit (length vs)) ws (footer_word r.unit r.datum)
                (these.stored ∙ ap (store_words 32 b 1) (each_map (value_word r.unit) vs))
                (first-stored ∙ ap (store_word 32 b₁ 0) (hd ∙ ap (header_word r.unit) (sym (size s).0))) (omega arith) (last_stored ∙ ap (store_word 32 b₂ p.count) tl))
                (size s).2 (omega (arith, (size s).1))
