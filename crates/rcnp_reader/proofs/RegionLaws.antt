-- A region, by the words that fill it. Over plain values.
-- Assumes nothing.
use Prim.Native.Nat.{ℕ, zero, suc, ◌+◌, ◌-◌, ◌%◌, ◌^◌, ◌≤◌, ◌<◌}
use native.Mathlib.Omega.{arith}
use mathlib.Core.Path.{◌≡◌, refl, ap, sym, ◌∙◌}
use mathlib.Core.List.{List, [], ◌∷◌, ◌++◌, map, map-map, append-nil}
use lib.Dec.{lt→ltb, eqb→eq}
use lib.ListN.{length, get_or, drop, take, length-map}
use lib.Seq.{slice, slice_empty, length-slice}
use Rattle.std.specs.Prelude.{Ok, Err}
use Rattle.event.specs.declared.refusal.Refusal.{Refusal}
use Rattle.event.specs.declared.Part.{Part}
use Rattle.event.specs.Refusal.{part}
use Rattle.event.specs.Parser.{Result, ok, refuse, ended, alone, Passed, All}
use Rattle.event.specs.Rows.{store_row}
use Rattle.event.specs.Scanning.{store_rows, Scanned, Whole}
use Rattle.event.proofs.Ends.{ends_many}
use Rattle.event.proofs.Impossible.{impossible}
use Rattle.event.proofs.Leads.{refused_scan}
use Rattle.event.proofs.Loops.{at_end}
use Rattle.event.proofs.Turns.{at_word}
use Rattle.rcnp_layout.specs.Event.{Form, input_register, scaler, vdc, opaque, Content, id_of}
use Rattle.rcnp_layout.specs.Layout.{content_words, word_row, vdc_row, content_rows, region_row, region_rows, word_checks, ValidContent}
use Rattle.rcnp_layout.specs.Reading.{scaler_value, vdc_of, content, region}
use Rattle.rcnp_layout.proofs.RowCount.{in_content}
use Rattle.rcnp_layout.proofs.Words.{codes_content}
use Rattle.rcnp_format.specs.Form.{form}
use Rattle.rcnp_format.specs.declared.Form as code
use Rattle.rcnp_format.specs.declared.Form.TheVariants as is
use Rattle.rcnp_reader.specs.declared.Opened.{Opened}
use Rattle.rcnp_reader.specs.declared.Opened.TheVariants as opened
use Rattle.rcnp_reader.specs.declared.Opened.TheVariants.{Chamber}
use Rattle.rcnp_reader.specs.Regions.{vdc_word_row, Headed, Opens}
use Rattle.rcnp_reader.proofs.Headers.{OfForm, of_form, of_content}

module _ {ws : List ℕ} {i : ℕ} {f : Form} {end : ℕ} (h : OfForm ws i f end) where
  pub content_refused : {n p : ℕ} → content f (i + 1) (slice (i + 1) end ws) ≡ refuse n p → region i (drop i ws) ≡ refuse n p
  content_refused e = of_content h ∙ rw e

  -- its own row, then those of its content
  module _ (c : Content f) (e : content f (i + 1) (slice (i + 1) end ws) ≡ ok c end []) where
    filled_words : length (content_words f c) ≡ get_or ws i 0 % 2 ^ 12
    filled_words =
        let s = ((codes_content f).sound (i + 1) (slice (i + 1) end ws) c end [] e).1 in
        omega (arith, ap length (s ∙ append-nil (content_words f c)), length-slice (i + 1) end ws h.inside, h.extent)

    pub content_read : {k count : ℕ} {b b₁ b₂ : List ℕ} → k ≤ i → b₁ ≡ store_row b k (region_row (id_of f) (get_or ws i 0 % 2 ^ 12)) → b₂ ≡ store_rows b₁ (k + 1) (content_rows f c)
        → count ≡ k + 1 + length (content_rows f c) → Whole region_rows (region i (drop i ws)) ws k b b₂ end count
    content_read {k} {count} {b} {b₁} l own s n =
        let rows = content_rows f c in
        record {
          value = record { form = f; content = c };
          parsed = of_content h ∙ rw e;
          inside = h.inside;
          few = omega (arith, n, in_content f c, filled_words, h.extent);
          counted = omega (arith, n);
          stored = s ∙ ap (λ (l : List ℕ). store_rows l (k + 1) rows) (own ∙ ap (λ (m : ℕ). store_row b k (region_row (id_of f) m)) (sym filled_words));
        }

-- a content that is valid, and whose words are those there, is read
content_there : (ws : List ℕ) (first end : ℕ) → first ≤ end → end ≤ length ws → (f : Form) (c : Content f) → ValidContent f c → content_words f c ≡ slice first end ws
    → content f first (slice first end ws) ≡ ok c end []
content_there ws first end l m f c g e =
    let k = (codes_content f).complete c g first [] tt in
    let p = ((codes_content f).sound first (content_words f c ++ []) c k.0 [] k.1).2 in
    let j : k.0 ≡ end = omega (arith, p, ap length e, length-slice first end ws m) in
    ap (content f first) (sym e ∙ sym (append-nil (content_words f c))) ∙ k.1 ∙ rw j

-- words of 16 bits
abbrev Words : List ℕ → Type 0
Words = All (λ w. Passed (word_checks 0 w))

words_take : (n : ℕ) (l : List ℕ) → Words l → Words (take n l)
words_take zero l a = tt
words_take (suc n) [] a = tt
words_take (suc n) (x ∷ l) a = (a.0, words_take n l a.1)

words_drop : (n : ℕ) (l : List ℕ) → Words l → Words (drop n l)
words_drop zero l a = a
words_drop (suc n) [] a = tt
words_drop (suc n) (x ∷ l) a = words_drop n l a.1

all_words : (l : List ℕ) → ((j : ℕ) → get_or l j 0 < 2 ^ 16) → Words l
all_words [] f = tt
all_words (x ∷ l) f = ((lt→ltb x (2 ^ 16) (f 0), tt), all_words l (λ j. f (suc j)))

-- a row for each word: the input register and the opaque regions
record WordsRead (ws : List ℕ) (first end : ℕ) (f : Form) : Type 0 where
  value : Content f
  parsed : content f first (slice first end ws) ≡ ok value end []
  rows : content_rows f value ≡ map word_row (slice first end ws)

words_content : (ws : List ℕ) (i end : ℕ) → ((j : ℕ) → get_or ws j 0 < 2 ^ 16) → (f : Form) → OfForm ws i f end → (f ≡ vdc → ⊥) → (f ≡ scaler → ⊥) → WordsRead ws (i + 1) end f
words_content ws i end fits input_register h u v =
    let size = eqb→eq (get_or ws i 0 % 2 ^ 12) 1 h.allowed in
    let last : suc (i + 1) ≡ end = omega (arith, h.extent) in
    let one : slice (i + 1) end ws ≡ get_or ws (i + 1) 0 ∷ [] = at_word ws (i + 1) end (omega arith) h.inside ∙ rw (last, slice_empty end ws) in
    record {
      value = get_or ws (i + 1) 0;
      parsed = content_there ws (i + 1) end (omega arith) h.inside input_register (get_or ws (i + 1) 0) (lt→ltb (get_or ws (i + 1) 0) (2 ^ 16) (fits (i + 1)), tt) (sym one);
      rows = rw one;
    }
words_content ws i end fits scaler h u v = absurd (v refl)
words_content ws i end fits vdc h u v = absurd (u refl)
words_content ws i end fits (opaque k) h u v = record {
  value = slice (i + 1) end ws;
  parsed = content_there ws (i + 1) end (omega (arith, h.extent)) h.inside (opaque k) (slice (i + 1) end ws) (words_drop (i + 1) (take end ws) (words_take end ws (all_words ws fits))) refl;
  rows = refl;
}

-- the header at i is good, and the region's own row is stored
pub record RowStored (ws : List ℕ) (i k : ℕ) (f : Form) (size : ℕ) (b b₁ : List ℕ) : Type 0 where
  pub headed : Headed ws i f size
  pub few : k ≤ i
  pub own : b₁ ≡ store_row b k (region_row (id_of f) size)

module _ {ws : List ℕ} {i k size : ℕ} {f : Form} {b b₁ : List ℕ} (h : RowStored ws i k f size b b₁) where
  form_here : OfForm ws i f (i + 1 + size)
  form_here = of_form h.headed

  form_row : b₁ ≡ store_row b k (region_row (id_of f) (get_or ws i 0 % 2 ^ 12))
  form_row = h.own ∙ rw h.headed.in_bits.1

  pub opens_words : {b₂ : List ℕ} → ((j : ℕ) → get_or ws j 0 < 2 ^ 16) → (f ≡ vdc → ⊥) → (f ≡ scaler → ⊥) → b₂ ≡ store_rows b₁ (k + 1) (map word_row (slice (i + 1) (i + 1 + size) ws))
      → Opens ws i k b b₂ (Ok (opened.Whole (part (i + 1 + size) (k + 1 + (i + 1 + size - (i + 1))))))
  opens_words fits u v s =
      let l = slice (i + 1) (i + 1 + size) ws in
      let w = words_content ws i (i + 1 + size) fits f form_here u v in
      record {
        opened = content_read form_here w.value w.parsed h.few form_row (s ∙ ap (store_rows b₁ (k + 1)) (sym w.rows))
            (omega (arith, ap length w.rows, length-map l word_row, length-slice (i + 1) (i + 1 + size) ws h.headed.inside));
      }

-- the other forms, by the code's
pub not_vdc : (f : code.Form) → (f ≡ is.Vdc → ⊥) → form f ≡ vdc → ⊥
not_vdc is.Vdc h e = h refl
not_vdc is.InputRegister h e = impossible cc
not_vdc is.Adc h e = impossible cc
not_vdc is.Tdc h e = impossible cc
not_vdc is.Scaler h e = impossible cc
not_vdc is.Pcos h e = impossible cc
not_vdc is.AdcLas h e = impossible cc
not_vdc is.TdcLas h e = impossible cc
not_vdc is.Fera h e = impossible cc
not_vdc is.Feret h e = impossible cc

pub not_scaler : (f : code.Form) → (f ≡ is.Scaler → ⊥) → form f ≡ scaler → ⊥
not_scaler is.Scaler h e = h refl
not_scaler is.InputRegister h e = impossible cc
not_scaler is.Adc h e = impossible cc
not_scaler is.Tdc h e = impossible cc
not_scaler is.Vdc h e = impossible cc
not_scaler is.Pcos h e = impossible cc
not_scaler is.AdcLas h e = impossible cc
not_scaler is.TdcLas h e = impossible cc
not_scaler is.Fera h e = impossible cc
not_scaler is.Feret h e = impossible cc

-- scalers
module _ {ws : List ℕ} {i k size : ℕ} {b b₁ : List ℕ} (h : RowStored ws i k scaler size b b₁) where
  abbrev end : ℕ
  end = i + 1 + size

  here : OfForm ws i scaler end
  here = form_here h

  module _ {b₂ : List ℕ} where
    pub scalers_refused : {r : Refusal} → Scanned (content_rows scaler) (content scaler (i + 1) (slice (i + 1) end ws)) (k + 1) b₁ (Err r) b₂ → Opens ws i k b b₂ (Err r)
    scalers_refused s =
        let t = refused_scan (content_rows scaler) (content scaler (i + 1) (slice (i + 1) end ws)) s in
        record { opened = record { number = t.number; place = t.place; refused = content_refused here t.refused; named = t.named } }

    pub opens_scalers : {count : ℕ} → Scanned (content_rows scaler) (content scaler (i + 1) (slice (i + 1) end ws)) (k + 1) b₁ (Ok count) b₂ → Opens ws i k b b₂ (Ok (opened.Whole (part end count)))
    opens_scalers {count} s = go (content scaler (i + 1) (slice (i + 1) end ws)) refl s
      where
        go : (x : Result ℕ (List ℕ)) → content scaler (i + 1) (slice (i + 1) end ws) ≡ x → Scanned (content_rows scaler) x (k + 1) b₁ (Ok count) b₂ → Opens ws i k b b₂ (Ok (opened.Whole (part end count)))
        go (refuse m q) d t = let a = t.answered in impossible cc
        go (ok vs j l) d t =
            let a = t.answered in
            let n : count ≡ k + 1 + length (content_rows scaler vs) = cc in
            let read = at_end (codes_content scaler) (ends_many ended (λ u. scaler_value) alone tt) (i + 1) end ws (omega arith) here.inside vs j l d in
            record { opened = content_read here vs read h.few (form_row h) t.stored n }

-- what a region was opened as
module _ {ws : List ℕ} {i k : ℕ} {b b₁ : List ℕ} {o : Opened} (s : Opens ws i k b b₁ (Ok o)) where
  pub opened_whole : {p : Part} → o ≡ opened.Whole p → Whole region_rows (region i (drop i ws)) ws k b b₁ p.next p.count
  opened_whole e = (rw e at s).opened

  pub opened_chamber : {end : ℕ} → o ≡ Chamber end → Opens ws i k b b₁ (Ok (Chamber end))
  opened_chamber e = rw e at s

-- a VDC region, by its words
module _ {ws : List ℕ} {i k end : ℕ} {b b₁ : List ℕ} (o : Opens ws i k b b₁ (Ok (Chamber end))) where
  pub chamber_inside : (i + 1 ≤ end) × (end ≤ length ws)
  chamber_inside = omega (arith, o.opened.0.inside, o.opened.1)

  chamber_form : OfForm ws i vdc end
  chamber_form = let z : i + 1 + (end - (i + 1)) ≡ end = omega (arith, o.opened.1) in rw z at (of_form o.opened.0)

  pub chamber_refused : {n p : ℕ} → content vdc (i + 1) (slice (i + 1) end ws) ≡ refuse n p → region i (drop i ws) ≡ refuse n p
  chamber_refused e = content_refused chamber_form e

  pub chamber_taken : {b₂ : List ℕ} → k ≤ i → content vdc (i + 1) (slice (i + 1) end ws) ≡ ok (map vdc_of (slice (i + 1) end ws)) end []
      → b₂ ≡ store_rows b₁ (k + 1) (map vdc_word_row (slice (i + 1) end ws)) → Whole region_rows (region i (drop i ws)) ws k b b₂ end (k + 1 + (end - (i + 1)))
  chamber_taken few e s =
      let l = slice (i + 1) end ws in
      let own : b₁ ≡ store_row b k (region_row (id_of vdc) (get_or ws i 0 % 2 ^ 12)) = rw o.opened.0.in_bits.1 o.opened.2 in
      content_read chamber_form (map vdc_of l) e few own (s ∙ ap (store_rows b₁ (k + 1)) (sym (map-map vdc_row vdc_of l)))
      (omega (arith, length-map (map vdc_of l) vdc_row, length-map l vdc_of, length-slice (i + 1) end ws chamber_inside.1))
