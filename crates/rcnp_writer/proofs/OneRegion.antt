-- One region, judged: its own row, then its content by its form. Over plain values.
-- Assumes nothing.
use Rattle.std.proofs.Common.{◌≡◌, ℕ, ◌+◌, ◌/◌, ◌<◌, false, T, List, [], ◌∷◌, map, length, get_or, drop, sym, refl, ap, ◌∙◌, arith, eqb→eq}
use Rattle.std.specs.Prelude.{Err}
use Rattle.event.specs.declared.refusal.Refusal.{Refusal}
use Rattle.event.specs.Refusal.{PartAnswer}
use Rattle.event.proofs.Answers.{Failed}
use Rattle.event.specs.declared.Row.{Row}
use Rattle.event.specs.Parser.{Result, ok, refuse, then, give, times, each, alone}
use Rattle.event.specs.Words.{word_alone}
use Rattle.event.specs.Writing.{of_kind, no_row}
use Rattle.event.proofs.Elements.{each_map, each_alone}
use Rattle.event.proofs.RowJudged.{rows_from_lem, row_taken, row_refused}
use Rattle.event.proofs.WritingTurns.{writes_part, writes_as, writes_refused}
use Rattle.rcnp_layout.specs.Event.{Form, input_register, scaler, vdc, opaque, Content, Region, id_of, form_of}
use Rattle.rcnp_layout.specs.Layout.{header_word, scaler_words, vdc_word, content_words, size_of, region_words, region_row, next_index, allowed_size, begins}
use Rattle.rcnp_layout.specs.Writing.{word, scaler_at, vdc_value, content, header_of, header_row, header_checks, header, region}
use Rattle.rcnp_layout.proofs.Rows.{codes_region}
use Rattle.rcnp_writer.specs.Faults.{header_fault}
use Rattle.rcnp_writer.specs.Parts.{vdc_words, ContentAt, Counts}
use Rattle.rcnp_writer.proofs.Contents.{none}
use Rattle.rcnp_writer.proofs.RowRules.{header_judged}

-- one word, of the rows that a count of 1 announces
one_word : (x : Result Row ℕ) {rs : List Row} {k : ℕ} {r : PartAnswer} → Counts (each word_alone) (then (λ w. give (w ∷ [])) x) rs k r → Counts word_alone x rs k r
one_word (ok w j l) s = record { scanned = record { answered = s.scanned.answered; stored = s.scanned.stored }; within = s.within }
one_word (refuse n p) s = record { scanned = record { answered = s.scanned.answered; stored = tt }; within = s.within }

-- the content from row `first` on, of the form that the id has
module _ (rs : List Row) (first n : ℕ) where
  abbrev ContentIn : Form → PartAnswer → Type 0
  ContentIn f = Counts (content_words f) (content f n first (drop first rs)) rs 1

  pub scalers_content : (id : ℕ) {r : PartAnswer} → id ≡ 6
      → Counts (each scaler_words) (times scaler_at next_index (n / 2) 0 first (drop first rs)) rs 1 r → ContentIn (form_of id) r
  scalers_content id e w = rw e w

  pub chamber_content : (id : ℕ) {r : PartAnswer} → id ≡ 7
      → Counts (each vdc_words) (times vdc_value begins n false first (drop first rs)) rs 1 r → ContentIn (form_of id) r
  chamber_content id e w = rw e (writes_as 16 (each vdc_words) (map vdc_word) (times vdc_value begins n false first (drop first rs)) (λ xs j l p. each_map vdc_word xs) w)

  abbrev WordsIn : PartAnswer → Type 0
  WordsIn = Counts (each word_alone) (times (λ u. word) alone n tt first (drop first rs)) rs 1

  as_words : (f : Form) {r : PartAnswer} → (id_of f ≡ 6 → ⊥) → (id_of f ≡ 7 → ⊥) → T (allowed_size f n) → WordsIn r → ContentIn f r
  as_words input_register p q t w = let e : n ≡ 1 = eqb→eq n 1 t in one_word (word first (drop first rs)) (rw e at w)
  as_words scaler p q t w = absurd (p refl)
  as_words vdc p q t w = absurd (q refl)
  as_words (opaque k) p q t w = writes_as 16 (each word_alone) (λ ws. ws) (times (λ u. word) alone n tt first (drop first rs)) (λ ws j l p. each_alone ws) w

  pub words_content : {id : ℕ} {r : PartAnswer} → ContentAt rs first id n → (id ≡ 6 → ⊥) → (id ≡ 7 → ⊥) → WordsIn r → ContentIn (form_of id) r
  words_content {id} a p q = as_words (form_of id) (λ e. p (a.known ∙ e)) (λ e. q (a.known ∙ e)) a.allowed

module _ (rs : List Row) (at : ℕ) {r : Row} (e : r ≡ get_or rs at no_row) where
  abbrev RegionIn : PartAnswer → Type 0
  RegionIn = Counts region_words (region at (drop at rs)) rs 0

  pub header_refused : {refused : Refusal} → Failed (header_fault r) at refused → RegionIn (Err refused)
  unfolding header_fault
  header_refused t = writes_refused 16 region_words (record {
    number = header_fault r;
    place = at;
    refused = rw (row_refused (of_kind 32) header_of header_row header_checks refl (λ h. (tt, (tt, tt))) rs at e refl t.some);
    named = t.named;
  }) refl

  module _ (f : 0 ≡ header_fault r) where
    header_taken : (at < length rs) × (header at (drop at rs) ≡ ok (header_of r) (at + 1) (drop (at + 1) rs))
    unfolding header_fault
    header_taken = row_taken (of_kind 32) header_of header_row header_checks refl (λ h. (tt, (tt, tt))) rs at e f

    pub content_there : ContentAt rs (at + 1) r.unit r.channel
    content_there = let k = (header_judged r).kept f in record { some = omega arith; inside = omega (arith, header_taken.0); known = k.2.0; allowed = k.2.1 }

    -- the header's word is that of the id and of the number of words that follow
    same_words : (g : Region) (j : ℕ) (l : List Row) → region at (drop at rs) ≡ ok g j l → header_word r.unit r.channel ∷ content_words g.form g.content ≡ region_words g
    same_words g j l p =
        let s = (codes_region.sound at (drop at rs) g j l p).1 in
        let x : region_row (id_of g.form) (size_of g) ≡ r = cc (s, rows_from_lem rs at header_taken.0, e) in
        ap (λ (y : Row). header_word y.unit y.channel ∷ content_words g.form g.content) (sym x)

    -- the words of a region behind this header
    abbrev headed : Region → List ℕ
    headed g = header_word r.unit r.channel ∷ content_words g.form g.content

    abbrev inner : Result Row (Content (form_of r.unit))
    inner = content (form_of r.unit) r.channel (at + 1) (drop (at + 1) rs)

    parsed : region at (drop at rs) ≡ then (λ c. give (record { form = form_of r.unit; content = c })) inner
    parsed = rw header_taken.1

    pub region_judged : {x : PartAnswer} → Counts (content_words (form_of r.unit)) inner rs 1 x → RegionIn x
    region_judged s = writes_as 16 headed region_words (region at (drop at rs)) same_words
        (rw parsed (writes_part 16 (content_words (form_of r.unit)) (header_word r.unit r.channel ∷ []) inner (λ c. record { form = form_of r.unit; content = c }) headed
        (λ c. refl {a = headed (record { form = form_of r.unit; content = c })}) refl (none 0 (header_word r.unit r.channel ∷ [])) s))
