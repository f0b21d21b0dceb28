-- The parser of R's rows codes `rows`.
-- Assumes nothing.
use Prim.Native.Nat.{ℕ, ◌/◌, ◌%◌}
use native.Mathlib.Omega.{arith}
use mathlib.Core.Path.{◌≡◌, refl, sym, subst}
use mathlib.Core.Bool.{Bool, false}
use mathlib.Core.List.{List, [], ◌∷◌}
use lib.Dec.{T, eqb→eq}
use lib.ListN.{length, length-map}
use Rattle.event.specs.declared.Row.{Row}
use Rattle.event.specs.Parser.{Parser, Passed, ended, ◌>>=◌, give, finish, lastly, alone}
use Rattle.event.specs.Writing.{of_kind}
use Rattle.event.proofs.Codes.{Codes, any, At, T_true, same, codes_finish}
use Rattle.event.proofs.Sequences.{codes_bind, codes_image}
use Rattle.event.proofs.Many.{codes_times}
use Rattle.event.proofs.Elements.{both, prints_map, goods_all, all_goods, each_length}
use Rattle.event.proofs.RowCodes.{codes_row, codes_row_at}
use Rattle.rcnp_layout.specs.Event.{VdcWord, head, datum, Form, input_register, scaler, vdc, opaque, Content, Region, sum_id}
use Rattle.rcnp_layout.specs.Layout.{scaler_words, vdc_word, content_words, summed, region_row, word_row, scaler_row, next_index, vdc_row, content_rows, region_rows, sum_rows, rows, allowed_size, word_checks, scaler_checks, vdc_checks, begins, ValidVdc, ValidContent, ValidRegion, Formed}
use Rattle.rcnp_layout.specs.Reading.{Header}
use Rattle.rcnp_layout.specs.Writing.{word, scaler_at, vdc_of, vdc_stands, vdc_value, content, header_of, header_row, header_checks, header, region, sum_region, at_sum, parts_with}
use Rattle.rcnp_layout.proofs.Sizes.{header_in, form_back, not_sum, size_allowed}
use Rattle.rcnp_layout.proofs.Event.{ValidParts, codes_anything, codes_event}
use Rattle.rcnp_layout.proofs.Event as Event

pub codes_word : Codes any word (λ w. word_row w ∷ []) (λ w. Passed (word_checks 0 w))
codes_word = codes_row (of_kind 33) _ word_row (word_checks 22) (λ w. tt) (λ w g. refl)

pub codes_scaler : (index : ℕ) → Codes any (scaler_at index) (λ v. scaler_row index v ∷ []) (λ v. Passed (scaler_checks 0 v))
codes_scaler index = codes_row (of_kind 34) _ (scaler_row index) (scaler_checks 22) (λ v. tt) (λ v g. refl)

pub codes_vdc : (begun : Bool) → Codes any (vdc_value begun) (λ x. vdc_row x ∷ []) (ValidVdc begun)
codes_vdc begun = codes_row_at (vdc_stands begun) vdc_of vdc_row (vdc_checks 22 begun) stands back
  where
    stands : (x : VdcWord) → ValidVdc begun x → T (vdc_stands begun (vdc_row x))
    stands (head moduleId eventNumber mode) p = tt
    stands (datum channel time) p = rw (T_true begun (both begun _ p.0).0) tt

    back : (x : VdcWord) → ValidVdc begun x → vdc_of (vdc_row x) ≡ x
    back (head moduleId eventNumber mode) p = refl
    back (datum channel time) p = refl

-- as many rows as the size says
codes_content : (f : Form) (n : ℕ) → T (allowed_size f n) → Codes any (content f n) (content_rows f) (λ c. (length (content_words f c) ≡ n) × ValidContent f c)
codes_content input_register n a = same codes_word (λ w g. (sym (eqb→eq n 1 a), g)) (λ w g. g.1) (λ w g. refl)
codes_content scaler n a = same (codes_times next_index codes_scaler (n / 2) 0)
    (λ vs g. (omega (arith, g.0, each_length scaler_words 2 (λ v. refl) vs, eqb→eq (n % 2) 0 a), goods_all _ next_index 0 vs g.1))
    (λ vs g. (omega (arith, g.0, each_length scaler_words 2 (λ v. refl) vs), all_goods _ next_index 0 vs g.1))
    (λ vs g. refl)
codes_content vdc n a = same (codes_times begins codes_vdc n false) (λ xs g. (rw (length-map xs vdc_word) g.0, g.1)) (λ xs g. (rw (length-map xs vdc_word) at g.0, g.1))
    (λ xs g. prints_map vdc_row begins false xs)
codes_content (opaque k) n a = same (codes_times alone (λ u. codes_word) n tt) (λ ws g. (g.0, goods_all _ alone tt ws g.1)) (λ ws g. (g.0, all_goods _ alone tt ws g.1))
    (λ ws g. prints_map word_row alone tt ws)

codes_header : Codes any header (λ h. header_row h ∷ []) (λ h. Passed (header_checks h))
codes_header = codes_row (of_kind 32) header_of header_row header_checks (λ h. tt) (λ h g. λ i. record { form = form_back h.form i; size = h.size })

codes_form : (h : Header) → Passed (header_checks h)
    → Codes any (content h.form h.size >>= λ c. give (record { form = h.form; content = c })) (λ g. content_rows g.form g.content)
    (λ (g : Region). (header_in g ≡ h) × ValidContent g.form g.content)
codes_form h k = same (codes_image (λ c. record { form = h.form; content = c }) (λ (g : Region). content_rows g.form g.content) (codes_content h.form h.size k.1.0) (λ c. refl))
    (λ g v. subst (λ (x : Region). (header_in x ≡ h) × ValidContent x.form x.content) (sym v.2) ((λ i. record { form = h.form; size = v.1.0 i }), v.1.1))
    (λ g v. subst (λ (x : Header). (c : Content x.form) × ((length (content_words x.form c) ≡ x.size) × ValidContent x.form c) × (g ≡ record { form = x.form; content = c }))
    v.0 (g.content, (refl, v.1), refl))
    (λ g v. refl)

pub codes_region : Codes any region region_rows ValidRegion
codes_region = same (codes_bind header_in codes_header codes_form (λ h g v. v.0))
    (λ g v. ((v.0.0, tt), v.1.1)) (λ g v. ((v.0.0, (size_allowed g.form g.content, tt)), (refl, v.1))) (λ g v. refl)

pub codes_sum : Codes any sum_region sum_rows (λ w. Passed (word_checks 0 w))
codes_sum = same (codes_bind (λ w. tt) (codes_row (of_kind 32) (λ r. tt) (λ u. region_row sum_id 1) (λ u. []) (λ u. tt) (λ u g. refl)) (λ u g. codes_word) (λ u w g. refl))
    (λ w g. g.1) (λ w g. (tt, g)) (λ w g. refl)

-- one event alone, and one in a run, whose check sum region ends it whatever follows
pub codes_parts : {Rest : List Row → Type 0} {last : Parser Row (Unit {0})} → Codes Rest last (λ u. []) (λ u. Unit {0}) → Codes Rest (parts_with last) rows ValidParts
codes_parts = Event.codes_parts at_sum codes_region codes_sum refl (λ g v r. not_sum g.form) (λ w r. tt)

pub codes_one : Codes (At ended) (lastly summed 22 (parts_with (finish 21))) rows Formed
codes_one = codes_event 22 (codes_parts (codes_finish 21))

pub codes_run : Codes any (lastly summed 22 (parts_with (give tt))) rows Formed
codes_run = codes_event 22 (codes_parts codes_anything)
