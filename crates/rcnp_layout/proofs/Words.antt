-- The parser of R's words codes `words`.
-- Assumes nothing.
use Prim.Native.Nat.{ℕ, ◌+◌, ◌*◌, ◌/◌, ◌%◌, ◌^◌}
use native.Mathlib.Omega.{arith}
use mathlib.Core.Path.{◌≡◌, refl, ap, sym, ◌∙◌, subst}
use mathlib.Core.Bool.{Bool, false}
use mathlib.Core.List.{List, [], ◌∷◌, ◌++◌, map}
use lib.Dec.{T, ltb, eqb, ltb→lt, lt→ltb}
use lib.ListN.{length}
use borrow.Author.Tests.{le-leb, lt-leb}
use Rattle.event.specs.Parser.{Parser, Passed, ended, give, finish, lastly}
use Rattle.event.proofs.Codes.{Codes, any, At, same, less, codes_here, codes_require, codes_within, codes_finish}
use Rattle.event.proofs.Sequences.{codes_bind, codes_map, codes_image}
use Rattle.event.proofs.Many.{codes_many}
use Rattle.event.proofs.Elements.{both, codes_layout, codes_below, codes_several, prints_map, each_alone}
use Rattle.rcnp_layout.specs.Event.{VdcWord, head, datum, Form, input_register, scaler, vdc, opaque, Content, Region, id_of, sum_id, form_of}
use Rattle.rcnp_layout.specs.Layout.{header_word, scaler_words, vdc_word, content_words, size_of, region_words, sum_words, words, summed, size_checks, allowed_size, word_checks, scaler_checks, vdc_checks, begins, ValidVdc, ValidContent, ValidRegion, Formed}
use Rattle.rcnp_layout.specs.Reading.{Header, header_of, header, filling, word, scaler_value, vdc_of, vdc_value, content, region_content, region, sum_region, at_sum, parts_with}
use Rattle.rcnp_layout.proofs.Sizes.{header_in, form_back, not_sum, size_allowed}
use Rattle.rcnp_layout.proofs.Event.{ValidParts, codes_anything, codes_event}
use Rattle.rcnp_layout.proofs.Event as Event

ruleset tests = (arith, ltb→lt, lt→ltb)

-- what fills a region of size n
codes_filling : {A : Type 0} {content : Parser ℕ A} {print : A → List ℕ} {Good : A → Type 0} (p n : ℕ) (allowed : Bool) → Codes (At ended) content print Good
    → Codes any (filling p n allowed content) print (λ a. (T allowed × Good a) × (length (print a) ≡ n))
codes_filling p n allowed c = codes_within 5 p n (codes_bind (λ a. tt) (codes_require allowed 7 p) (λ u g. c) (λ u a g. refl))

pub codes_word : Codes any word (λ w. w ∷ []) (λ w. Passed (word_checks 0 w))
codes_word = codes_below 10 (2 ^ 16)

pub codes_scaler : Codes any scaler_value scaler_words (λ v. Passed (scaler_checks 0 v))
codes_scaler = same
    (codes_bind (◌% 2 ^ 16) codes_word (λ low g. codes_map (λ high. high * 2 ^ 16 + low) (◌/ 2 ^ 16) (codes_below 10 (2 ^ 8)) (λ high. omega (arith, ltb→lt)))
    (λ low v g. omega (arith, g.1)))
    (λ v g. omega tests) (λ v g. omega tests) (λ v g. refl)

pub codes_vdc : (begun : Bool) → Codes any (vdc_value begun) (λ x. vdc_word x ∷ []) (ValidVdc begun)
codes_vdc begun = codes_layout 10 vdc_of vdc_word (vdc_checks 10 begun) back
  where
    back : (x : VdcWord) → ValidVdc begun x → vdc_of (vdc_word x) ≡ x
    back (head moduleId eventNumber mode) p =
        let h = both (ltb moduleId (2 ^ 8)) _ p.0 in
        let k = both (ltb eventNumber (2 ^ 3)) _ h.1 in
        let w = vdc_word (head moduleId eventNumber mode) in
        let a : w % 2 ^ 8 ≡ moduleId = omega (arith, ltb→lt) in
        let q : w / 2 ^ 11 ≡ 16 + eventNumber = omega (arith, ltb→lt) in
        let b : w / 2 ^ 11 % 2 ^ 3 ≡ eventNumber = rw q (omega (arith, ltb→lt)) in
        let s : w / 2 ^ 8 ≡ 128 + eventNumber * 8 + mode = omega (arith, ltb→lt) in
        let c : w / 2 ^ 8 % 2 ^ 3 ≡ mode = rw s (omega (arith, ltb→lt)) in
        rw (le-leb (2 ^ 15) w (omega arith), a, b, c)
    back (datum channel time) p =
        let h = both begun _ p.0 in
        let k = both (ltb channel (2 ^ 5)) _ h.1 in
        let w = vdc_word (datum channel time) in
        let a : w / 2 ^ 10 ≡ channel = omega (arith, ltb→lt) in
        let b : w % 2 ^ 10 ≡ time = omega (arith, ltb→lt) in
        rw (lt-leb (2 ^ 15) w (omega (arith, ltb→lt)), a, b)

codes_vdcs : Codes (At ended) (content vdc) (map vdc_word) (ValidContent vdc)
codes_vdcs = same (codes_many begins codes_vdc ended (λ st x g r. refl) refl false) (λ xs g. g) (λ xs g. g) (λ xs g. prints_map vdc_word begins false xs)

pub codes_content : (f : Form) → Codes (At ended) (content f) (content_words f) (ValidContent f)
codes_content input_register = less codes_word (λ r t. tt)
codes_content scaler = codes_several ended codes_scaler (λ v g r. refl) refl
codes_content vdc = codes_vdcs
codes_content (opaque k) = same (codes_several ended codes_word (λ w g r. refl) refl) (λ ws g. g) (λ ws g. g) (λ ws g. each_alone ws)

codes_form : (f : Form) → Codes (At ended) (region_content f) (λ g. content_words g.form g.content) (λ (g : Region). (g.form ≡ f) × ValidContent g.form g.content)
codes_form f = same (codes_image (λ c. record { form = f; content = c }) (λ (g : Region). content_words g.form g.content) (codes_content f) (λ c. refl))
    (λ g v. subst (λ (x : Region). (x.form ≡ f) × ValidContent x.form x.content) (sym v.2) (refl, v.1))
    (λ g v. subst (λ (x : Form). (c : Content x) × ValidContent x c × (g ≡ record { form = x; content = c })) v.0 (g.content, v.1, refl))
    (λ g v. refl)

-- the two fields of a header
header_parts : (id size : ℕ) → Passed (size_checks 0 size) → (header_word id size / 2 ^ 12 ≡ id) × (header_word id size % 2 ^ 12 ≡ size)
header_parts id size p = omega (arith, ltb→lt)

codes_header : Codes any header (λ h. header_word (id_of h.form) h.size ∷ []) (λ h. Passed (size_checks 0 h.size))
codes_header = codes_layout 6 header_of (λ h. header_word (id_of h.form) h.size) (λ h. size_checks 6 h.size) back
  where
    back : (h : Header) → Passed (size_checks 0 h.size) → header_of (header_word (id_of h.form) h.size) ≡ h
    back h p =
        let e = header_parts (id_of h.form) h.size p in
        let f = ap form_of e.0 ∙ form_back h.form in
        λ i. record { form = f i; size = e.1 i }

pub codes_region : Codes any region region_words ValidRegion
codes_region = codes_here λ p. same
    (codes_bind header_in codes_header (λ h g. codes_filling p h.size (allowed_size h.form h.size) (codes_form h.form)) (λ h g v. λ i. record { form = v.0.1.0 i; size = v.1 i }))
    (λ g v. (v.0, v.1.0.1.1)) (λ g v. (v.0, ((size_allowed g.form g.content, (refl, v.1)), refl))) (λ g v. refl)

pub codes_sum : Codes any sum_region sum_words (λ w. Passed (word_checks 0 w))
codes_sum = codes_here λ p. same
    (codes_bind (λ w. 1) (codes_layout 6 (◌% 2 ^ 12) (header_word sum_id) (size_checks 6) (λ n g. (header_parts sum_id n g).1))
    (λ n g. codes_filling p n (eqb n 1) (less codes_word (λ r t. tt))) (λ n w g. g.1))
    (λ w g. g.1.0.1) (λ w g. ((tt, tt), ((tt, g), refl))) (λ w g. refl)

pub on : (g : Region) → ValidRegion g → (r : List ℕ) → at_sum (region_words g ++ r) ≡ false
on g v r = rw (header_parts (id_of g.form) (size_of g) v.0).0 (not_sum g.form)

-- one event alone, and one in a run, whose check sum region ends it whatever follows
pub codes_parts : {Rest : List ℕ → Type 0} {last : Parser ℕ (Unit {0})} → Codes Rest last (λ u. []) (λ u. Unit {0}) → Codes Rest (parts_with last) words ValidParts
codes_parts = Event.codes_parts at_sum codes_region codes_sum refl on (λ w r. tt)

pub codes_one : Codes (At ended) (lastly summed 13 (parts_with (finish 6))) words Formed
codes_one = codes_event 13 (codes_parts (codes_finish 6))

pub codes_run : Codes any (lastly summed 13 (parts_with (give tt))) words Formed
codes_run = codes_event 13 (codes_parts codes_anything)
