-- The parser of S's words codes `words`.
-- Assumes nothing.
use Prim.Native.Nat.{ℕ, ◌+◌, ◌-◌, ◌/◌, ◌%◌, ◌^◌, ◌≤◌}
use native.Mathlib.Omega.{arith}
use mathlib.Core.Path.{◌≡◌, refl, ap, sym, subst}
use mathlib.Core.Bool.{Bool, true, false}
use mathlib.Core.List.{List, [], ◌∷◌, ◌++◌, map}
use lib.Dec.{T, ltb, leb, eqb, ltb→lt, leb→le}
use lib.ListN.{length, length-append}
use lib.Pow.{high, low}
use borrow.Author.Tests.{eqb-true, eqb-false, lt-ltb, le-leb, lt-leb}
use Rattle.event.specs.Parser.{Parser, Passed, ended, ◌>>=◌, give, All, several, each}
use Rattle.event.specs.Words.{below_checks}
use Rattle.event.proofs.Codes.{Codes, any, At, true_T, same, less, codes_here, codes_require, codes_within, codes_cond, codes_checked}
use Rattle.event.proofs.Sequences.{codes_bind, codes_map, codes_image}
use Rattle.event.proofs.Many.{codes_many}
use Rattle.event.proofs.Elements.{codes_layout, codes_exactly, codes_any, codes_below, prints_map, prints_each, codes_several, each_alone, codes_several_at}
use Rattle.s800_layout.specs.Event.{Datum, Trigger, Pair, SampleHead, SampleDatum, Samples, Anode, Crdc, Registers, Hodoscope, energies, hits, Adc, Form, trigger}
use Rattle.s800_layout.specs.Event.{time_of_flight, scintillator, ion_chamber, crdc, hodoscope, object_pin, vme_adc, opaque, Content, Packet, Stamp, Number, stamp_tag, number_tag}
use Rattle.s800_layout.specs.Event.{energies_tag, samples_tag, anode_tag, tag, form_of, id_of, pattern_bound, ChannelFormat, trigger_time, flight_time, pair_energy, energy16}
use Rattle.s800_layout.specs.Event.{adc_energy, Group}
use Rattle.s800_layout.specs.Layout.{framed, channel_word, datum_word, pair_words, sample_head_word, sample_datum_word, samples_words, anode_words, register_words, content_words}
use Rattle.s800_layout.specs.Layout.{packet_words, stamp_words, number_words, stamp_checks, number_checks, id_checks, datum_checks, sample_head_checks, sample_datum_checks, anode_checks}
use Rattle.s800_layout.specs.Layout.{register_checks, channels, pair_channels, ValidDatum, ValidData, ValidPair, ValidContent, group_words, ValidSampleDatum, has_data}
use Rattle.s800_layout.specs.Layout.{ValidGroup}
use Rattle.s800_layout.specs.Reading.{allowed_length, packet_of, inner, whole, id_word, datum_of, datum, channel_words, pair, sample_head_of, sample_datum_of, samples, anode}
use Rattle.s800_layout.specs.Reading.{registers, hits_content, energies_content, content, packet, stamp_packet, number_packet, sample_datum, is_at_head, group}
use Rattle.s800_layout.proofs.Lengths.{length_allowed, form_back}
use Rattle.s800_layout.proofs.Groups.{codes_grouped}

-- a packet: its form is a part of its value; its length and content fit each other
module _ {F A : Type 0} {tagWord : Parser ℕ F} {content : F → ℕ → ℕ → Parser ℕ A} {tag_of : F → ℕ} {body : A → List ℕ} {Good : ℕ → A → Type 0}
    (allowed : F → ℕ → Bool) (form : A → F) (c-tag : Codes any tagWord (λ f. tag_of f ∷ []) (λ f. Unit {0}))
    (c-content : (f : F) (p n : ℕ) → Codes (At ended) (content f p n) body (λ a. (form a ≡ f) × Good n a)) where
  codes_packet_of : Codes any (packet_of tagWord allowed content) (λ a. framed (tag_of (form a)) (body a))
      (λ a. T (allowed (form a) (2 + length (body a))) × Good (2 + length (body a)) a)
  codes_packet_of = codes_here λ p. same
      (codes_bind (λ a. 2 + length (body a)) (codes_any 5) (λ n u.
      codes_bind (λ a. tt) (codes_require (leb 2 n) 5 p) (λ u g. codes_within 5 p (n - 1)
      (codes_bind form c-tag (λ f u. codes_bind (λ a. tt) (codes_require (allowed f n) 7 p) (λ u g. c-content f p n) (λ u a g. refl)) (λ f a g. g.1.0)))
      (λ u a g. refl))
      (λ n a g. omega (arith, g.1.1)))
      (λ a g. (g.1.1.0.1.0, g.1.1.0.1.1.1))
      (λ a g. (tt, (true_T (leb 2 (2 + length (body a))) (le-leb 2 (2 + length (body a)) (omega arith)), ((tt, (g.0, (refl, g.1))), omega arith))))
      (λ a g. refl)

codes_inner : {A : Type 0} {p : Parser ℕ A} {print : A → List ℕ} {Good : A → Type 0} (n t : ℕ) → Codes (At ended) p print Good
    → Codes any (inner n t p) (λ a. framed t (print a)) (λ a. Good a × (2 + length (print a) ≡ n))
codes_inner {print = print} n t c = codes_here λ k. same
    (codes_bind (λ a. tt) (codes_exactly 9 n) (λ u g. codes_within 9 k (n - 1) (codes_bind (λ a. tt) (codes_exactly 9 t) (λ u g. c) (λ u a g. refl))) (λ u a g. refl))
    (λ a g. (g.1.0.1, omega (arith, g.1.1))) (λ a g. (tt, ((tt, g.0), omega (arith, g.1))))
    (λ a g. let e : n ≡ 2 + length (print a) = omega (arith, g.1.1) in ap (λ (m : ℕ). m ∷ t ∷ print a) e)

pub codes_whole : Codes any whole (λ w. w ∷ []) (λ w. Passed (below_checks 0 (2 ^ 16) w))
codes_whole = codes_below 10 (2 ^ 16)

codes_id : (f : Form) → Codes any (id_word f) (λ w. w ∷ []) (λ w. Passed (id_checks 0 f w))
codes_id f = codes_layout 8 (λ w. w) (λ w. w) (id_checks 8 f) (λ w p. refl)

pub codes_datum : (f : ChannelFormat) (seen : List ℕ) → Codes any (datum f seen) (λ d. datum_word f d ∷ []) (ValidDatum f seen)
codes_datum f seen = codes_layout 10 (datum_of f) (datum_word f) (datum_checks 10 11 f seen) back
  where
    back : (d : Datum) → ValidDatum f seen d → datum_of f (datum_word f d) ≡ d
    back d v =
        let small = ltb→lt d.value (2 ^ f.bits) v.1.0 in
        let c = high d.channel f.bits small in
        let e = low d.channel f.bits small in
        λ i. record { channel = c i; value = e i }

codes_channels : (f : ChannelFormat) → Codes (At ended) (channel_words f) (map (datum_word f)) (ValidData f)
codes_channels f = same (codes_many channels (codes_datum f) ended (λ st d g r. refl) refl []) (λ xs g. g) (λ xs g. g) (λ xs g. prints_map (datum_word f) channels [] xs)

pub codes_pair : (seen : List ℕ) → Codes any (pair seen) pair_words (ValidPair seen)
codes_pair seen = same
    (codes_bind (λ x. x.energy) (codes_datum pair_energy seen) (λ e g.
    codes_map _ (λ x. x.time) (codes_layout 10 (◌% 2 ^ 12) (channel_word pair_energy e.channel) (below_checks 10 (2 ^ 12)) (λ t p. omega (arith, ltb→lt))) (λ t. refl))
    (λ e x g. ap (λ (y : Pair). y.energy) g.1))
    (λ x g. (g.0, g.1.0)) (λ x g. (g.0, (g.1, refl))) (λ x g. refl)

head_back : (h : SampleHead) → Passed (sample_head_checks 0 h) → sample_head_of (sample_head_word h) ≡ h
head_back h p =
    let s : sample_head_word h / 64 % 512 ≡ h.sample = omega (arith, ltb→lt) in
    let c : sample_head_word h % 64 ≡ h.channel = omega (arith, ltb→lt) in
    λ i. record { sample = s i; channel = c i }

pub codes_sample_datum : (least : ℕ) → Codes any (sample_datum least) (λ d. sample_datum_word d ∷ []) (ValidSampleDatum least)
codes_sample_datum least = codes_layout 10 sample_datum_of sample_datum_word (sample_datum_checks 10 least) back
  where
    back : (d : SampleDatum) → ValidSampleDatum least d → sample_datum_of (sample_datum_word d) ≡ d
    back d p =
        let c : sample_datum_word d / 1024 ≡ d.connector = omega (arith, ltb→lt) in
        let e : sample_datum_word d % 1024 ≡ d.energy = omega (arith, ltb→lt) in
        λ i. record { connector = c i; energy = e i }

-- a data word is no head
pub no_head : (least : ℕ) (d : SampleDatum) → ValidSampleDatum least d → (r : List ℕ) → is_at_head (sample_datum_word d ∷ r) ≡ false
no_head least d g r = lt-leb (2 ^ 15) (sample_datum_word d) (omega (arith, ltb→lt d.connector 4 g.0, ltb→lt d.energy 1024 g.1.0))

pub codes_group : Codes (At is_at_head) group group_words ValidGroup
codes_group = codes_here λ p. codes_grouped sample_head_word (λ h. sample_datum_word) is_at_head
    (codes_layout 10 sample_head_of sample_head_word (sample_head_checks 10) head_back) (λ h g. codes_sample_datum) (codes_checked has_data 10 p) (λ h. no_head) refl

-- a group may follow a group, and so may the end
pub group_again : (x : Group) → ValidGroup x → (r : List ℕ) → T (is_at_head (group_words x ++ r))
group_again x g r = true_T (leb (2 ^ 15) (sample_head_word x.head)) (le-leb (2 ^ 15) (sample_head_word x.head) (omega arith))

pub group_last : (r : List ℕ) → T (ended r) → T (is_at_head r)
group_last [] t = tt
group_last (w ∷ r) t = absurd t

pub codes_groups : Codes (At ended) (several group ended) (each group_words) (All ValidGroup)
codes_groups = codes_several_at ended codes_group group_again group_last (λ s g r. refl) refl

codes_samples : Codes (At ended) samples samples_words (λ s. Passed (below_checks 0 (2 ^ 16) s.threshold) × All ValidGroup s.groups)
codes_samples = same
    (codes_bind (λ s. s.threshold) codes_whole (λ t g. codes_map _ (λ s. s.groups) codes_groups (λ xs. refl))
    (λ t s g. ap (λ (y : Samples). y.threshold) g.1))
    (λ s g. (g.0, g.1.0)) (λ s g. (g.0, (g.1, refl))) (λ s g. refl)

codes_anode : Codes (At ended) anode anode_words (λ a. Passed (anode_checks 0 a))
codes_anode = less (same
    (codes_bind (λ a. a.energy) codes_whole (λ e g. codes_map _ (λ a. a.time) codes_whole (λ t. refl)) (λ e a g. ap (λ (y : Anode). y.energy) g.1))
    (λ a g. search) (λ a g. search) (λ a g. refl)) (λ r t. tt)

codes_registers : Codes (At ended) registers register_words (λ h. Passed (register_checks 0 h))
codes_registers = less (same
    (codes_bind (λ h. h.a) codes_whole (λ a g. codes_bind (λ h. h.b) codes_whole (λ b g. codes_map _ (λ h. h.time) codes_whole (λ t. refl))
    (λ b h g. ap (λ (y : Registers). y.b) g.1)) (λ a h g. ap (λ (y : Registers). y.a) g.1.1))
    (λ h g. search) (λ h g. search) (λ h g. refl)) (λ r t. tt)

-- what a packet's length says of its content, beside its number of words
abbrev Fits : (f : Form) → ℕ → Content f → Type 0
Fits trigger n c = Unit {0}
Fits time_of_flight n c = Unit {0}
Fits scintillator n c = Unit {0}
Fits ion_chamber n xs = 2 + length (map (datum_word energy16) xs) ≡ n - 2
Fits crdc n c = 2 + length (samples_words c.samples) ≡ n - 7
Fits hodoscope n (energies id xs) = Unit {0}
Fits hodoscope n (hits h) = T (eqb n 6)
Fits object_pin n c = Unit {0}
Fits vme_adc n c = Unit {0}
Fits (opaque k) n c = Unit {0}

fits : (f : Form) (c : Content f) → Fits f (2 + length (content_words f c)) c
fits trigger c = tt
fits time_of_flight c = tt
fits scintillator c = tt
fits ion_chamber c = omega arith
fits crdc c = omega (arith, length-append (framed samples_tag (samples_words c.samples)) (framed anode_tag (anode_words c.anode)))
fits hodoscope (energies id xs) = tt
fits hodoscope (hits h) = tt
fits object_pin c = tt
fits vme_adc c = tt
fits (opaque k) c = tt

abbrev hodoscope_tail : Hodoscope → List ℕ
hodoscope_tail (energies id xs) = map (datum_word energy16) xs
hodoscope_tail (hits h) = register_words h

codes_hodoscope : (p n : ℕ) → Codes (At ended) (content hodoscope p n) (content_words hodoscope) (λ h. ValidContent hodoscope h × Fits hodoscope n h)
codes_hodoscope p n = same
    (codes_bind (id_of hodoscope) (codes_id hodoscope) (λ id g. codes_cond (eqb id 2) (two id) (other id (leb→le id 2 g.0))) (λ id h g. g.0))
    (λ h g. g.1.1) from print
  where
    Rest : ℕ → Hodoscope → Type 0
    Rest id h = (id_of hodoscope h ≡ id) × (ValidContent hodoscope h × Fits hodoscope n h)

    two : (id : ℕ) → eqb id 2 ≡ true → Codes (At ended) (hits_content p n) hodoscope_tail (Rest id)
    two id e = same
        (codes_bind (λ h. tt) (codes_require (eqb n 6) 7 p) (λ u g. codes_image hits hodoscope_tail codes_registers (λ r. refl)) (λ u h g. refl))
        (λ h g. rw g.1.2 (sym (eqb-true id 2 e), (g.1.1, g.0))) back (λ h g. refl)
      where
        back : (h : Hodoscope) → Rest id h → T (eqb n 6) × ((r : Registers) × Passed (register_checks 0 r) × (h ≡ hits r))
        back (energies k xs) g = absurd (omega (arith, g.0, eqb-true id 2 e, ltb→lt k 2 g.1.0.0))
        back (hits r) g = (g.1.1, (r, g.1.0, refl))

    other : (id : ℕ) → id ≤ 2 → eqb id 2 ≡ false → Codes (At ended) (energies_content id) hodoscope_tail (Rest id)
    other id small e = same (codes_image (energies id) hodoscope_tail (codes_channels energy16) (λ xs. refl))
        (λ h g. rw g.2 (refl, ((below, g.1), tt))) back (λ h g. refl)
      where
        below : T (ltb id 2)
        below = true_T (ltb id 2) (lt-ltb id 2 (omega (arith, eqb-false id 2 e)))

        back : (h : Hodoscope) → Rest id h → (xs : List Datum) × ValidData energy16 xs × (h ≡ energies id xs)
        back (energies k xs) g = (xs, g.1.0.1, ap (λ (j : ℕ). energies j xs) g.0)
        back (hits r) g = absurd (eqb-false id 2 e (sym g.0))

    from : (h : Hodoscope) → ValidContent hodoscope h × Fits hodoscope n h → Passed (id_checks 0 hodoscope (id_of hodoscope h)) × Rest (id_of hodoscope h) h
    from (energies k xs) g = ((true_T (leb k 2) (le-leb k 2 (omega (arith, ltb→lt k 2 g.0.0))), tt), (refl, g))
    from (hits r) g = ((tt, tt), (refl, g))

    print : (h : Hodoscope) → Passed (id_checks 0 hodoscope (id_of hodoscope h)) × Rest (id_of hodoscope h) h → id_of hodoscope h ∷ hodoscope_tail h ≡ content_words hodoscope h
    print (energies k xs) g = refl
    print (hits r) g = refl

-- forms whose content asks nothing of the length
free : {A : Type 0} {p : Parser ℕ A} {print : A → List ℕ} {Good : A → Type 0} → Codes (At ended) p print Good → Codes (At ended) p print (λ a. Good a × Unit {0})
free c = same c (λ a g. (g, tt)) (λ a g. g.0) (λ a g. refl)

codes_content : (f : Form) (p n : ℕ) → Codes (At ended) (content f p n) (content_words f) (λ c. ValidContent f c × Fits f n c)
codes_content trigger p n = free (same
    (codes_bind (λ c. c.pattern) (codes_below 10 pattern_bound) (λ w g. codes_map _ (λ c. c.times) (codes_channels trigger_time) (λ xs. refl)) (λ w c g. ap (λ (y : Trigger). y.pattern) g.1))
    (λ c g. (g.0, g.1.0)) (λ c g. (g.0, (g.1, refl))) (λ c g. refl))
codes_content time_of_flight p n = free (codes_channels flight_time)
codes_content scintillator p n = free (same (codes_many pair_channels codes_pair ended (λ st x g r. refl) refl []) (λ xs g. g) (λ xs g. g) (λ xs g. prints_each pair_words pair_channels [] xs))
codes_content ion_chamber p n = less (codes_inner (n - 2) energies_tag (codes_channels energy16)) (λ r t. tt)
codes_content crdc p n = less (same
    (codes_bind (λ c. c.id) (codes_id crdc) (λ id g. codes_bind (λ c. c.samples) (codes_inner (n - 7) samples_tag codes_samples) (λ s g.
    codes_map _ (λ c. c.anode) (codes_inner 4 anode_tag codes_anode) (λ a. refl))
    (λ s c g. ap (λ (y : Crdc). y.samples) g.1)) (λ id c g. ap (λ (y : Crdc). y.id) g.1.1))
    (λ c g. ((g.0, g.1.0.0.0, g.1.0.0.1, g.1.1.0.0), g.1.0.1))
    (λ c g. (g.0.0, (((g.0.1, g.0.2), g.1), ((g.0.3, refl), refl))))
    (λ c g. refl)) (λ r t. tt)
codes_content hodoscope p n = codes_hodoscope p n
codes_content object_pin p n = free (less (codes_datum energy16 []) (λ r t. tt))
codes_content vme_adc p n = free (same
    (codes_bind (λ c. c.id) (codes_id vme_adc) (λ id g. codes_map _ (λ c. c.energies) (codes_channels adc_energy) (λ xs. refl)) (λ id c g. ap (λ (y : Adc). y.id) g.1))
    (λ c g. (g.0, g.1.0)) (λ c g. (g.0, (g.1, refl))) (λ c g. refl))
codes_content (opaque k) p n = free (same (codes_several ended codes_whole (λ w g r. refl) refl) (λ ws g. g) (λ ws g. g) (λ ws g. each_alone ws))

codes_form : (f : Form) (p n : ℕ) → Codes (At ended) (content f p n >>= λ c. give (record { form = f; content = c })) (λ q. content_words q.form q.content)
    (λ (q : Packet). (q.form ≡ f) × (ValidContent q.form q.content × Fits q.form n q.content))
codes_form f p n = same (codes_image (λ c. record { form = f; content = c }) (λ (q : Packet). content_words q.form q.content) (codes_content f p n) (λ c. refl))
    (λ q g. subst (λ (x : Packet). (x.form ≡ f) × (ValidContent x.form x.content × Fits x.form n x.content)) (sym g.2) (refl, g.1))
    (λ q g. subst (λ (x : Form). (c : Content x) × (ValidContent x c × Fits x n c) × (q ≡ record { form = x; content = c })) g.0 (q.content, g.1, refl))
    (λ q g. refl)

pub codes_packet : Codes any packet packet_words (λ q. ValidContent q.form q.content)
codes_packet = same
    (codes_packet_of allowed_length (λ q. q.form) (codes_layout 6 form_of tag (λ f. []) (λ f g. form_back f)) codes_form)
    (λ q g. g.1.0) (λ q g. (length_allowed q.form q.content g, (g, fits q.form q.content))) (λ q g. refl)

pub codes_stamp : Codes any stamp_packet (λ s. framed stamp_tag (stamp_words s)) (λ s. Passed (stamp_checks 0 s))
codes_stamp = same
    (codes_packet_of {tag_of = λ u. stamp_tag} {body = stamp_words} {Good = λ n s. Passed (stamp_checks 0 s)} (λ u. eqb 6) (λ s. tt) (codes_exactly 6 stamp_tag) (λ u p n. less (same
    (codes_bind (λ s. s.chunk0) codes_whole (λ a g. codes_bind (λ s. s.chunk1) codes_whole (λ b g. codes_bind (λ s. s.chunk2) codes_whole (λ c g.
    codes_map _ (λ s. s.chunk3) codes_whole (λ d. refl))
    (λ c s g. ap (λ (y : Stamp). y.chunk2) g.1)) (λ b s g. ap (λ (y : Stamp). y.chunk1) g.1.1)) (λ a s g. ap (λ (y : Stamp). y.chunk0) g.1.1.1))
    (λ s g. (refl, search)) (λ s g. search) (λ s g. refl)) (λ r t. tt)))
    (λ s g. g.1) (λ s g. (tt, g)) (λ s g. refl)

pub codes_number : Codes any number_packet (λ k. framed number_tag (number_words k)) (λ k. Passed (number_checks 0 k))
codes_number = same
    (codes_packet_of {tag_of = λ u. number_tag} {body = number_words} {Good = λ n k. Passed (number_checks 0 k)} (λ u. eqb 5) (λ k. tt) (codes_exactly 6 number_tag) (λ u p n. less (same
    (codes_bind (λ k. k.chunk0) codes_whole (λ a g. codes_bind (λ k. k.chunk1) codes_whole (λ b g.
    codes_map _ (λ k. k.chunk2) codes_whole (λ c. refl))
    (λ b k g. ap (λ (y : Number). y.chunk1) g.1)) (λ a k g. ap (λ (y : Number). y.chunk0) g.1.1))
    (λ k g. (refl, search)) (λ k g. search) (λ k g. refl)) (λ r t. tt)))
    (λ k g. g.1) (λ k g. (tt, g)) (λ k g. refl)
