-- The parser of F's longwords codes `words`.
-- Assumes nothing.
use Prim.Native.Nat.{ℕ, ◌+◌, ◌/◌, ◌%◌, ◌^◌}
use native.Mathlib.Omega.{arith}
use mathlib.Core.Path.{◌≡◌, refl, ap}
use mathlib.Core.Bool.{Bool, true, false}
use mathlib.Core.List.{List, [], ◌∷◌, ◌++◌, map}
use lib.Dec.{T, eqb, eqb→eq, ltb→lt, leb→le}
use lib.ListN.{length, length-append, length-map}
use borrow.Author.Tests.{eq-eqb, ne_eqb}
use Rattle.event.specs.Parser.{Parser, Passed, ended, Goods, All}
use Rattle.event.specs.Words.{halves, below_checks}
use Rattle.event.proofs.Codes.{Codes, any, At, same, less, not-true, codes_give, codes_here, codes_within}
use Rattle.event.proofs.Sequences.{codes_bind}
use Rattle.event.proofs.Many.{codes_many}
use Rattle.event.proofs.Elements.{codes_layout, codes_exactly, codes_several, prints_map, each_alone}
use Rattle.event.proofs.Impossible.{impossible}
use Rattle.frs_layout.specs.Event.{Stamp, PatternUnit, Value, Module, empty, with_data, scaler_geo, pattern_geo, stamp_identifier, scaler_end, pattern_header, pattern_end}
use Rattle.frs_layout.specs.Layout.{datum_bits, value_word, stamp_words, scaler_words, pattern_words, module_words, words, stamp_checks, count_checks, scaler_checks, pattern_checks, value_checks, counter_checks, channels, ValidScalers, ValidValue, ValidModule, Formed, header_word, footer_word, empty_word}
use Rattle.frs_layout.specs.Reading.{data_under, stamp, block_of, scaler_values, scaler, pattern_unit, at_pattern, Header, empty_header, data_header, first_word, header_of, header_checks, value_of, value, values, body, one_module, event_up_to, at_stamp}
use Rattle.frs_layout.proofs.Event.{values_of, codes_event}

codes_data_under : (upper : ℕ) → Codes any (data_under upper) (λ d. halves upper d ∷ []) (λ d. Passed (below_checks 0 (2 ^ 16) d))
codes_data_under upper = codes_layout 10 (◌% 2 ^ 16) (halves upper) (below_checks 10 (2 ^ 16)) (λ d p. omega (arith, ltb→lt))

codes_stamp : Codes any stamp stamp_words (λ s. Passed (stamp_checks 0 s))
codes_stamp = same
    (codes_bind (λ s. tt) (codes_exactly 10 stamp_identifier) (λ u p.
    codes_bind (λ s. s.word1) (codes_data_under 0x00f7) (λ a p.
    codes_bind (λ s. s.word2) (codes_data_under 0x01f7) (λ b p.
    codes_bind (λ s. s.word3) (codes_data_under 0x02f7) (λ c p. codes_give _)
    (λ c s g. ap (λ (x : Stamp). x.word3) g))
    (λ b s g. ap (λ (x : Stamp). x.word2) g.1))
    (λ a s g. ap (λ (x : Stamp). x.word1) g.1.1))
    (λ u s g. refl))
    (λ s g. search) (λ s g. search) (λ s g. refl)

-- a block: its values fill its count, and the footer is one longword more
codes_block_of : {A B : Type 0} {values : Parser ℕ A} {footer : A → Parser ℕ B} {print : A → List ℕ} {Good : A → Type 0} {footer_word : A → B → ℕ} {Good' : A → B → Type 0}
    (p n : ℕ) (part : B → A) → Codes (At ended) values print Good → ((a : A) → Codes any (footer a) (λ b. footer_word a b ∷ []) (Good' a))
    → ((a : A) (b : B) → Good' a b → part b ≡ a)
    → Codes any (block_of p n values footer) (λ b. print (part b) ++ (footer_word (part b) b ∷ [])) (λ b. (Good (part b) × (length (print (part b)) ≡ n)) × Good' (part b) b)
codes_block_of {print = print} {footer_word = footer_word} p n part c d back = same
    (codes_within 5 p (n + 1) (less (codes_bind part (codes_within 5 p n c) (λ a g. d a) back) (λ r t. tt)))
    (λ b g. g.0) (λ b g. (g, omega (arith, g.0.1, length-append (print (part b)) (footer_word (part b) b ∷ [])))) (λ b g. refl)

pub codes_scaler_values : Codes (At ended) scaler_values (λ vs. vs) (All (λ v. Passed (scaler_checks 0 v)))
codes_scaler_values = same (codes_several ended (codes_layout 10 (λ w. w) (λ w. w) (scaler_checks 10) (λ w p. refl)) (λ w g r. refl) refl)
    (λ vs g. g) (λ vs g. g) (λ vs g. each_alone vs)

codes_scaler : Codes any scaler scaler_words ValidScalers
codes_scaler = codes_here λ p. same
    (codes_bind length (codes_layout 6 (◌% 2 ^ 6) (header_word scaler_geo) (count_checks 6) (λ n p. omega (arith, leb→le)))
    (λ n g. codes_block_of p n (λ vs. vs) codes_scaler_values (λ vs. codes_bind (λ u. tt) (codes_exactly 9 scaler_end) (λ u q. codes_give vs) (λ u b g. refl)) (λ vs b g. g.1))
    (λ n vs g. g.0.1))
    (λ vs g. (g.0, g.1.0.0)) (λ vs g. (g.0, ((g.1, refl), (tt, refl)))) (λ vs g. refl)

codes_pattern : Codes any pattern_unit pattern_words (λ p. Passed (pattern_checks 0 p))
codes_pattern = codes_here λ k. same
    (codes_bind (λ p. tt) (codes_exactly 6 pattern_header) (λ u g. codes_within 5 k 3 (less
    (codes_bind (λ p. p.register) (codes_data_under 0x2800) (λ r g.
    codes_bind (λ p. p.multiplicity) (codes_data_under 0x2801) (λ m g.
    codes_bind (λ p. tt) (codes_exactly 9 pattern_end) (λ u g. codes_give _) (λ u p g. refl))
    (λ m p g. ap (λ (x : PatternUnit). x.multiplicity) g.1))
    (λ r p g. ap (λ (x : PatternUnit). x.register) g.1.1))
    (λ r t. tt))) (λ u p g. refl))
    (λ p g. search) (λ p g. search) (λ p g. refl)

-- modules: the header, then the body
abbrev header_in : Module → Header
header_in (empty g) = empty_header g
header_in (with_data g vs c) = data_header g (length vs)

abbrev body_words : Module → List ℕ
body_words (empty g) = []
body_words (with_data g vs c) = map (value_word g) vs ++ (footer_word g c ∷ [])

-- the body's rules apart from the count, which stands in the header
abbrev ValidRest : Module → Type 0
ValidRest (empty g) = Unit {0}
ValidRest (with_data g vs c) = Goods ValidValue channels [] vs × Passed (counter_checks 0 c)

abbrev counter_of : Module → ℕ
counter_of (empty g) = 0
counter_of (with_data g vs c) = c

header_back : (seen : List ℕ) (h : Header) → Passed (header_checks seen h) → header_of (first_word h) ≡ h
header_back seen (empty_header g) p =
    let f : first_word (empty_header g) / 2 ^ 24 % 2 ^ 3 ≡ 6 = omega (arith, ltb→lt) in
    let e : first_word (empty_header g) / 2 ^ 27 ≡ g = omega (arith, ltb→lt) in
    rw (eq-eqb _ 6 f, e)
header_back seen (data_header g n) p =
    let f : first_word (data_header g n) / 2 ^ 24 % 2 ^ 3 ≡ 6 → ⊥ = omega (arith, ltb→lt, leb→le) in
    let e : first_word (data_header g n) / 2 ^ 27 ≡ g = omega (arith, ltb→lt, leb→le) in
    let k : first_word (data_header g n) % 2 ^ 6 ≡ n = omega (arith, ltb→lt, leb→le) in
    rw (ne_eqb _ 6 f, e, k)

pub codes_value : (g : ℕ) (seen : List ℕ) → Codes any (value g seen) (λ v. value_word g v ∷ []) (ValidValue seen)
codes_value g seen = codes_layout 10 value_of (value_word g) (value_checks 10 11 seen) back
  where
    back : (v : Value) → ValidValue seen v → value_of (value_word g v) ≡ v
    back v p =
        let c : value_word g v / 2 ^ 16 % 2 ^ 5 ≡ v.channel = omega (arith, ltb→lt) in
        let d : value_word g v % 2 ^ datum_bits ≡ v.datum = omega (arith, ltb→lt) in
        λ i. record { channel = c i; datum = d i }

pub codes_values : (g : ℕ) → Codes (At ended) (values g) (map (value_word g)) (Goods ValidValue channels [])
codes_values g = same (codes_many channels (codes_value g) ended (λ st v p r. refl) refl []) (λ vs p. p) (λ vs p. p) (λ vs p. prints_map (value_word g) channels [] vs)

codes_body : (p : ℕ) (h : Header) → Codes any (body p h) body_words (λ m. (header_in m ≡ h) × ValidRest m)
codes_body p (empty_header g) = same (codes_give (empty g)) (λ m e. rw e (refl, tt)) from (λ m e. rw e)
  where
    from : (m : Module) → (header_in m ≡ empty_header g) × ValidRest m → m ≡ empty g
    from (empty g') v = cc v.0
    from (with_data g' vs c) v = cc v.0
codes_body p (data_header g n) = same
    (codes_block_of p n values_of (codes_values g) (λ vs. codes_bind counter_of
    (codes_layout 9 (◌% 2 ^ 16) (footer_word g) (counter_checks 9) (λ c q. omega (arith, ltb→lt))) (λ c q. codes_give (with_data g vs c)) (λ c m e. ap counter_of e)) (λ vs m e. ap values_of e.1))
    to from print
  where
    Raw : Module → Type 0
    Raw m = (Goods ValidValue channels [] (values_of m) × (length (map (value_word g) (values_of m)) ≡ n)) × (Passed (counter_checks 0 (counter_of m)) × (m ≡ with_data g (values_of m) (counter_of m)))

    to : (m : Module) → Raw m → (header_in m ≡ data_header g n) × ValidRest m
    to m e = rw e.1.1 (ap (data_header g) (rw (length-map (values_of m) (value_word g)) at e.0.1), (e.0.0, e.1.0))

    from : (m : Module) → (header_in m ≡ data_header g n) × ValidRest m → Raw m
    from (empty g') v = impossible (cc v.0)
    from (with_data g' vs c) v = ((v.1.0, rw (length-map vs (value_word g)) (cc v.0)), (v.1.1, cc v.0))

    print : (m : Module) → Raw m → map (value_word g) (values_of m) ++ (footer_word g (counter_of m) ∷ []) ≡ body_words m
    print m e = rw e.1.1

pub codes_module : (seen : List ℕ) → Codes any (one_module seen) module_words (ValidModule seen)
codes_module seen = codes_here λ k. same
    (codes_bind header_in (codes_layout 6 header_of first_word (header_checks seen) (header_back seen)) (λ h p. codes_body k h) (λ h m e. e.0))
    to from print
  where
    Raw : Module → Type 0
    Raw m = Passed (header_checks seen (header_in m)) × ((header_in m ≡ header_in m) × ValidRest m)

    to : (m : Module) → Raw m → ValidModule seen m
    to (empty g) p = search
    to (with_data g vs c) p = search

    from : (m : Module) → ValidModule seen m → Raw m
    from (empty g) p = search
    from (with_data g vs c) p = search

    print : (m : Module) → Raw m → first_word (header_in m) ∷ body_words m ≡ module_words m
    print (empty g) p = refl
    print (with_data g vs c) p = refl

-- a module has another GEO than a pattern unit
no_module : (seen : List ℕ) (m : Module) → ValidModule seen m → (r : List ℕ) → at_pattern (module_words m ++ r) ≡ false
no_module seen (empty g) v r = let e : empty_word g / 2 ^ 27 ≡ g = omega arith in rw e (not-true (eqb g pattern_geo) v.0.1.0)
no_module seen (with_data g vs c) v r =
    let e : header_word g (length vs) / 2 ^ 27 ≡ g = omega (arith, leb→le) in rw e (not-true (eqb g pattern_geo) v.0.1.0)

codes_up_to : (stop : List ℕ → Bool) → stop [] ≡ true → ((seen : List ℕ) (m : Module) → ValidModule seen m → (r : List ℕ) → stop (module_words m ++ r) ≡ false)
    → ((r : List ℕ) → T (stop r) → at_pattern r ≡ false) → Codes (At stop) (event_up_to stop) words Formed
codes_up_to stop halt on no_stop = codes_event codes_stamp codes_scaler codes_pattern codes_module at_pattern stop halt on (λ p g r. refl) no_module no_stop

-- one event alone, and one in a run
pub not_ended : (seen : List ℕ) (m : Module) → ValidModule seen m → (r : List ℕ) → ended (module_words m ++ r) ≡ false
not_ended seen (empty g) v r = refl
not_ended seen (with_data g vs c) v r = refl

pub codes_one : Codes (At ended) (event_up_to ended) words Formed
codes_one = codes_up_to ended refl not_ended no_stop
  where
    no_stop : (r : List ℕ) → T (ended r) → at_pattern r ≡ false
    no_stop [] t = refl
    no_stop (w ∷ r) t = absurd t

pub codes_run : Codes (At at_stamp) (event_up_to at_stamp) words Formed
codes_run = codes_up_to at_stamp refl on no_stop
  where
    on : (seen : List ℕ) (m : Module) → ValidModule seen m → (r : List ℕ) → at_stamp (module_words m ++ r) ≡ false
    on seen (empty g) v r = ne_eqb (empty_word g) stamp_identifier (omega arith)
    on seen (with_data g vs c) v r = ne_eqb (header_word g (length vs)) stamp_identifier (omega arith)

    no_stop : (r : List ℕ) → T (at_stamp r) → at_pattern r ≡ false
    no_stop [] t = refl
    no_stop (w ∷ r) t = rw (eqb→eq w stamp_identifier t)
