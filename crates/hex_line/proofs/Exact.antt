-- A line has exactly the words that make it, over any letter and any number of digits. Assumes nothing.
use mathlib.Core.Path.{◌≡◌, refl, ap, sym, ◌∙◌, subst}
use mathlib.Core.Logic.{◌↔◌}
use mathlib.Core.Bool.{Bool, true, false, cond, ◌&&◌, ◌||◌, false≢true}
use mathlib.Core.List.{List, [], ◌∷◌, ◌++◌}
use Prim.Native.Nat.{ℕ, zero, suc, ◌+◌, ◌-◌, ◌*◌, ◌/◌, ◌%◌, ◌^◌, ◌≤◌, ◌<◌}
use native.Mathlib.Nat.{not-suc-le-zero, mul-suc, mul-zero, pow-suc, add-zero, div-add-mod, mul-div_cancel_left, mul-mod_right}
use native.Mathlib.Numerals.{add-one}
use native.Mathlib.Omega.{arith}
use lib.Dec.{ltb, leb, eqb}
use lib.ListN.{length, get_or, take, drop, length-append, length-drop, take-append-drop, drop_of_length-le, get_or-append}
use lib.Seq.{take-suc, drop-cons, get_or-drop, drop-drop, drop_at, get_or_at}
use borrow.Author.Tests.{ltb-true, ltb-false, lt-ltb, le-ltb, le-leb, lt-leb, leb-true, eqb-true, eq-eqb}
use Rattle.event.specs.Parser.{each, All}
use Rattle.event.specs.Outcome.{done, refused}
use Rattle.event.specs.Words.{between}
use Rattle.dialects.proofs.Widths.{by_width}
use Rattle.hex_line.specs.Line.{letter, digits, is_digit, digit_of, all_digits, all_groups, well_formed, value_of, firsts, words_of, word_count, group_words, longest_line}
use Rattle.hex_line.specs.Text.{character, hex_of}
use Rattle.hex_line.specs.Exact.{LineExact}
use Rattle.hex_line.proofs.LineLaws.{digit_lt, value_lt, firsts_left, firsts_all}
use Rattle.hex_line.proofs.TextLaws.{hex_length}

-- both tests of two
both : (a b : Bool) → (a && b) ≡ true → (a ≡ true) × (b ≡ true)
both true b e = (refl, e)
both false b e = absurd (false≢true e)

between_true : (least most c : ℕ) → between least most c ≡ true → (least ≤ c) × (c ≤ most)
between_true least most c e = let p = both (leb least c) (leb c most) e in (leb-true least c p.0, leb-true c most p.1)

-- a digit's value and a value's digit
character_of : (c : ℕ) → is_digit c ≡ true → character (digit_of c) ≡ c
unfolding is_digit digit_of character
character_of c = go (between 48 57 c) refl
  where
    go : (b : Bool) → between 48 57 c ≡ b → (b || between 97 102 c) ≡ true → character (digit_of c) ≡ c
    go true e h =
        let p = between_true 48 57 c e in
        rw (lt-ltb c 58 (omega arith), lt-ltb (c % 16) 10 (omega arith)) (omega arith)
    go false e h =
        let p = between_true 97 102 c h in
        rw (le-ltb c 58 (omega arith), le-ltb ((c + 9) % 16) 10 (omega arith)) (omega arith)

of_character : (v : ℕ) → v < 16 → (is_digit (character v) ≡ true) × (digit_of (character v) ≡ v)
unfolding is_digit digit_of character
of_character v l = go (ltb v 10) refl
  where
    go : (b : Bool) → ltb v 10 ≡ b → (is_digit (cond b (48 + v) (87 + v)) ≡ true) × (digit_of (cond b (48 + v) (87 + v)) ≡ v)
    go true e =
        let h = ltb-true v 10 e in
        (rw (le-leb 48 (48 + v) (omega arith), le-leb (48 + v) 57 (omega arith)), rw (lt-ltb (48 + v) 58 (omega arith)) (omega arith))
    go false e =
        let h = ltb-false v 10 e in (
          rw (le-leb 48 (87 + v) (omega arith), lt-leb (87 + v) 57 (omega arith), le-leb 97 (87 + v) (omega arith), le-leb (87 + v) 102 (omega arith)),
          rw (le-ltb (87 + v) 58 (omega arith)) (omega arith),
        )

-- the digits one by one
digits_at : (line : List ℕ) (at n : ℕ) → all_digits line at n ≡ true → (i : ℕ) → i < n → is_digit (get_or line (at + i) 0) ≡ true
unfolding all_digits
digits_at line at zero h i l = absurd (not-suc-le-zero l)
digits_at line at (suc n) h zero l = rw add-zero (both (is_digit (get_or line at 0)) (all_digits line (at + 1) n) h).0
digits_at line at (suc n) h (suc i) l =
    let e : at + suc i ≡ at + 1 + i = omega arith in
    rw e (digits_at line (at + 1) n (both (is_digit (get_or line at 0)) (all_digits line (at + 1) n) h).1 i (omega arith))

digits_all : (line : List ℕ) (at n : ℕ) → ((i : ℕ) → i < n → is_digit (get_or line (at + i) 0) ≡ true) → all_digits line at n ≡ true
unfolding all_digits
digits_all line at zero h = refl
digits_all line at (suc n) h =
    let e : (i : ℕ) → at + 1 + i ≡ at + suc i = λ i. omega arith in
    rw (rw add-zero at (h 0 (omega arith))) (digits_all line (at + 1) n (λ i l. rw (e i) (h (suc i) (omega arith))))

-- digits that stand somewhere are those of their value
hex_value : (line : List ℕ) (at n : ℕ) → ((i : ℕ) → i < n → is_digit (get_or line (at + i) 0) ≡ true) → at + n ≤ length line
    → hex_of n (value_of line at n) ≡ take n (drop at line)
unfolding hex_of value_of
hex_value line at zero h l = refl
hex_value line at (suc n) h l =
    let c = get_or line (at + n) 0 in
    let v = value_of line at n in
    let s : digit_of c < 16 = digit_lt c in
    let q : (v * 16 + digit_of c) / 16 ≡ v = omega arith in
    let r : (v * 16 + digit_of c) % 16 ≡ digit_of c = omega arith in
    rw (q, r, character_of c (h n (omega arith)), hex_value line at n (λ i k. h i (omega arith)) (omega arith))
    (sym (take-suc (drop at line) n 0 (omega (arith, length-drop at line)) ∙ rw get_or-drop))

-- and the value is the number whose digits stand there
value_hex : (line : List ℕ) (at n w : ℕ) → w < 16 ^ n → ((i : ℕ) → i < n → get_or line (at + i) 0 ≡ get_or (hex_of n w) i 0) → value_of line at n ≡ w
unfolding hex_of value_of
value_hex line at zero w l h = omega arith
value_hex line at (suc n) w l h =
    let c : get_or line (at + n) 0 ≡ character (w % 16) = h n (omega arith) ∙ get_or_at (hex_of n (w / 16)) (character (w % 16)) [] 0 n (hex_length n (w / 16)) in
    let d = (of_character (w % 16) (omega arith)).1 in
    let v = value_hex line at n (w / 16) (omega (arith, rw pow-suc at l))
    (λ i k. h i (omega arith) ∙ get_or-append (hex_of n (w / 16)) _ 0 i (omega (arith, hex_length n (w / 16)))) in
    rw (c, d, v) (omega arith)

hex_digits : (n w i : ℕ) → i < n → is_digit (get_or (hex_of n w) i 0) ≡ true
unfolding hex_of
hex_digits zero w i l = absurd (not-suc-le-zero l)
hex_digits (suc n) w i l = go (ltb i n) refl (hex_digits n (w / 16) i)
  where
    go : (b : Bool) → ltb i n ≡ b → (i < n → is_digit (get_or (hex_of n (w / 16)) i 0) ≡ true)
        → is_digit (get_or (hex_of n (w / 16) ++ (character (w % 16) ∷ [])) i 0) ≡ true
    go true e h =
        let k = ltb-true i n e in
        rw (get_or-append (hex_of n (w / 16)) (character (w % 16) ∷ []) 0 i (omega (arith, hex_length n (w / 16)))) (h k)
    go false e h =
        let k = ltb-false i n e in
        rw (get_or_at (hex_of n (w / 16)) (character (w % 16)) [] 0 i (omega (arith, hex_length n (w / 16)))) (of_character (w % 16) (omega arith)).0

-- the text behind the letter, and the n words that stand from index `at` on
abbrev groups_of : ℕ → List ℕ → List ℕ
groups_of k = each (λ (w : ℕ). 32 ∷ hex_of k w)

abbrev words_from : ℕ → List ℕ → ℕ → ℕ → List ℕ
words_from k line at = firsts (λ (i : ℕ). value_of line (at + 1 + (k + 1) * i) k)

module _ (k : ℕ) where
  text_length : (ws : List ℕ) → length (groups_of k ws) ≡ (k + 1) * length ws
  text_length [] = sym (mul-zero (k + 1))
  text_length (w ∷ ws) = rw mul-suc (omega (arith, length-append (hex_of k w) (groups_of k ws), hex_length k w, text_length ws))

  module _ (line : List ℕ) where
    -- the first word, and those behind it
    value_next : (at i : ℕ) → value_of line (at + 1 + (k + 1) * suc i) k ≡ value_of line (at + (k + 1) + 1 + (k + 1) * i) k
    value_next at i = ap (λ (j : ℕ). value_of line j k) (rw mul-suc (omega arith))

    words_left : (at n : ℕ) → words_from k line at (suc n) ≡ value_of line (at + 1) k ∷ words_from k line (at + (k + 1)) n
    words_left at n = firsts_left _ _ (value_next at) n ∙ rw (mul-zero, add-zero)

    -- groups that stand up to the end are the text of their words
    groups_text : (n at : ℕ) → all_groups k line at n ≡ true → at + (k + 1) * n ≡ length line → drop at line ≡ groups_of k (words_from k line at n)
    unfolding all_groups firsts
    groups_text zero at h e = drop_of_length-le line {i = at} (omega (arith, mul-zero (k + 1)))
    groups_text (suc n) at h e =
        let l : at + (k + 1) + (k + 1) * n ≡ length line = omega (arith, mul-suc (k + 1) n) in
        let p = both (eqb (get_or line at 0) 32 && all_digits line (at + 1) k) (all_groups k line (at + (k + 1)) n) h in
        let q = both (eqb (get_or line at 0) 32) (all_digits line (at + 1) k) p.0 in
        let t : drop at line ≡ 32 ∷ drop (at + 1) line = drop-cons line at 0 (omega arith) ∙ rw (eqb-true (get_or line at 0) 32 q.0, add-one) in
        let v = hex_value line (at + 1) k (digits_at line (at + 1) k q.1) (omega arith) in
        let a : at + 1 + k ≡ at + (k + 1) = omega arith in
        let d : drop (at + 1) line ≡ hex_of k (value_of line (at + 1) k) ++ drop (at + (k + 1)) line =
        sym (take-append-drop k (drop (at + 1) line)) ∙ rw (v, drop-drop, a) in
        rw (words_left at n, t, d) (ap (λ (r : List ℕ). 32 ∷ (hex_of k (value_of line (at + 1) k) ++ r)) (groups_text n (at + (k + 1)) p.1 l))

    -- and where the text of words stands, there are their groups
    text_groups : (ws : List ℕ) (at : ℕ) → drop at line ≡ groups_of k ws → All (λ (w : ℕ). w < 16 ^ k) ws
        → (all_groups k line at (length ws) ≡ true) × (words_from k line at (length ws) ≡ ws)
    unfolding all_groups firsts
    text_groups [] at e g = (refl, refl)
    text_groups (w ∷ ws) at e g =
        let rest = groups_of k ws in
        let s : get_or line at 0 ≡ 32 = rw add-zero at (sym (get_or-drop at line 0 0)) ∙ ap (λ (r : List ℕ). get_or r 0 0) e in
        let c : (i : ℕ) → i < k → get_or line (at + 1 + i) 0 ≡ get_or (hex_of k w) i 0 = λ i l.
        let a : at + 1 + i ≡ at + suc i = omega arith in
        rw a (sym (get_or-drop at line (suc i) 0)) ∙ ap (λ (r : List ℕ). get_or r (suc i) 0) e ∙ get_or-append (hex_of k w) rest 0 i (omega (arith, hex_length k w)) in
        let d : drop (at + (k + 1)) line ≡ rest =
        sym (drop-drop (k + 1) at line) ∙ rw (e, add-one) (drop_at (hex_of k w) rest k (hex_length k w)) in
        let r = text_groups ws (at + (k + 1)) d g.1 in (
          rw (eq-eqb _ _ s, digits_all line (at + 1) k (λ i l. rw (c i l) (hex_digits k w i l))) r.0,
          words_left at (length ws) ∙ rw (value_hex line (at + 1) k w g.0 c, r.1),
        )

-- over the letter and the number of digits
module _ (first k : ℕ) (line ws : List ℕ) where
  abbrev Made : Type 0
  Made = (line ≡ first ∷ groups_of k ws) × All (λ (w : ℕ). w < 16 ^ k) ws × (length line ≤ longest_line)

  made : well_formed first k line ≡ true → words_of k line (word_count k line) ≡ ws → Made
  unfolding well_formed
  made h e =
      let p = both _ _ h in
      let q = both _ _ p.0 in
      let r = both _ _ q.0 in
      let b = between_true 1 longest_line (length line) r.0 in
      let m : (length line - 1) % (k + 1) ≡ 0 = eqb-true _ _ q.1 in
      let l : 1 + (k + 1) * word_count k line ≡ length line = omega (arith, div-add-mod (length line - 1) (k + 1)) in (
        drop-cons line 0 0 (omega arith) ∙ rw (eqb-true (get_or line 0 0) first r.1, groups_text k line (word_count k line) 1 p.1 l, e),
        subst (All (λ (w : ℕ). w < 16 ^ k)) e (firsts_all _ _ (λ i. value_lt line (2 + (k + 1) * i) k) (word_count k line)),
        b.1,
      )

  has : Made → (well_formed first k line ≡ true) × (words_of k line (word_count k line) ≡ ws)
  unfolding well_formed
  has (e, g, l) =
      let n : length line ≡ 1 + (k + 1) * length ws = ap length e ∙ omega (arith, text_length k ws) in
      let m : length line - 1 ≡ (k + 1) * length ws = omega arith in
      let c : word_count k line ≡ length ws = rw (m, mul-div_cancel_left (length ws) {n = k + 1} (omega arith)) in
      let t = text_groups k line ws 1 (ap (drop 1) e) g in
      let a : eqb (get_or line 0 0) first ≡ true = eq-eqb (get_or line 0 0) first (ap (λ (r : List ℕ). get_or r 0 0) e) in (
        rw (le-leb 1 (length line) (omega arith), le-leb (length line) longest_line l, a, c, m, mul-mod_right (k + 1) (length ws)) t.0,
        rw c t.1,
      )

  exact : (group_words first k line ≡ done ws) ↔ Made
  exact = (go (well_formed first k line) refl, λ m. let h = has m in rw (h.0, h.1))
    where
      go : (b : Bool) → well_formed first k line ≡ b → cond b (done (words_of k line (word_count k line))) (refused 30 0) ≡ done ws → Made
      go true f e = made f (cc)
      go false f e = absurd (false≢true (cc))

pub line_exact : LineExact
line_exact d line ws = rw (by_width (λ (w : ℕ). 2 ^ w ≡ 16 ^ (w / 4)) refl refl d) (exact (letter d) (digits d) line ws)
