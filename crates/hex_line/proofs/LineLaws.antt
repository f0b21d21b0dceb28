-- Laws of the definitions of a line, over the letter and the number of digits: what each turn of a loop finds. Assumes nothing.
use mathlib.Core.Path.{◌≡◌, refl, sym, ap, ◌∙◌}
use mathlib.Core.Bool.{Bool, true, false, cond, ◌&&◌, false≢true}
use mathlib.Core.List.{List, [], ◌∷◌, ◌++◌, map, append_assoc, map-append}
use Prim.Native.Nat.{ℕ, zero, suc, ◌+◌, ◌-◌, ◌*◌, ◌%◌, ◌^◌, ◌≤◌, ◌<◌}
use native.Mathlib.Nat.{mul-suc, mul-zero, add-zero, sub-zero, mod-eq_of_lt, pow-suc, pow-le-pow_right, mul-div-le}
use native.Mathlib.Numerals.{add-one}
use native.Mathlib.Omega.{arith}
use mathlib.Core.Logic.{◌≢◌}
use lib.Dec.{ltb, leb, eqb, lit<}
use lib.ListN.{length, get_or, take, drop, set, length-append, length-map}
use borrow.Author.Tests.{le-leb, lt-leb, leb-true, leb-false, eqb-true, eqb-false, eq-eqb, ne_eqb}
use Rattle.std.specs.Prelude.{Ok, Err}
use Rattle.std.specs.List.{list_all}
use Rattle.event.specs.declared.refusal.Refusal.{Refusal}
use Rattle.event.specs.Parser.{All}
use Rattle.event.specs.Outcome.{Outcome, done, refused, given, answer_of, overlaid, in_word_room}
use Rattle.event.proofs.Answers.{refused_by}
use Rattle.event.proofs.Impossible.{impossible}
use lib.Seq.{drop-cons, set_at}
use Rattle.dialects.specs.declared.Dialect.{Dialect}
use Rattle.dialects.specs.Dialects.{width, of_width, over16, over32}
use Rattle.dialects.proofs.Widths.{by_width}
use Rattle.hex_line.specs.Line.{letter, is_digit, digit_of, value_of, all_digits, all_groups, well_formed, firsts, words_of, word_count, overlaid_by, group_words, line_into, longest_line}

-- the digits of a part of the line
pub digits_listed : (line : List ℕ) (at n m : ℕ) → m ≡ n → at + n ≤ length line → list_all is_digit (take m (drop at line)) ≡ all_digits line at n
unfolding all_digits
digits_listed line at zero m e h = rw e
digits_listed line at (suc n) m e h =
    rw (e, drop-cons line at 0 (omega arith), ← add-one at) (ap (λ (b : Bool). is_digit (get_or line at 0) && b) (digits_listed line (at + 1) n n refl (omega arith)))

-- groups, one by one: after i of them that stand, those that are left decide
module _ (k : ℕ) (line : List ℕ) (at count : ℕ) where
  pub record Left (i : ℕ) : Type 0 where
    pub rest : all_groups k line at count ≡ all_groups k line (at + (k + 1) * i) (count - i)

  pub left_first : Left 0
  left_first = record { rest = simp (mul-zero, add-zero, sub-zero) refl }

  first_group : (p n m q : ℕ) → n ≡ m + 1 → q ≡ p + (k + 1) → all_groups k line p n ≡ (eqb (get_or line p 0) 32 && all_digits line (p + 1) k && all_groups k line q m)
  unfolding all_groups
  first_group p n m q e f = rw (e, add-one m, f) refl

  module _ {i : ℕ} (p : Left i) (h : i < count) where
    left_turn : all_groups k line at count
        ≡ (eqb (get_or line (at + (k + 1) * i) 0) 32 && all_digits line (at + (k + 1) * i + 1) k && all_groups k line (at + (k + 1) * (i + 1)) (count - (i + 1)))
    left_turn = p.rest ∙ first_group _ _ _ _ (omega arith) (rw (add-one i, mul-suc) (omega arith))

    pub left_no_space : get_or line (at + (k + 1) * i) 0 ≢ 32 → false ≡ all_groups k line at count
    left_no_space s = sym (left_turn ∙ rw (ne_eqb _ _ s))

    pub left_no_digits : get_or line (at + (k + 1) * i) 0 ≡ 32 → all_digits line (at + (k + 1) * i + 1) k ≡ false → false ≡ all_groups k line at count
    left_no_digits s d = sym (left_turn ∙ rw (eq-eqb _ _ s, d))

    pub left_next : get_or line (at + (k + 1) * i) 0 ≡ 32 → all_digits line (at + (k + 1) * i + 1) k ≡ true → Left (i + 1)
    left_next s d = record { rest = left_turn ∙ rw (eq-eqb _ _ s, d) }

  pub left_none : {i : ℕ} → Left i → count ≤ i → true ≡ all_groups k line at count
  unfolding all_groups
  left_none {i} p h = let z : count - i ≡ 0 = omega arith in sym (p.rest ∙ rw z)

-- a line of the right form is not empty
pub formed_long : (first k : ℕ) (line : List ℕ) → well_formed first k line ≡ true → 0 < length line
unfolding well_formed
formed_long first k [] h = let z : ◌≡◌ {A = ℕ} 0 1 = cc in omega arith
formed_long first k (x ∷ xs) h = omega arith

-- nor is it too long
no_first : (a b c d : Bool) → (a && false && b && c && d) ≡ false
no_first true b c d = refl
no_first false b c d = refl

pub formed_too_long : (first k : ℕ) (line : List ℕ) → longest_line < length line → well_formed first k line ≡ false
unfolding well_formed
formed_too_long first k line h = rw (lt-leb (length line) longest_line h, no_first)

pub formed_short : (first k : ℕ) (line : List ℕ) → well_formed first k line ≡ true → length line ≤ longest_line
formed_short first k line h = go (leb (length line) longest_line) refl
  where
    go : (b : Bool) → leb (length line) longest_line ≡ b → length line ≤ longest_line
    go true e = leb-true (length line) longest_line e
    go false e = absurd (false≢true (sym (formed_too_long first k line (leb-false (length line) longest_line e)) ∙ h))

-- a length that is not 0, and one that is
pub length_some : (n : ℕ) → eqb n 0 ≡ false → leb 1 n ≡ true
length_some n h = le-leb 1 n (let e = eqb-false n 0 h in omega arith)

pub length_none : (n : ℕ) → eqb n 0 ≡ true → leb 1 n ≡ false
length_none n h = lt-leb 1 n (let e = eqb-true n 0 h in omega arith)

-- a digit is below 16, and n digits are below 16 ^ n
below : (b : Bool) (x y : ℕ) → cond b (x % 16) (y % 16) < 16
below true x y = omega arith
below false x y = omega arith

pub digit_lt : (c : ℕ) → digit_of c < 16
unfolding digit_of
digit_lt c = below (ltb c 58) c (c + 9)

pub value_lt : (line : List ℕ) (at n : ℕ) → value_of line at n < 16 ^ n
unfolding value_of
value_lt line at zero = omega arith
value_lt line at (suc n) = rw pow-suc (omega (arith, value_lt line at n, digit_lt (get_or line (at + n) 0)))

-- so one digit more keeps seven digits below 2 ^ 32
pub value_room : (line : List ℕ) (at n : ℕ) → n < 8 → value_of line at n < 268435456
value_room line at n h =
    let p : 16 ^ n ≤ 16 ^ 7 = pow-le-pow_right (lit< tt) {i = n} {j = 7} (omega arith) in omega (arith, value_lt line at n)

pub value_next : (line : List ℕ) (at n : ℕ) → value_of line at (n + 1) ≡ value_of line at n * 16 + digit_of (get_or line (at + n) 0)
unfolding value_of
value_next line at n = rw add-one

-- the words stored so far, and one more behind them
pub firsts_length : (f : ℕ → ℕ) (n : ℕ) → length (firsts f n) ≡ n
unfolding firsts
firsts_length f zero = refl
firsts_length f (suc n) = length-append (firsts f n) _ ∙ omega (arith, firsts_length f n)

firsts_next : {W : Type 0} (word_of : ℕ → W) (f : ℕ → ℕ) (out : List W) (k : ℕ) → k < length out
    → set (overlaid_by word_of (firsts f k) out) k (word_of (f k)) ≡ overlaid_by word_of (firsts f (k + 1)) out
unfolding firsts
firsts_next word_of f out k h =
    let l : length (map word_of (firsts f k)) ≡ k = length-map (firsts f k) word_of ∙ firsts_length f k in
    rw (add-one k, map-append word_of (firsts f k), length-append (firsts f k), firsts_length f k, drop-cons out k (word_of (f k)) h, append_assoc (map word_of (firsts f k)))
    (set_at (map word_of (firsts f k)) _ _ _ k l ∙ rw (← add-one k))

pub firsts_left : (f g : ℕ → ℕ) → ((i : ℕ) → f (suc i) ≡ g i) → (n : ℕ) → firsts f (suc n) ≡ f 0 ∷ firsts g n
unfolding firsts
firsts_left f g h zero = refl
firsts_left f g h (suc n) = rw (h n, firsts_left f g h n)

pub firsts_all : (P : ℕ → Type 0) (f : ℕ → ℕ) → ((i : ℕ) → P (f i)) → (n : ℕ) → All P (firsts f n)
unfolding firsts
firsts_all P f h zero = tt
firsts_all P f h (suc n) = rw (firsts_left f (λ i. f (suc i)) (λ i. refl) n) (h 0, firsts_all P (λ i. f (suc i)) (λ i. h (suc i)) n)

-- numbers below n are their low bits
low_bits : (n : ℕ) (ws : List ℕ) → All (λ (w : ℕ). w < n) ws → map (λ (w : ℕ). w % n) ws ≡ ws
low_bits n [] h = refl
low_bits n (w ∷ ws) (h, g) = rw (mod-eq_of_lt h, low_bits n ws g)

-- what a line gives: words of k digits
given_below : (room first k : ℕ) (line : List ℕ) → All (λ (w : ℕ). w < 16 ^ k) (given (in_word_room room (group_words first k line)))
given_below room first k line = go (well_formed first k line)
  where
    ws : List ℕ
    ws = words_of k line (word_count k line)

    in_room : (l : Bool) → All (λ (w : ℕ). w < 16 ^ k) (given (cond l (done ws) (refused 24 (length ws))))
    in_room true = firsts_all _ _ (λ i. value_lt line (2 + (k + 1) * i) k) (word_count k line)
    in_room false = tt

    go : (f : Bool) → All (λ (w : ℕ). w < 16 ^ k) (given (in_word_room room (cond f (done ws) (refused 30 0))))
    go true = in_room (leb (length ws) room)
    go false = tt

given_low : (room first k : ℕ) (line buffer : List ℕ)
    → let ws = given (in_word_room room (group_words first k line)) in overlaid_by (λ (w : ℕ). w % 16 ^ k) ws buffer ≡ overlaid ws buffer
given_low room first k line buffer =
    let ws = given (in_word_room room (group_words first k line)) in ap (λ (l : List ℕ). l ++ drop (length ws) buffer) (low_bits (16 ^ k) ws (given_below room first k line))

-- a line's words in the buffer of their width, which is 16, or is not
module _ (d : Dialect) (short long line : List ℕ) where
  pub words_short : width d ≡ 16 → {after : List ℕ} → after ≡ overlaid_by (λ (w : ℕ). w % 2 ^ 16) (given (in_word_room (length short) (group_words (letter d) 4 line))) short
      → after ≡ over16 d (given (line_into d (length (of_width d short long)) line)) short
  words_short e h = rw e (h ∙ given_low (length short) (letter d) 4 line short)

  pub words_long : width d ≢ 16 → {after : List ℕ} → after ≡ overlaid_by (λ (w : ℕ). w % 2 ^ 32) (given (in_word_room (length long) (group_words (letter d) 8 line))) long
      → after ≡ over32 d (given (line_into d (length (of_width d short long)) line)) long
  words_long n h =
      let e : width d ≡ 32 = by_width (λ (w : ℕ). w ≢ 16 → w ≡ 32) (λ m. absurd (m refl)) (λ m. refl) d n in
      rw e (h ∙ given_low (length long) (letter d) 8 line long)

-- a line's words, stored one by one behind the letter
module _ {W : Type 0} (word_of : ℕ → W) (first k : ℕ) (line : List ℕ) (out : List W) where
  abbrev stored : Outcome ℕ
  stored = in_word_room (length out) (group_words first k line)

  -- a refused line leaves the buffer as it was
  pub refuse_line : {r : Refusal} → Err r ≡ answer_of stored → out ≡ overlaid_by word_of (given stored) out
  refuse_line e = let r = refused_by stored e in rw r.outcome

  -- with `count` words in all, i of them stand in the buffer
  pub record Filled (count i : ℕ) (buffer : List W) : Type 0 where
    pub in_room : count ≤ length out
    pub in_line : 1 + (k + 1) * count ≤ length line
    pub its_words : stored ≡ done (words_of k line count)
    pub stands : buffer ≡ overlaid_by word_of (words_of k line i) out

  pub fill_none : {count : ℕ} → Ok count ≡ answer_of stored → Filled count 0 out
  unfolding firsts
  fill_none {count} h = go (well_formed first k line) refl (leb (word_count k line) (length out)) refl
    where
      n : ℕ
      n = word_count k line

      go : (f : Bool) → well_formed first k line ≡ f → (r : Bool) → leb n (length out) ≡ r → Filled count 0 out
      go false f r l = let x = rw f at h in impossible cc
      go true f false l = let x = rw (f, firsts_length, l) at h in impossible cc
      go true f true l =
          let x = rw (f, firsts_length, l, firsts_length) at h in
          let c : count ≡ n = cc in
          rw c (record {
            in_room = leb-true _ _ l;
            in_line = omega (arith, formed_long first k line f, mul-div-le (length line - 1) (k + 1));
            its_words = rw (f, firsts_length, l);
            stands = refl;
          })

  pub fill_next : {count i : ℕ} {buffer : List W} {v : W} → Filled count i buffer → i < count → v ≡ word_of (value_of line (2 + (k + 1) * i) k)
      → Filled count (i + 1) (set buffer i v)
  fill_next {count} {i} {buffer} {v} p l e = record {
    in_room = p.in_room;
    in_line = p.in_line;
    its_words = p.its_words;
    stands = rw (p.stands, e) (firsts_next word_of _ out i (omega (arith, p.in_room)));
  }

  pub fill_all : {count : ℕ} {buffer : List W} → Filled count count buffer → buffer ≡ overlaid_by word_of (given stored) out
  fill_all {count} {buffer} p = rw p.its_words p.stands
