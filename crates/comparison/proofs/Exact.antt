-- A list of differences is exactly the differing indices, in rising order; so for words and for rows.
-- Assumes nothing.
use mathlib.Core.Path.{◌≡◌, refl, sym, ap, ◌∙◌, subst}
use mathlib.Core.Logic.{⊎_elim, ◌↔◌}
use mathlib.Core.Bool.{Bool, true, false, cond}
use mathlib.Core.List.Memᴰ
use mathlib.Core.List.{List, [], ◌∷◌, ◌++◌, append-nil, Memᴰ}
use Prim.Native.Nat.{ℕ, zero, suc, ◌+◌, ◌/◌, ◌≤◌, ◌<◌}
use native.Mathlib.Nat.{zero-add, add-zero}
use native.Mathlib.Omega.{arith}
use lib.Dec.{eqb, ltb}
use lib.ListN.{length, take, take-append-drop, drop_of_length-le}
use lib.Seq.{take_all}
use borrow.Author.Tests.{eqb-true, eq-eqb, le-ltb, ltb-false}
use Rattle.event.specs.declared.Row.{Row}
use Rattle.event.specs.declared.StampOrder.{StampOrder}
use Rattle.event.specs.Outcome.{Outcome, done, refused}
use Rattle.event.specs.Parser.{All}
use Rattle.event.specs.Writing.{is_same_row}
use Rattle.event.proofs.Impossible.{impossible}
use Rattle.event.proofs.Stores.{over, within}
use Rattle.event.proofs.RowCodes.{same_fields, fields_same}
use Rattle.dialects.specs.declared.Dialect.{Dialect}
use Rattle.dialects.specs.declared.Dialect.TheVariants.{S, F, R}
use Rattle.dialects.specs.Dialects.{reading}
use Rattle.comparison.specs.Comparing.{differing_words, differing_rows, reading_of, rows_apart}
use Rattle.comparison.specs.Differences.{Difference, difference, differences_from, differences, tail_of}
use Rattle.comparison.specs.Claims.{Stands, Apart, Rising, WordsExact, SameWords, RowsExact, NoRows, SameRows, RoomExact, OwnWidth, OtherWidth, TailExact}

-- a test that tells whether two are the same
abbrev Tells : {A : Type 0} → (A → A → Bool) → Type 0
Tells {A} same = (x y : A) → (same x y ≡ true) ↔ (x ≡ y)

module _ {A : Type 0} (same : A → A → Bool) where
  differ : Tells same → (x y : A) (t : Bool) → same x y ≡ t → (x ≡ y → ⊥) → same x y ≡ false
  differ tells x y true e n = absurd (n ((tells x y).0 e))
  differ tells x y false e n = e

  skip : (t : Bool) (r : Difference A) {d : Difference A} {l : List (Difference A)} → Memᴰ d l → Memᴰ d (cond t l (r ∷ l))
  skip true r m = m
  skip false r m = Memᴰ.tail m

  none_missed : Tells same → (a b : List A) (i k : ℕ) (x y : A) → Stands a k x → Stands b k y → (x ≡ y → ⊥) → Memᴰ (difference (i + k) x y) (differences_from same i a b)
  unfolding differences_from
  none_missed tells [] b i k x y s u n = absurd s
  none_missed tells (v ∷ vs) [] i k x y s u n = absurd u
  none_missed tells (v ∷ vs) (w ∷ ws) i zero x y s u n =
      let e : same v w ≡ false = differ tells v w (same v w) refl (λ q. n (s ∙ q ∙ sym u)) in
      rw (e, add-zero) (Memᴰ.head {x = difference i v w} (rw (s, u)))
  none_missed tells (v ∷ vs) (w ∷ ws) i (suc k) x y s u n =
      let e : i + suc k ≡ i + 1 + k = omega arith in
      skip (same v w) (difference i v w) (rw e (none_missed tells vs ws (i + 1) k x y s u n))

  record Found (a b : List A) (i : ℕ) (d : Difference A) : Type 0 where
    pub place : ℕ
    pub index : d.index ≡ i + place
    pub first : Stands a place d.first
    pub second : Stands b place d.second
    pub apart : d.first ≡ d.second → ⊥

  none_made_up : Tells same → (a b : List A) (i : ℕ) {d : Difference A} → Memᴰ d (differences_from same i a b) → Found a b i d
  unfolding differences_from
  none_made_up tells [] b i m = absurd (Memᴰ.not-nil m)
  none_made_up tells (x ∷ xs) [] i m = absurd (Memᴰ.not-nil m)
  none_made_up tells (x ∷ xs) (y ∷ ys) i {d} m = split (same x y) refl m (λ n. none_made_up tells xs ys (i + 1) n)
    where
      further : Found xs ys (i + 1) d → Found (x ∷ xs) (y ∷ ys) i d
      further f = record { place = suc f.place; index = omega (arith, f.index); first = f.first; second = f.second; apart = f.apart }

      split : (t : Bool) → same x y ≡ t → Memᴰ d (cond t (differences_from same (i + 1) xs ys) (difference i x y ∷ differences_from same (i + 1) xs ys))
          → (Memᴰ d (differences_from same (i + 1) xs ys) → Found xs ys (i + 1) d) → Found (x ∷ xs) (y ∷ ys) i d
      split true q m rec = further (rec m)
      split false q m rec = ⊎_elim
          (λ h.
          let f : d.first ≡ x = ap (λ (e : Difference A). e.first) h in
          let s : d.second ≡ y = ap (λ (e : Difference A). e.second) h in
          record {
            place = 0;
            index = ap (λ (e : Difference A). e.index) h ∙ sym (add-zero i);
            first = f;
            second = s;
            apart = λ r. let z : same x y ≡ true = (tells x y).1 (sym f ∙ r ∙ s) in impossible cc;
          })
          (λ n. further (rec n)) (Memᴰ.cases_cons m)

  above : (a b : List A) (i j : ℕ) → j < i → All (λ e. j < e.index) (differences_from same i a b)
  unfolding differences_from
  above [] b i j h = tt
  above (x ∷ xs) [] i j h = tt
  above (x ∷ xs) (y ∷ ys) i j h = go (same x y) (differences_from same (i + 1) xs ys) (above xs ys (i + 1) j (omega arith))
    where
      go : (t : Bool) (l : List (Difference A)) → All (λ e. j < e.index) l → All (λ e. j < e.index) (cond t l (difference i x y ∷ l))
      go true l r = r
      go false l r = (h, r)

  rising_from : (a b : List A) (i : ℕ) → Rising (differences_from same i a b)
  unfolding differences_from
  rising_from [] b i = tt
  rising_from (x ∷ xs) [] i = tt
  rising_from (x ∷ xs) (y ∷ ys) i = go (same x y) (differences_from same (i + 1) xs ys) (above xs ys (i + 1) i (omega arith)) (rising_from xs ys (i + 1))
    where
      go : (t : Bool) (l : List (Difference A)) → All (λ e. i < e.index) l → Rising l → Rising (cond t l (difference i x y ∷ l))
      go true l q r = r
      go false l q r = (q, r)

  none_of_same : Tells same → (a : List A) (i : ℕ) → differences_from same i a a ≡ []
  unfolding differences_from
  none_of_same tells [] i = refl
  none_of_same tells (x ∷ xs) i = rw ((tells x x).1 refl) (none_of_same tells xs (i + 1))

  same_of_none : Tells same → (a b : List A) (i : ℕ) → length a ≡ length b → differences_from same i a b ≡ [] → a ≡ b
  unfolding differences_from
  same_of_none tells [] [] i l e = refl
  same_of_none tells [] (y ∷ ys) i l e = absurd (omega arith)
  same_of_none tells (x ∷ xs) [] i l e = absurd (omega arith)
  same_of_none tells (x ∷ xs) (y ∷ ys) i l e = go (same x y) refl e (λ q. same_of_none tells xs ys (i + 1) (omega arith) q)
    where
      go : (t : Bool) → same x y ≡ t → cond t (differences_from same (i + 1) xs ys) (difference i x y ∷ differences_from same (i + 1) xs ys) ≡ []
          → (differences_from same (i + 1) xs ys ≡ [] → xs ≡ ys) → x ∷ xs ≡ y ∷ ys
      go true q e rec = rw ((tells x y).0 q, rec e)
      go false q e rec = impossible cc

  module _ (tells : Tells same) (a b : List A) where
    exact : (d : Difference A) → Memᴰ d (differences same a b) ↔ Apart a b d
    exact d = (λ m. to (none_made_up tells a b 0 m), from)
      where
        to : Found a b 0 d → Apart a b d
        to f =
            let e : f.place ≡ d.index = sym (f.index ∙ zero-add f.place) in
            (subst (λ (n : ℕ). Stands a n d.first) e f.first, subst (λ (n : ℕ). Stands b n d.second) e f.second, f.apart)

        from : Apart a b d → Memᴰ d (differences same a b)
        from h =
            let m = none_missed tells a b 0 d.index d.first d.second h.0 h.1 h.2 in
            subst (λ (n : ℕ). Memᴰ (difference n d.first d.second) (differences same a b)) (zero-add d.index) m

    none_if_same : length a ≡ length b → (differences same a b ≡ []) ↔ (a ≡ b)
    none_if_same l = (same_of_none tells a b 0 l, λ e. subst (λ (c : List A). differences same a c ≡ []) e (none_of_same tells a 0))

-- words
tells_words : Tells eqb
tells_words x y = (eqb-true x y, eq-eqb x y)

pub words_exact : WordsExact
words_exact a b = (rising_from eqb a b 0, exact eqb tells_words a b)

pub same_words : SameWords
same_words = none_if_same eqb tells_words

-- rows
tells_rows : Tells is_same_row
tells_rows r s = (to, from)
  where
    to : is_same_row r s ≡ true → r ≡ s
    to e = let h = same_fields r s (rw e tt) in λ i. record { kind = h.0 i; unit = h.1 i; channel = h.2 i; datum = h.3 i }

    from : r ≡ s → is_same_row r s ≡ true
    from e = fields_same r s (ap (λ (q : Row). q.kind) e, ap (λ (q : Row). q.unit) e, ap (λ (q : Row). q.channel) e, ap (λ (q : Row). q.datum) e)

pub rows_exact : RowsExact
rows_exact bits k o a b rs ss e f = rw (e, f) (rising_from is_same_row rs ss 0, exact is_same_row tells_rows rs ss)

pub same_rows : SameRows
same_rows bits k o a b rs ss e f l = rw (e, f) (none_if_same is_same_row tells_rows rs ss l)

pub second_refused : (x : Outcome Row) (n k : ℕ) → differing_rows x (refused n k) ≡ []
second_refused (done rs) n k = refl
second_refused (refused m j) n k = refl

pub no_rows : NoRows
no_rows bits k o a b n p = ⊎_elim (λ e. rw e) (λ e. rw e (second_refused (reading_of bits k o a) n p))

-- room
pub room_exact : RoomExact
room_exact bits k o a b m n =
    let ds = differing_words a b in
    let es = rows_apart bits k o a b in (
      λ h. rw (over 25 (m / 3) ds h),
      λ g h. rw (within 25 (m / 3) ds g, over 25 (n / 9) es h),
      λ g h. rw (within 25 (m / 3) ds g, within 25 (n / 9) es h),
    )

-- widths
pub own_width : OwnWidth
own_width S o ws = refl
own_width F o ws = refl
own_width R o ws = refl

nothing_read : (k : Dialect) (o : StampOrder) → reading k o [] ≡ refused 1 0
nothing_read S o = refl
nothing_read F o = refl
nothing_read R o = refl

pub other_width : OtherWidth
other_width bits k o a b e = rw (e, nothing_read k o)

-- the tail
none_beyond : (a b : List ℕ) → length a ≡ length b → tail_of a b ≡ []
none_beyond a b e = rw (le-ltb (length a) (length b) (omega arith)) (drop_of_length-le a {i = length b} (omega arith))

pub tail_exact : TailExact
tail_exact a b = (second, first, none_beyond a b)
  where
    first : length b ≤ length a → take (length b) a ++ tail_of a b ≡ a
    first h = rw (le-ltb (length a) (length b) h) (take-append-drop (length b) a)

    second : length a ≤ length b → take (length a) b ++ tail_of a b ≡ b
    second h = go (ltb (length a) (length b)) refl
      where
        go : (t : Bool) → ltb (length a) (length b) ≡ t → take (length a) b ++ tail_of a b ≡ b
        go true e = rw e (take-append-drop (length a) b)
        go false e =
            let q : length a ≡ length b = omega (arith, ltb-false (length a) (length b) e) in
            rw (none_beyond a b q) (append-nil (take (length a) b) ∙ take_all (length a) b (omega arith))
