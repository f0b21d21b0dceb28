-- The groups of a CRDC word by word: what is left after a word, by the parsers of the layout.
-- Assumes nothing.
use Prim.Native.Nat.{ℕ, suc, ◌+◌, ◌*◌, ◌/◌, ◌%◌, ◌^◌, ◌≤◌, ◌<◌}
use native.Mathlib.Omega.{arith}
use mathlib.Core.Path.{◌≡◌, refl, ◌∙◌}
use mathlib.Core.Bool.{Bool, true, false, cond, not}
use mathlib.Core.List.{List, [], ◌∷◌, ◌++◌, map}
use lib.Dec.{leb, eqb}
use borrow.Author.Tests.{eq-eqb, ne_eqb, lt-ltb, le-ltb, le-leb, lt-leb, leb-true, leb-false}
use Rattle.event.specs.declared.Row.{Row}
use Rattle.event.specs.Parser.{Result, ok, refuse, Parser, then, ended, ◌>>=◌, give, require, checked, many, several, each, alone}
use Rattle.event.specs.Scanning.{Leads}
use Rattle.event.proofs.Many.{many_step, many_stop}
use Rattle.s800_layout.specs.Event.{SampleDatum, Group}
use Rattle.s800_layout.specs.Layout.{sample_head_word, sample_datum_word, sample_datum_row, group_rows, above, has_data}
use Rattle.s800_layout.specs.Reading.{sample_head_of, sample_datum_of, sample_datum, is_at_head, group}
use Rattle.s800_layout.proofs.Words.{codes_sample_datum, no_head, codes_group, group_again, group_last}

-- The energies left of a group, and the groups after it; and their rows, `head` being the group's head.
pub record Rest : Type 0 where
  pub energies : List SampleDatum
  pub groups : List Group

abbrev pub rest_rows : (head : ℕ) → Rest → List Row
rest_rows head r = map (sample_datum_row (sample_head_of head)) r.energies ++ each group_rows r.groups

-- the group, whose head is at place p, needs a data word where none came yet
abbrev enough : (least : ℕ) → List SampleDatum → Bool
enough least xs = cond (eqb least 0) (not (ended xs)) true

abbrev after_data : (least p : ℕ) → List SampleDatum → Parser ℕ Rest
after_data least p xs = require (enough least xs) 10 p >>= λ u. several group ended >>= λ gs. give (record { energies = xs; groups = gs })

abbrev pub rest : (least p : ℕ) → Parser ℕ Rest
rest least p = many sample_datum above is_at_head least >>= after_data least p

abbrev ahead : List Group → Rest
ahead gs = record { energies = []; groups = gs }

abbrev pub with_head : (w : ℕ) → Rest → Rest
with_head w r = ahead (record { head = sample_head_of w; energies = r.energies } ∷ r.groups)

abbrev pub with_datum : (w : ℕ) → Rest → Rest
with_datum w r = record { energies = sample_datum_of w ∷ r.energies; groups = r.groups }

-- a group that may end
at_head : (least p i : ℕ) (s : List ℕ) → (least ≡ 0 → ⊥) → is_at_head s ≡ true → rest least p i s ≡ then (λ gs. give (ahead gs)) (several group ended i s)
at_head least p i s n a = rw (many_stop sample_datum above is_at_head least i s a, ne_eqb least 0 n)

several_step : (i w : ℕ) (s : List ℕ) → several group ended i (w ∷ s) ≡ (group >>= λ g. several group ended >>= λ gs. give (g ∷ gs)) i (w ∷ s)
several_step i w s = many_step alone (λ u. codes_group) (λ u. group_again) ended group_last (λ u a g r. refl) refl tt i (w ∷ s) refl

-- a word with bit 15
module _ (i w : ℕ) (s : List ℕ) (h : 2 ^ 15 ≤ w) where
  pub head_again : (p : ℕ) → rest 0 p i (w ∷ s) ≡ refuse 10 p
  head_again p = rw (many_stop sample_datum above is_at_head 0 i (w ∷ s) (le-leb (2 ^ 15) w h))

  module _ (f : w < 2 ^ 16) where
    same_head : eqb w (sample_head_word (sample_head_of w)) ≡ true
    same_head = eq-eqb w (sample_head_word (sample_head_of w)) (let e : w ≡ 2 ^ 15 + w / 2 ^ 6 % 2 ^ 9 * 2 ^ 6 + w % 2 ^ 6 = omega arith in e)

    head_read : group i (w ∷ s) ≡ then (λ xs. checked has_data 10 i (record { head = sample_head_of w; energies = xs })) (many sample_datum above is_at_head 0 (suc i) s)
    head_read = rw (same_head, lt-ltb (w / 2 ^ 6 % 2 ^ 9) (2 ^ 9) (omega arith), lt-ltb (w % 2 ^ 6) (2 ^ 6) (omega arith))

    pub head_taken : (least p : ℕ) → (least ≡ 0 → ⊥) → rest least p i (w ∷ s) ≡ then (λ r. give (with_head w r)) (rest 0 i (suc i) s)
    head_taken least p n = at_head least p i (w ∷ s) n (le-leb (2 ^ 15) w h) ∙ rw (several_step i w s, head_read) (go (many sample_datum above is_at_head 0 (suc i) s))
      where
        go : (x : Result ℕ (List SampleDatum))
            → then (λ gs. give (ahead gs)) (then (λ g. several group ended >>= λ gs. give (g ∷ gs)) (then (λ xs. checked has_data 10 i (record { head = sample_head_of w; energies = xs })) x))
            ≡ then (λ r. give (with_head w r)) (then (after_data 0 i) x)
        go (refuse m k) = refl
        go (ok [] j r) = refl
        go (ok (d ∷ ds) j r) = others (several group ended j r)
          where
            others : (y : Result ℕ (List Group)) → then (λ gs. give (ahead gs)) (then (λ gs. give (record { head = sample_head_of w; energies = d ∷ ds } ∷ gs)) y)
                ≡ then (λ r. give (with_head w r)) (then (λ gs. give (record { energies = d ∷ ds; groups = gs })) y)
            others (ok gs k t) = refl
            others (refuse m k) = refl

-- a word without bit 15
module _ (least p i w : ℕ) (s : List ℕ) (h : w < 2 ^ 15) where
  same_word : eqb w (sample_datum_word (sample_datum_of w)) ≡ true
  same_word = eq-eqb w (sample_datum_word (sample_datum_of w)) (let e : w ≡ w / 2 ^ 10 * 2 ^ 10 + w % 2 ^ 10 = omega arith in e)

  data_step : many sample_datum above is_at_head least i (w ∷ s) ≡ (sample_datum least >>= λ a. many sample_datum above is_at_head (above least a) >>= λ xs. give (a ∷ xs)) i (w ∷ s)
  data_step = many_step above codes_sample_datum (λ st a g r. tt) is_at_head (λ r t. tt) no_head refl least i (w ∷ s) (lt-leb (2 ^ 15) w h)

  pub datum_high : 2 ^ 12 ≤ w → rest least p i (w ∷ s) ≡ refuse 10 i
  datum_high g = rw (data_step, same_word, le-ltb (w / 2 ^ 10) (2 ^ 2) (omega arith))

  pub datum_falls : w < 2 ^ 12 → w / 2 ^ 10 < least → rest least p i (w ∷ s) ≡ refuse 10 i
  datum_falls g l = rw (data_step, same_word, lt-ltb (w / 2 ^ 10) (2 ^ 2) (omega arith), lt-ltb (w % 2 ^ 10) (2 ^ 10) (omega arith), lt-leb least (w / 2 ^ 10) l)

  pub datum_taken : w < 2 ^ 12 → least ≤ w / 2 ^ 10 → rest least p i (w ∷ s) ≡ then (λ r. give (with_datum w r)) (rest (suc (w / 2 ^ 10)) p (suc i) s)
  datum_taken g l =
      rw (data_step, same_word, lt-ltb (w / 2 ^ 10) (2 ^ 2) (omega arith), lt-ltb (w % 2 ^ 10) (2 ^ 10) (omega arith), le-leb least (w / 2 ^ 10) l)
      (go (many sample_datum above is_at_head (suc (w / 2 ^ 10)) (suc i) s))
    where
      go : (x : Result ℕ (List SampleDatum)) → then (after_data least p) (then (λ xs. give (sample_datum_of w ∷ xs)) x) ≡ then (λ r. give (with_datum w r)) (then (after_data (suc (w / 2 ^ 10)) p) x)
      go (refuse m k) = refl
      go (ok ds j r) = rw (ne_eqb (suc (w / 2 ^ 10)) 0 (λ e. omega arith)) (first (eqb least 0))
        where
          others : (y : Result ℕ (List Group)) → then (λ gs. give (record { energies = sample_datum_of w ∷ ds; groups = gs })) y
              ≡ then (λ r. give (with_datum w r)) (then (λ gs. give (record { energies = ds; groups = gs })) y)
          others (ok gs k t) = refl
          others (refuse m k) = refl

          first : (b : Bool) → (require (cond b true true) 10 p >>= λ u. several group ended >>= λ gs. give (record { energies = sample_datum_of w ∷ ds; groups = gs })) j r
              ≡ then (λ r. give (with_datum w r)) (then (λ gs. give (record { energies = ds; groups = gs })) (several group ended j r))
          first true = others (several group ended j r)
          first false = others (several group ended j r)

-- at the end
pub end_reached : (least p i : ℕ) → (least ≡ 0 → ⊥) → rest least p i [] ≡ ok (ahead []) i []
end_reached least p i n = at_head least p i [] n refl

-- at the beginning: as after connector 3
begins : (p i : ℕ) (s : List ℕ) → rest 4 p i s ≡ then (λ gs. give (ahead gs)) (several group ended i s)
begins p i [] = at_head 4 p i [] (λ e. omega arith) refl
begins p i (w ∷ s) = go (leb (2 ^ 15) w) refl (leb (2 ^ 12) w) refl
  where
    go : (a : Bool) → leb (2 ^ 15) w ≡ a → (b : Bool) → leb (2 ^ 12) w ≡ b → rest 4 p i (w ∷ s) ≡ then (λ gs. give (ahead gs)) (several group ended i (w ∷ s))
    go true e b d = at_head 4 p i (w ∷ s) (λ e. omega arith) e
    go false e true d = datum_high 4 p i w s (leb-false (2 ^ 15) w e) (leb-true (2 ^ 12) w d) ∙ headless
      where
        headless : refuse 10 i ≡ then (λ gs. give (ahead gs)) (several group ended i (w ∷ s))
        headless = rw (several_step i w s, ne_eqb w (sample_head_word (sample_head_of w)) (λ q. omega (arith, leb-false (2 ^ 15) w e)))
    go false e false d = datum_falls 4 p i w s (leb-false (2 ^ 15) w e) (leb-false (2 ^ 12) w d) (omega (arith, leb-false (2 ^ 12) w d)) ∙ headless
      where
        headless : refuse 10 i ≡ then (λ gs. give (ahead gs)) (several group ended i (w ∷ s))
        headless = rw (several_step i w s, ne_eqb w (sample_head_word (sample_head_of w)) (λ q. omega (arith, leb-false (2 ^ 15) w e)))

pub leads_begin : (head p i : ℕ) (s : List ℕ) (k : ℕ) (b : List ℕ) → Leads (rest_rows head) (rest 4 p i s) k b (each group_rows) (several group ended i s) k b
leads_begin head p i s k b = rw (begins p i s) (go (several group ended i s))
  where
    go : (x : Result ℕ (List Group)) → Leads (rest_rows head) (then (λ gs. give (ahead gs)) x) k b (each group_rows) x k b
    go (ok gs j r) = record { leads = λ res l t. record { answered = t.answered; stored = t.stored } }
    go (refuse m n) = record { leads = λ res l t. record { answered = t.answered; stored = tt } }
