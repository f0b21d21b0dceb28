-- A loop over as many rows as a count says, which writes words from each: what it has reached by the number of rows taken, and what a turn does. Over plain values.
-- Assumes nothing.
use Prim.Native.Nat.{ℕ, suc, ◌+◌, ◌*◌, ◌-◌, ◌≤◌, ◌<◌}
use native.Mathlib.Omega.{arith}
use mathlib.Core.Path.{◌≡◌, refl}
use mathlib.Core.Bool.{Bool, false}
use mathlib.Core.List.{List, [], ◌∷◌}
use lib.ListN.{length, get_or, drop}
use Rattle.event.specs.declared.Row.{Row}
use Rattle.event.specs.Parser.{ok, Test, fault_in, Parser, ◌>>=◌, give, times, each}
use Rattle.event.specs.Scanning.{store_words, Writes}
use Rattle.event.specs.Writing.{row_tests, row_with, no_row}
use Rattle.event.proofs.RowFaults.{Numbered}
use Rattle.event.proofs.RowJudged.{row_taken, row_refused}
use Rattle.event.proofs.Turns.{begin}
use Rattle.event.proofs.WritingTurns.{counted, WritesOn, rows_done, rows_refused, rows_taken}
use Rattle.event.specs.declared.refusal.Refusal.{Refusal}
use Rattle.event.specs.Refusal.{PartAnswer, part}
use Rattle.event.proofs.Answers.{Failed}
use Rattle.std.specs.Prelude.{Err, Ok}

-- one more is announced, and none
module _ {E St A : Type 0} (item : St → Parser E A) (next : St → A → St) (s : ℕ × St) (i : ℕ) (l : List E) where
  pub one_more : (m : ℕ) → s.0 ≡ suc m
      → (counted item next).rest s i l ≡ ((counted item next).item s >>= λ a. (counted item next).rest ((counted item next).next s a) >>= λ xs. give (a ∷ xs)) i l
  one_more m e = rw e

  pub no_more : s.0 ≡ 0 → (counted item next).rest s i l ≡ ok [] i l
  no_more e = rw e

-- so many are left, and the state holds
abbrev pub Left : {St : Type 0} → (left : ℕ) → (St → Type 0) → ℕ × St → Type 0
Left left Holds s = (s.0 ≡ left) × Holds s.1

-- k of n items are taken, of a row each from `first` on, and stand before word `at`
pub record CountedTo {St A : Type 0} (width : ℕ) (item : St → Parser Row A) (next : St → A → St) (f : A → List ℕ) (Holds : St → Type 0) (rs : List Row)
    (n : ℕ) (st₀ : St) (first at₀ : ℕ) (b₀ : List ℕ) (k at : ℕ) (b : List ℕ) : Type 0 where
  pub most : k ≤ n
  pub reached : WritesOn width (counted item next) f (Left (n - k) Holds) rs (n, st₀) first at₀ b₀ (first + k) at b

pub counted_begin : {St A : Type 0} {width : ℕ} {item : St → Parser Row A} {next : St → A → St} {f : A → List ℕ} {Holds : St → Type 0} {rs : List Row}
    {n : ℕ} {st : St} {first at : ℕ} {b : List ℕ} → Holds st → first ≤ length rs → at ≤ 4 * first → CountedTo width item next f Holds rs n st first at b 0 at b
counted_begin {n = n} {first = first} h l m =
    let here : first + 0 ≡ first = omega arith in
    let all : n - 0 ≡ n = omega arith in
    record { most = omega arith; reached = rw (here, all) (begin (refl, h) l m) }

module _ {St A : Type 0} (width : ℕ) (stands : St → Row → Bool) (fields : Row → A) (print : St → A → Row) (checks : St → A → List Test) (none : (st : St) → stands st no_row ≡ false)
    (numbered : (st : St) (a : A) → Numbered (checks st a)) {next : St → A → St} {f : A → List ℕ} {Holds : St → Type 0} {rs : List Row} {n : ℕ} {st₀ : St} {first at₀ k at : ℕ} {b₀ b : List ℕ}
    (h : CountedTo width (λ st. row_with (stands st) fields (print st) (checks st)) next f Holds rs n st₀ first at₀ b₀ k at b) where
  abbrev item : St → Parser Row A
  item st = row_with (stands st) fields (print st) (checks st)

  abbrev Written : PartAnswer → List ℕ → Type 0
  Written = Writes width (each f) (times item next n st₀ first (drop first rs)) rs at₀ b₀

  abbrev state : St
  state = h.reached.state.1

  pub counted_done : n ≤ k → Written (Ok (part (first + k) at)) b
  counted_done l = rows_done width h.reached (no_more item next h.reached.state (first + k) (drop (first + k) rs) (let s = h.reached.holds.0 in omega arith))

  module _ (below : k < n) {r : Row} (e : r ≡ get_or rs (first + k) no_row) where
    one : h.reached.state.0 ≡ suc (n - suc k)
    one = let s = h.reached.holds.0 in omega arith

    pub counted_refused : {m : ℕ} {refused : Refusal} (after : List ℕ) → m ≡ fault_in (row_tests (stands state) fields (print state) (checks state) r) → Failed m (first + k) refused
        → Written (Err refused) after
    counted_refused {m} after q t = rows_refused width h.reached (one_more item next h.reached.state (first + k) (drop (first + k) rs) (n - suc k) one) after (record {
      number = m;
      place = first + k;
      refused = row_refused (stands state) fields (print state) (checks state) (none state) (numbered state) rs (first + k) e q t.some;
      named = t.named;
    })

    module _ (q : 0 ≡ fault_in (row_tests (stands state) fields (print state) (checks state) r)) where
      taken : (first + k < length rs) × (item state (first + k) (drop (first + k) rs) ≡ ok (fields r) (first + k + 1) (drop (first + k + 1) rs))
      taken = row_taken (stands state) fields (print state) (checks state) (none state) (numbered state) rs (first + k) e q

      pub counted_next : {Holds' : St → Type 0} {at' : ℕ} {b' : List ℕ} → Holds' (next state (fields r)) → at' ≡ at + length (f (fields r)) → length (f (fields r)) ≤ 4
          → b' ≡ store_words width b at (f (fields r)) → length b' ≡ length b
          → CountedTo width item next f Holds' rs n st₀ first at₀ b₀ (k + 1) at' b'
      counted_next holds c small s z =
          let row : first + (k + 1) ≡ first + k + 1 = omega arith in
          let few = h.reached.few in
          let t = taken in
          record {
            most = omega arith;
            reached = rw row (rows_taken width h.reached (one_more item next h.reached.state (first + k) (drop (first + k) rs) (n - suc k) one) {a = fields r} t.1
                (rw one (omega arith), holds) (omega arith) (omega arith) c s z);
          }
