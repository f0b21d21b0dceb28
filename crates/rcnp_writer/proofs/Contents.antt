-- The loops that judge the rows of a region, one for words as they are, for scalers and for the chamber: what a turn does. Over plain values.
-- Assumes nothing.
use Rattle.std.proofs.Common.{◌≡◌, ℕ, zero, suc, ◌+◌, ◌<◌, ◌≤◌, Bool, true, false, ◌&&◌, T, eqb, ltb, List, [], get_or, drop, sym, refl, subst, arith, lt-ltb, eqb-true}
use borrow.Author.Tests.{eqb-false}
use Rattle.std.specs.Prelude.{Ok, Err}
use Rattle.event.specs.declared.refusal.Refusal.{Refusal}
use Rattle.event.specs.Refusal.{PartAnswer, part}
use Rattle.event.proofs.Answers.{Failed}
use Rattle.event.specs.declared.Row.{Row}
use Rattle.event.specs.Parser.{times, each, alone}
use Rattle.event.specs.Words.{word_alone}
use Rattle.event.specs.Writing.{of_kind, no_row}
use Rattle.event.specs.Scanning.{store_words}
use Rattle.event.proofs.Codes.{T_true}
use Rattle.event.proofs.Elements.{both}
use Rattle.event.proofs.CountedRows.{CountedTo, counted_begin, counted_done, counted_refused, counted_next}
use Rattle.event.proofs.WordStores.{past_the_end}
use Rattle.rcnp_layout.specs.Layout.{scaler_words, word_row, scaler_row, vdc_row, next_index, word_checks, scaler_checks, vdc_checks, begins}
use Rattle.rcnp_layout.specs.Writing.{word, scaler_at, vdc_of, vdc_stands, vdc_value}
use Rattle.rcnp_writer.specs.Faults.{datum_fault, vdc_fault, last_kind, VdcRight, ChamberRight}
use Rattle.rcnp_writer.specs.Parts.{vdc_words, Counts}

-- no word is stored where there is no room
pub none : (at : ℕ) (ws : List ℕ) → [] ≡ store_words 16 [] at ws
none at ws = sym (past_the_end 16 ws [] at (omega arith))

-- k of n words are counted, up to word `at`
abbrev pub Words : List Row → (n first k at : ℕ) → Type 0
Words rs n first k at = CountedTo 16 (λ u. word) alone word_alone (λ u. Unit {0}) rs n tt first 1 [] k at []

module _ {rs : List Row} {n first k at : ℕ} (h : Words rs n first k at) where
  abbrev WordsIn : PartAnswer → Type 0
  WordsIn = Counts (each word_alone) (times (λ u. word) alone n tt first (drop first rs)) rs 1

  pub words_done : n ≤ k → WordsIn (Ok (part (first + k) at))
  words_done = counted_done 16 (λ u. of_kind 33) (λ r. r.datum) (λ u. word_row) (λ u. word_checks 22) (λ u. refl) (λ u w. (tt, tt)) h

  module _ (below : k < n) {r : Row} (e : r ≡ get_or rs (first + k) no_row) where
    pub word_refused : {refused : Refusal} → Failed (datum_fault 33 0 65536 r) (first + k) refused → WordsIn (Err refused)
    unfolding datum_fault
    word_refused = counted_refused 16 (λ u. of_kind 33) (λ r. r.datum) (λ u. word_row) (λ u. word_checks 22) (λ u. refl) (λ u w. (tt, tt)) h below e [] refl

    pub word_next : {at' : ℕ} → 0 ≡ datum_fault 33 0 65536 r → at' ≡ at + 1 → Words rs n first (k + 1) at'
    unfolding datum_fault
    word_next f p = counted_next 16 (λ u. of_kind 33) (λ r. r.datum) (λ u. word_row) (λ u. word_checks 22) (λ u. refl) (λ u w. (tt, tt)) h below e f tt p (omega arith)
        (none at (word_alone r.datum)) refl

-- scalers; the index of the next is the number of those before it
abbrev pub Scalers : List Row → (n first k at : ℕ) → Type 0
Scalers rs n first k at = CountedTo 16 scaler_at next_index scaler_words (λ index. index ≡ k) rs n 0 first 1 [] k at []

module _ {rs : List Row} {n first k at : ℕ} (h : Scalers rs n first k at) where
  abbrev ScalersIn : PartAnswer → Type 0
  ScalersIn = Counts (each scaler_words) (times scaler_at next_index n 0 first (drop first rs)) rs 1

  pub scalers_done : n ≤ k → ScalersIn (Ok (part (first + k) at))
  scalers_done = counted_done 16 (λ i. of_kind 34) (λ r. r.datum) scaler_row (λ i. scaler_checks 22) (λ i. refl) (λ i v. (tt, tt)) h

  module _ (below : k < n) {r : Row} (e : r ≡ get_or rs (first + k) no_row) where
    pub scaler_refused : {refused : Refusal} → Failed (datum_fault 34 k 0x1000000 r) (first + k) refused → ScalersIn (Err refused)
    unfolding datum_fault
    scaler_refused = counted_refused 16 (λ i. of_kind 34) (λ r. r.datum) scaler_row (λ i. scaler_checks 22) (λ i. refl) (λ i v. (tt, tt)) h below e [] (rw h.reached.holds.1)

    pub scaler_next : {at' : ℕ} → 0 ≡ datum_fault 34 k 0x1000000 r → at' ≡ at + 2 → Scalers rs n first (k + 1) at'
    unfolding datum_fault
    scaler_next f p = counted_next 16 (λ i. of_kind 34) (λ r. r.datum) scaler_row (λ i. scaler_checks 22) (λ i. refl) (λ i v. (tt, tt)) h below e (rw h.reached.holds.1 f)
        (let s = h.reached.holds.1 in omega arith) p (omega arith) (none at (scaler_words r.datum)) refl

-- words of the chamber; `begun` where a word came before
abbrev pub Chamber : List Row → (n first : ℕ) → (begun : Bool) → (k at : ℕ) → Type 0
Chamber rs n first begun k at = CountedTo 16 vdc_value begins vdc_words (λ s. s ≡ begun) rs n false first 1 [] k at []

no_zeros : (begun : Bool) → vdc_stands begun no_row ≡ false
no_zeros true = refl
no_zeros false = refl

module _ {rs : List Row} {n first k at : ℕ} {begun : Bool} (h : Chamber rs n first begun k at) where
  abbrev ChamberIn : PartAnswer → Type 0
  ChamberIn = Counts (each vdc_words) (times vdc_value begins n false first (drop first rs)) rs 1

  pub chamber_done : n ≤ k → ChamberIn (Ok (part (first + k) at))
  chamber_done = counted_done 16 vdc_stands vdc_of (λ s. vdc_row) (vdc_checks 22) no_zeros (λ s x. (tt, tt)) h

  module _ (below : k < n) {r : Row} (e : r ≡ get_or rs (first + k) no_row) where
    pub vdc_refused : {refused : Refusal} → Failed (vdc_fault begun r) (first + k) refused → ChamberIn (Err refused)
    unfolding vdc_fault
    vdc_refused = counted_refused 16 vdc_stands vdc_of (λ s. vdc_row) (vdc_checks 22) no_zeros (λ s x. (tt, tt)) h below e [] (rw h.reached.holds.1)

    pub vdc_next : {at' : ℕ} → 0 ≡ vdc_fault begun r → at' ≡ at + 1 → Chamber rs n first true (k + 1) at'
    unfolding vdc_fault
    vdc_next f p = counted_next 16 vdc_stands vdc_of (λ s. vdc_row) (vdc_checks 22) no_zeros (λ s x. (tt, tt)) h below e (rw h.reached.holds.1 f)
        refl p (omega arith) (none at (vdc_words (vdc_of r))) refl

-- the rows from `first` on are right, k of them, and one more
abbrev pub RightTo : List Row → (first k : ℕ) → Type 0
RightTo rs first k = (j : ℕ) → j < k → 0 ≡ vdc_fault (ltb 0 j) (get_or rs (first + j) no_row)

pub right_next : (rs : List Row) (first k : ℕ) {most : ℕ} (right more : Bool) {r : Row} → (right ≡ true → RightTo rs first k) → most ≡ last_kind (ltb 0 k) → r ≡ get_or rs (first + k) no_row
    → VdcRight r most more → right && more ≡ true → RightTo rs first (k + 1)
right_next rs first k right more before m e v t j h = go (eqb j k) refl
  where
    held : T right × T more
    held = both right more (rw t tt)

    go : (b : Bool) → eqb j k ≡ b → 0 ≡ vdc_fault (ltb 0 j) (get_or rs (first + j) no_row)
    go true q = rw (eqb-true j k q, ← e) (v.kept (T_true more held.1) (ltb 0 k) m)
    go false q = before (T_true right held.0) j (omega (arith, eqb-false j k q))

one_after : (k : ℕ) → k + 1 ≡ suc k
one_after k = omega arith

-- rows that were found right, k of them
module _ (rs : List Row) (n first : ℕ) (some : 1 ≤ first) (right : ChamberRight rs first n) where
  chamber_first : Chamber rs n first (ltb 0 0) 0 (1 + 0)
  chamber_first = counted_begin refl (omega (arith, right.inside)) (omega arith)

  chamber_more : (k : ℕ) → k < n → Chamber rs n first (ltb 0 k) k (1 + k) → Chamber rs n first (ltb 0 (k + 1)) (k + 1) (1 + (k + 1))
  chamber_more k h c = rw (lt-ltb 0 (k + 1) (omega arith)) (vdc_next c h refl (right.each k h) (omega arith))

  chamber_to : (k : ℕ) → k ≤ n → Chamber rs n first (ltb 0 k) k (1 + k)
  chamber_to zero h = chamber_first
  chamber_to (suc k) h = subst (λ (j : ℕ). Chamber rs n first (ltb 0 j) j (1 + j)) (one_after k) (chamber_more k (omega arith) (chamber_to k (omega arith)))

  pub chamber_right : Counts (each vdc_words) (times vdc_value begins n false first (drop first rs)) rs 1 (Ok (part (first + n) (1 + n)))
  chamber_right = chamber_done (chamber_to n (omega arith)) (omega arith)
