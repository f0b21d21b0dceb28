-- The loops over the words of a CRDC's groups: what they have reached, and one turn each. Over plain values.
-- Assumes nothing.
use Prim.Native.Nat.{ℕ, suc, ◌+◌, ◌-◌, ◌/◌, ◌^◌, ◌≤◌, ◌<◌}
use native.Mathlib.Numerals.{add-one}
use native.Mathlib.Omega.{arith}
use mathlib.Core.Path.{◌≡◌, refl, sym, ◌∙◌, subst}
use mathlib.Core.Bool.{Bool, true, false, cond, ◌&&◌, ◌||◌}
use mathlib.Core.List.{List, [], ◌∷◌, ◌++◌, append_assoc, append-nil}
use lib.Dec.{ltb, leb, eqb}
use lib.ListN.{length, get_or, length-append}
use lib.Seq.{slice, slice_empty}
use borrow.Author.Tests.{eqb-true, eqb-false, lt-ltb, le-ltb, ltb-true, ltb-false, le-leb, lt-leb, leb-true, leb-false}
use Rattle.event.specs.declared.Row.{Row}
use Rattle.event.specs.Parser.{ok, refuse, then, give, each}
use Rattle.event.specs.Rows.{store_row}
use Rattle.event.specs.Scanning.{store_rows, Leads}
use Rattle.event.proofs.Impossible.{impossible}
use Rattle.event.proofs.Leads.{leads_part, leads_trans, scanned_refuse, scanned_none, refused_scan, store_append}
use Rattle.event.proofs.Turns.{at_word}
use Rattle.s800_layout.specs.Layout.{sample_head_row, sample_datum_row, group_rows}
use Rattle.s800_layout.specs.Reading.{sample_head_of, sample_datum_of}
use Rattle.s800_reader.specs.Groups.{FaultAt, is_head, follows, word_row, word_rows, groups_in, Judged}
use Rattle.s800_reader.proofs.GroupWords.{Rest, rest_rows, rest, with_head, with_datum, leads_begin, head_again, head_taken, datum_high, datum_falls, datum_taken, end_reached}
use Rattle.event.specs.Refusal.{refusal}
use Rattle.std.specs.Prelude.{Err}

-- the least connector of a data word after this word
abbrev pub least_after : ℕ → ℕ
least_after w = cond (is_head w) 0 (suc (w / 2 ^ 10))

-- The words up to i are groups, the last of which, with its head at `place`, may be without a data word yet (`least` is then 0); a scan of what is left ends as
-- that of all does.
pub record Reach (ws : List ℕ) (from end place least i : ℕ) : Type 0 where
  pub inside : i ≤ end
  pub head : ℕ
  pub done : List Row
  pub count : from + length done ≡ i
  pub split : word_rows 0 (slice from end ws) ≡ done ++ word_rows head (slice i end ws)
  pub leads : (k : ℕ) (b : List ℕ)
      → Leads (rest_rows head) (rest least place i (slice i end ws)) (k + length done) (store_rows b k done) (each group_rows) (groups_in ws from end) k b

pub begin : {ws : List ℕ} {from end : ℕ} (place : ℕ) → from ≤ end → Reach ws from end place 4 from
begin {ws} {from} {end} place l = record {
  inside = l;
  head = 0;
  done = [];
  count = omega arith;
  split = refl;
  leads = λ k b. let e : k + 0 ≡ k = omega arith in rw e (leads_begin 0 place from (slice from end ws) k b);
}

module _ {ws : List ℕ} {from end place least i : ℕ} (h : Reach ws from end place least i) where
  -- one word more, with its row
  took : (row : Row) (head' place' least' : ℕ) (g : Rest → Rest) → i < end
      → rest least place i (slice i end ws) ≡ then (λ r. give (g r)) (rest least' place' (i + 1) (slice (i + 1) end ws))
      → ((r : Rest) → rest_rows h.head (g r) ≡ row ∷ rest_rows head' r) → word_rows h.head (slice i end ws) ≡ row ∷ word_rows head' (slice (i + 1) end ws)
      → Reach ws from end place' least' (i + 1)
  took row head' place' least' g l e f s =
      let n = length-append h.done (row ∷ []) in
      record {
        inside = omega arith;
        head = head';
        done = h.done ++ (row ∷ []);
        count = omega (arith, h.count, n);
        split = h.split ∙ rw s (sym (append_assoc h.done (row ∷ []) (word_rows head' (slice (i + 1) end ws))));
        leads = λ k b.
            let m : k + length (h.done ++ (row ∷ [])) ≡ k + length h.done + 1 = omega (arith, n) in
            let x = rest least' place' (i + 1) (slice (i + 1) end ws) in
            rw (m, store_append store_row b k h.done (row ∷ []))
            (leads_trans (rw e (leads_part (row ∷ []) (rest_rows head') x g (rest_rows h.head) (k + length h.done) (store_rows b k h.done) f)) (h.leads k b));
      }

  -- what is left is refused, and so is all
  stops : {p : ℕ} → rest least place i (slice i end ws) ≡ refuse 10 p → FaultAt ws from end p
  stops {p} e =
      let s = scanned_refuse (rest_rows h.head) (0 + length h.done) (store_rows [] 0 h.done) [] e in
      refused_scan (each group_rows) (groups_in ws from end) ((h.leads 0 []).leads (Err (refusal 10 p)) [] s)

  -- no word is left
  pub ends_well : i ≡ end → (least ≡ 0 → ⊥) → Judged ws from end true
  ends_well e n k b =
      let empty : slice i end ws ≡ [] = rw e (slice_empty end ws) in
      let all : word_rows 0 (slice from end ws) ≡ h.done = h.split ∙ rw empty (append-nil h.done) in
      let m : k + (end - from) ≡ k + length h.done = omega (arith, h.count) in
      let left : rest least place i (slice i end ws) ≡ ok (record { energies = []; groups = [] }) i [] = rw empty (end_reached least place i n) in
      rw (all, m) ((h.leads k b).leads _ _ (scanned_none (rest_rows h.head) (k + length h.done) (store_rows b k h.done) left refl))

  pub ends_short : i ≡ end → least ≡ 0 → FaultAt ws from end place
  ends_short e n = stops (rw (e, n, slice_empty end ws))

  module _ (below : i < end) (long : end ≤ length ws) {w : ℕ} (p : w ≡ get_or ws i 0) where
    here : slice i end ws ≡ w ∷ slice (i + 1) end ws
    here = rw (p, add-one i) (at_word ws i end below long)

    head_next : 2 ^ 15 ≤ w → w < 2 ^ 16 → (least ≡ 0 → ⊥) → Reach ws from end i 0 (i + 1)
    unfolding word_row
    head_next a f n = took (sample_head_row (sample_head_of w)) w i 0 (with_head w) below
        (rw (here, add-one i) (head_taken i w (slice (suc i) end ws) a f least place n)) (λ r. refl) (rw here row)
      where
        row : word_rows h.head (w ∷ slice (i + 1) end ws) ≡ sample_head_row (sample_head_of w) ∷ word_rows w (slice (i + 1) end ws)
        row = rw (le-leb (2 ^ 15) w a)

    datum_next : w < 2 ^ 12 → least ≤ w / 2 ^ 10 → Reach ws from end place (suc (w / 2 ^ 10)) (i + 1)
    unfolding word_row
    datum_next a l = took (sample_datum_row (sample_head_of h.head) (sample_datum_of w)) h.head place (suc (w / 2 ^ 10)) (with_datum w) below
        (rw (here, add-one i) (datum_taken least place i w (slice (suc i) end ws) (omega arith) a l)) (λ r. refl) (rw here row)
      where
        row : word_rows h.head (w ∷ slice (i + 1) end ws) ≡ sample_datum_row (sample_head_of h.head) (sample_datum_of w) ∷ word_rows h.head (slice (i + 1) end ws)
        row = rw (lt-leb (2 ^ 15) w (omega arith))

    head_stops : 2 ^ 15 ≤ w → least ≡ 0 → FaultAt ws from end place
    head_stops a n = stops (rw (here, n) (head_again i w (slice (i + 1) end ws) a place))

    datum_stops : w < 2 ^ 15 → (w < 2 ^ 12 → w / 2 ^ 10 < least) → FaultAt ws from end i
    datum_stops a f = go (leb (2 ^ 12) w) refl
      where
        go : (b : Bool) → leb (2 ^ 12) w ≡ b → FaultAt ws from end i
        go true e = stops (rw here (datum_high least place i w (slice (i + 1) end ws) a (leb-true (2 ^ 12) w e)))
        go false e = let l = leb-false (2 ^ 12) w e in stops (rw here (datum_falls least place i w (slice (i + 1) end ws) a l (f l)))

-- a word by the one before it
follows_head : (before w : ℕ) → 2 ^ 15 ≤ w → follows before w ≡ ltb before (2 ^ 15)
unfolding follows
follows_head before w h = rw (le-leb (2 ^ 15) w h, le-ltb w (2 ^ 12) (omega arith)) (go (ltb before (2 ^ 15)))
  where
    go : (b : Bool) → (true && b) || (false && (leb (2 ^ 15) before || ltb (before / 2 ^ 10) (w / 2 ^ 10))) ≡ b
    go true = refl
    go false = refl

follows_datum : (before w : ℕ) → w < 2 ^ 15 → follows before w ≡ (ltb w (2 ^ 12) && (leb (2 ^ 15) before || ltb (before / 2 ^ 10) (w / 2 ^ 10)))
unfolding follows
follows_datum before w h = rw (lt-leb (2 ^ 15) w h)

-- the connector rises, or does not
least_low : (before : ℕ) → before < 2 ^ 15 → least_after before ≡ suc (before / 2 ^ 10)
least_low before h = rw (lt-leb (2 ^ 15) before h)

rises : (before c : ℕ) → (leb (2 ^ 15) before || ltb (before / 2 ^ 10) c) ≡ true → least_after before ≤ c
rises before c = go (leb (2 ^ 15) before) (ltb (before / 2 ^ 10) c) refl
  where
    go : (a d : Bool) → ltb (before / 2 ^ 10) c ≡ d → a || d ≡ true → cond a 0 (suc (before / 2 ^ 10)) ≤ c
    go true d e t = omega arith
    go false true e t = omega (arith, ltb-true (before / 2 ^ 10) c e)
    go false false e t = impossible cc

falls : (before c : ℕ) → (leb (2 ^ 15) before || ltb (before / 2 ^ 10) c) ≡ false → c < least_after before
falls before c = go (leb (2 ^ 15) before) (ltb (before / 2 ^ 10) c) refl
  where
    go : (a d : Bool) → ltb (before / 2 ^ 10) c ≡ d → a || d ≡ false → c < cond a 0 (suc (before / 2 ^ 10))
    go true d e t = impossible cc
    go false true e t = impossible cc
    go false false e t = omega (arith, ltb-false (before / 2 ^ 10) c e)

module _ (before : ℕ) {ws : List ℕ} {from end place i : ℕ} (h : Reach ws from end place (least_after before) i) (below : i < end) (long : end ≤ length ws)
    {w : ℕ} (p : w ≡ get_or ws i 0) (f : w < 2 ^ 16) where
  pub goes_on : follows before w ≡ true → Reach ws from end (cond (is_head w) i place) (least_after w) (i + 1)
  goes_on t = go (leb (2 ^ 15) w) refl
    where
      datum : w < 2 ^ 15 → (a b : Bool) → ltb w (2 ^ 12) ≡ a → (leb (2 ^ 15) before || ltb (before / 2 ^ 10) (w / 2 ^ 10)) ≡ b → a && b ≡ true
          → Reach ws from end place (suc (w / 2 ^ 10)) (i + 1)
      datum l true true x y z = datum_next h below long p (ltb-true w (2 ^ 12) x) (rises before (w / 2 ^ 10) y)
      datum l true false x y z = impossible cc
      datum l false b x y z = impossible cc

      go : (a : Bool) → leb (2 ^ 15) w ≡ a → Reach ws from end (cond a i place) (cond a 0 (suc (w / 2 ^ 10))) (i + 1)
      go true e =
          let l = leb-true (2 ^ 15) w e in
          let b = ltb-true before (2 ^ 15) (sym (follows_head before w l) ∙ t) in
          head_next h below long p l f (λ z. omega (arith, least_low before b, z))
      go false e = let l = leb-false (2 ^ 15) w e in datum l (ltb w (2 ^ 12)) _ refl refl (sym (follows_datum before w l) ∙ t)

  pub breaks : follows before w ≡ false → FaultAt ws from end (cond (is_head w) place i)
  breaks t = go (leb (2 ^ 15) w) refl
    where
      datum : w < 2 ^ 15 → (a b : Bool) → ltb w (2 ^ 12) ≡ a → (leb (2 ^ 15) before || ltb (before / 2 ^ 10) (w / 2 ^ 10)) ≡ b → a && b ≡ false
          → FaultAt ws from end i
      datum l a true x y z = datum_stops h below long p l (λ s. let q : true ≡ a = sym (lt-ltb w (2 ^ 12) s) ∙ x in impossible cc)
      datum l a false x y z = datum_stops h below long p l (λ s. falls before (w / 2 ^ 10) y)

      again : (b : Bool) → leb (2 ^ 15) before ≡ b → ltb before (2 ^ 15) ≡ false → least_after before ≡ 0
      again true e x = rw e
      again false e x = let l = leb-false (2 ^ 15) before e in impossible (omega (arith, ltb-false before (2 ^ 15) x))

      go : (a : Bool) → leb (2 ^ 15) w ≡ a → FaultAt ws from end (cond a place i)
      go true e = let l = leb-true (2 ^ 15) w e in head_stops h below long p l (again (leb (2 ^ 15) before) refl (sym (follows_head before w l) ∙ t))
      go false e = let l = leb-false (2 ^ 15) w e in datum l (ltb w (2 ^ 12)) _ refl refl (sym (follows_datum before w l) ∙ t)

  -- the place of the last head, after a head and after a data word
  pub head_moved : {head' : ℕ} → follows before w ≡ true → 2 ^ 15 ≤ w → head' ≡ i → Reach ws from end head' (least_after w) (i + 1)
  head_moved {head'} t a e =
      let q : cond (is_head w) i place ≡ head' = rw (le-leb (2 ^ 15) w a) (sym e) in
      subst (λ (x : ℕ). Reach ws from end x (least_after w) (i + 1)) q (goes_on t)

  pub head_kept : {head' : ℕ} → follows before w ≡ true → w < 2 ^ 15 → head' ≡ place → Reach ws from end head' (least_after w) (i + 1)
  head_kept {head'} t a e =
      let q : cond (is_head w) i place ≡ head' = rw (lt-leb (2 ^ 15) w a) (sym e) in
      subst (λ (x : ℕ). Reach ws from end x (least_after w) (i + 1)) q (goes_on t)

  pub datum_breaks : follows before w ≡ false → w < 2 ^ 15 → FaultAt ws from end i
  datum_breaks t a =
      let q : cond (is_head w) place i ≡ i = rw (lt-leb (2 ^ 15) w a) in
      subst (λ (x : ℕ). FaultAt ws from end x) q (breaks t)

  pub head_breaks : follows before w ≡ false → 2 ^ 15 ≤ w → FaultAt ws from end place
  head_breaks t a =
      let q : cond (is_head w) place i ≡ place = rw (le-leb (2 ^ 15) w a) in
      subst (λ (x : ℕ). FaultAt ws from end x) q (breaks t)

-- The loop over all words: those up to i are groups so far, or all are refused.
abbrev pub Going : List ℕ → (from end i : ℕ) → Bool → Type 0
Going ws from end i true = (p : ℕ) × Reach ws from end p (least_after (get_or ws (i - 1) 0)) i
Going ws from end i false = (p : ℕ) × FaultAt ws from end p

module _ (ws : List ℕ) (from end : ℕ) (long : end ≤ length ws) where
  pub going_begin : {w : ℕ} → from < end → w ≡ get_or ws from 0 → w < 2 ^ 16 → Going ws from end (from + 1) (leb (2 ^ 15) w)
  going_begin {w} l p f = go (leb (2 ^ 15) w) refl
    where
      go : (b : Bool) → leb (2 ^ 15) w ≡ b → Going ws from end (from + 1) b
      go true e =
          let h = leb-true (2 ^ 15) w e in
          let one : from + 1 - 1 ≡ from = omega arith in
          (from, rw (one, ← p, e) (head_next (begin from (omega arith)) l long p h f (λ z. omega arith)))
      go false e = (from, datum_stops (begin from (omega arith)) l long p (leb-false (2 ^ 15) w e) (λ s. omega arith))

  pub going_next : {i v w : ℕ} (h : Bool) → Going ws from end i h → i < end → v ≡ get_or ws (i - 1) 0 → w ≡ get_or ws i 0 → w < 2 ^ 16 → Going ws from end (i + 1) (h && follows v w)
  going_next false g l q p f = g
  going_next {i} {v} {w} true g l q p f = go (follows v w) refl
    where
      here : Reach ws from end g.0 (least_after v) i
      here = rw q g.1

      go : (b : Bool) → follows v w ≡ b → Going ws from end (i + 1) b
      go true e = let one : i + 1 - 1 ≡ i = omega arith in (cond (is_head w) i g.0, rw (one, ← p) (goes_on v here l long p f e))
      go false e = (cond (is_head w) g.0 i, breaks v here l long p f e)

  pub going_end : {i w : ℕ} (h : Bool) → Going ws from end i h → i ≡ end → w ≡ get_or ws (end - 1) 0 → Judged ws from end (h && ltb w (2 ^ 15))
  going_end false g e p = g
  going_end {i} {w} true g e p = go (ltb w (2 ^ 15)) refl
    where
      go : (b : Bool) → ltb w (2 ^ 15) ≡ b → Judged ws from end b
      go true t = ends_well g.1 e (rw (e, ← p, lt-leb (2 ^ 15) w (ltb-true w (2 ^ 15) t)) (λ z. omega arith))
      go false t = (_, ends_short g.1 e (rw (e, ← p, le-leb (2 ^ 15) w (ltb-false w (2 ^ 15) t))))

-- the loop that looks for the fault has come to the end: it is a head with no data word after it
pub head_last : {ws : List ℕ} {from end place least i : ℕ} → Reach ws from end place least i → i ≡ end → Judged ws from end false → FaultAt ws from end place
head_last {ws} {from} {end} {place} {least} h e j = go (eqb least 0) refl
  where
    go : (b : Bool) → eqb least 0 ≡ b → FaultAt ws from end place
    go true z = ends_short h e (eqb-true least 0 z)
    go false z = let s = (rw j.1.refused at (ends_well h e (eqb-false least 0 z) 0 [])).answered in impossible cc
