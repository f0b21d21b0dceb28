-- What each step keeps: all that was to be written is still to be written.
-- Assumes nothing.
use Prim.Native.Nat.{ℕ, zero, suc, ◌+◌, ◌-◌, ◌≤◌, ◌<◌}
use native.Mathlib.Omega.{arith}
use mathlib.Core.Path.{◌≡◌, refl, sym, ap, ◌∙◌}
use mathlib.Core.Bool.{Bool, true, false, cond}
use mathlib.Core.List.{List, [], ◌∷◌, ◌++◌, append_assoc, append-nil}
use lib.Dec.{eqb, ltb}
use lib.ListN.{length, take, drop, length-take, length-drop}
use lib.Seq.{take-nil, take-take, take_all, drop-drop}
use borrow.Author.Tests.{eqb-true, eqb-false, ltb-true, ltb-false}
use Rattle.std.specs.Prelude.{Err}
use Rattle.event.specs.Refusal.{Answer, refusal}
use Rattle.event.specs.declared.Row.{Row}
use Rattle.event.specs.declared.StampOrder.{StampOrder}
use Rattle.event.specs.Outcome.{accepted}
use Rattle.listing.specs.declared.Next.TheVariants.{Line, Long, End, Cut}
use Rattle.hex_line.specs.Text.{Placed}
use Rattle.hex_line.proofs.TextLaws.{pending}
use Rattle.listing.specs.Input.{first_line}
use Rattle.listing.specs.Lengths.{last_length, most_text}
use Rattle.listing.specs.Listing.{lines_of, accepted_in, refused_in, list_from}
use Rattle.listing.specs.Text.{event_text, last_text}
use Rattle.listing.proofs.InputLaws.{Known, first_within}
use Rattle.listing.proofs.ListingLaws.{first_whole, first_last, begins, list_line, list_long, list_cut, list_end, long_refused}
use Rattle.listing.proofs.Room.{most_text_lem}
use Rattle.listing.proofs.TextLaws.{last_length_lem}
use Rattle.list_input.specs.declared.Run.{Run}
use Rattle.list_input.specs.Run.{Inside, LineInside, anew, rest_of, behind, answer_to, rows_to, LineListed, Kept, RestPut}

lt_of_le_ne : {a b m : ℕ} → b ≤ a → (a ≡ b → ⊥) → m ≡ a → b < m
lt_of_le_ne {a} {b} {m} h n e = go (ltb b m) refl
  where
    go : (t : Bool) → ltb b m ≡ t → b < m
    go true t = ltb-true b m t
    go false t = absurd (n (omega (arith, ltb-false b m t)))

-- a line takes the run on, and not past the end
pub behind_within : (run : Run) (k : ℕ) → run.from < run.end → k ≤ run.end - run.from → (run.from < behind run k) × (behind run k ≤ run.end)
behind_within run k h w = go (eqb (run.end - run.from) k) refl
  where
    go : (b : Bool) → eqb (run.end - run.from) k ≡ b → (run.from < behind run k) × (behind run k ≤ run.end)
    go true t = rw t (h, omega arith)
    go false t = rw t (omega arith, omega (arith, lt_of_le_ne {m = run.end - run.from} w (eqb-false (run.end - run.from) k t) refl))

-- the run behind a line that was listed
one_line : (a : Answer) → accepted_in a + refused_in a ≡ 1
one_line a = go (accepted a)
  where
    go : (b : Bool) → cond b 1 0 + cond b 0 1 ≡ 1
    go true = refl
    go false = refl

listed_inside : (o : StampOrder) {n m k : ℕ} {run run' : Run} (line : List ℕ) {text text' : List ℕ} → Inside n m run → LineInside k m run
    → LineListed (answer_to o line) (rows_to o line) (behind run k) run text run' text' → Inside n m run'
listed_inside o {n} {m} {k} {run} {run'} line i l d =
    let w = behind_within run k l.some l.within in
    record {
      begins = rw (d.from, d.end) w.1;
      ends = rw d.end i.ends;
      text = omega (arith, d.placed.ends, l.text, most_text_lem o line (run.accepted + run.refused + 1));
      lines = omega (arith, d.accepted, d.refused, l.lines, one_line (answer_to o line));
    }

-- a line by its answer and its rows
pub listed_as : (o : StampOrder) {n m k : ℕ} {run run' : Run} (line : List ℕ) {text text' : List ℕ} {answer : Answer} {rs : List Row} → answer ≡ answer_to o line → rs ≡ rows_to o line
    → Inside n m run → LineInside k m run → LineListed answer rs (behind run k) run text run' text'
    → Inside n m run' × LineListed (answer_to o line) (rows_to o line) (behind run k) run text run' text'
listed_as o {n} {m} {k} {run} {run'} line {text} {text'} a r i l d =
    let e : LineListed (answer_to o line) (rows_to o line) (behind run k) run text run' text' = rw (← a, ← r) d in
    (listed_inside o line i l e, e)

-- a run whose text was written
pub emptied : {n m k : ℕ} {run : Run} → Inside n m run → Inside n k (anew run)
emptied i = record { begins = i.begins; ends = i.ends; text = omega arith; lines = i.lines }

drop_take : (n m k : ℕ) (l : List ℕ) → m ≡ n + k → drop n (take m l) ≡ take k (drop n l)
drop_take zero m k l e = let f : m ≡ k = omega arith in rw f
drop_take (suc n) zero k l e = absurd (omega arith)
drop_take (suc n) (suc m) k [] e = sym (take-nil k)
drop_take (suc n) (suc m) k (x ∷ l) e = drop_take n m k l (omega arith)

module _ (o : StampOrder) (ended : Bool) (input text : List ℕ) (run : Run) (inside : Inside (length input) (length text) run) where
  abbrev rest : List ℕ
  rest = rest_of run input

  pub rest_length : length rest ≡ run.end - run.from
  rest_length = simp (length-take, length-drop) (omega (arith, inside.begins, inside.ends))

  -- the first line lies within the run
  pub first_inside : {k : ℕ} → k ≡ first_line rest → 0 < length rest → (run.from < run.end) × (k ≤ run.end - run.from)
  first_inside e h = (omega (arith, rest_length), omega (arith, first_within rest, rest_length))

  -- what comes later: nothing where the input has ended
  abbrev Later : List ℕ → Type 0
  Later later = ended ≡ true → later ≡ []

  -- what is listed of a line
  abbrev line_text : List ℕ → List ℕ
  line_text l = event_text (run.accepted + run.refused + 1) (answer_to o l) (rows_to o l)

  module _ (k : ℕ) where
    abbrev line : List ℕ
    line = take k (drop run.from input)

    -- what is left behind a line
    abbrev Behind : List ℕ → List ℕ → Type 0
    Behind rest' later = lines_of (rest ++ later) ≡ line ∷ lines_of (rest' ++ later)

    module _ (next : Known rest ended (run.accepted + run.refused) (Line k)) where
      within : k ≤ run.end - run.from
      within = (first_inside next.0 next.1).1

      line_is : take k rest ≡ line
      line_is = take-take k (run.end - run.from) (drop run.from input) within

      line_length : length line ≡ k
      line_length = simp (length-take, length-drop) (omega (arith, within, inside.begins, inside.ends))

      -- where its line feed was read, and where the input ends without one
      behind_feed : (later : List ℕ) → k < length rest → Behind (take (run.end - (run.from + k + 1)) (drop (run.from + k + 1) input)) later
      behind_feed later h =
          let f : first_line rest ≡ k = sym next.0 in
          let g : run.from + suc k ≡ run.from + k + 1 = omega arith in
          first_whole rest later (rw f h)
          ∙ ap (λ (j : ℕ). take j rest ∷ lines_of (drop (suc j) rest ++ later)) f
          ∙ ap (λ (l : List ℕ). l ∷ lines_of (drop (suc k) rest ++ later)) line_is
          ∙ ap (λ (l : List ℕ). line ∷ lines_of (l ++ later))
          (drop_take (suc k) (run.end - run.from) (run.end - (run.from + k + 1)) (drop run.from input) (omega (arith, h, rest_length))
          ∙ ap (take (run.end - (run.from + k + 1))) (drop-drop (suc k) run.from input ∙ ap (λ (j : ℕ). drop j input) g))

      behind_end : (later : List ℕ) → Later later → length rest ≤ k → Behind (take (run.end - run.end) (drop run.end input)) later
      behind_end later l h = go ended refl
        where
          go : (e : Bool) → ended ≡ e → Behind (take (run.end - run.end) (drop run.end input)) later
          go false e = absurd (omega (arith, next.4 e))
          go true e =
              let z : run.end - run.end ≡ 0 = omega arith in
              let a : rest ≡ line = sym (take_all k rest h) ∙ line_is in
              rw (l e, z, append-nil)
              (first_last rest (omega (arith, next.0, first_within rest)) next.1 ∙ ap (◌∷ []) a)

      -- the run behind the line
      behind_line : (run' : Run) (later : List ℕ) → Later later → run'.from ≡ behind run k → run'.end ≡ run.end → Behind (rest_of run' input) later
      behind_line run' later l e f = go (eqb (run.end - run.from) k) refl
        where
          go : (b : Bool) → eqb (run.end - run.from) k ≡ b → Behind (rest_of run' input) later
          go true t = rw (f, e, t) (behind_end later l (omega (arith, rest_length, eqb-true (run.end - run.from) k t)))
          go false t = rw (f, e, t) (behind_feed later (lt_of_le_ne within (eqb-false (run.end - run.from) k t) rest_length))

      pub line_kept : {run' : Run} {text' : List ℕ} → run.at + most_text ≤ length text
          → LineListed (answer_to o line) (rows_to o line) (behind run k) run text run' text' → Kept o ended input run text run' text'
      line_kept {run'} {text'} h d later l =
          let listed = list_from o (run.accepted + accepted_in (answer_to o line)) (run.refused + refused_in (answer_to o line)) (lines_of (rest_of run' input ++ later)) in
          let m = most_text_lem o line (run.accepted + run.refused + 1) in
          let q : take run'.at text' ≡ take run.at text ++ line_text line = pending (omega (arith, h, m)) d.placed in
          ap (λ (ls : List (List ℕ)). take run.at text ++ list_from o run.accepted run.refused ls) (behind_line run' later l d.from d.end)
          ∙ ap (take run.at text ++◌) (list_line o run.accepted run.refused line (lines_of (rest_of run' input ++ later)) next.2 (rw line_length next.3))
          ∙ sym (append_assoc (take run.at text) (line_text line) listed)
          ∙ rw (q, d.accepted, d.refused)

  -- the ends of a listing: nothing is left, too many lines, a line that is too long
  module _ {text' : List ℕ} {n : ℕ} where
    pub rest_ended : Known rest ended (run.accepted + run.refused) End → run.at + last_length ≤ length text
        → Placed text run.at (last_text false run.accepted run.refused) n text' → RestPut o ended input run text n text'
    rest_ended k h p later l =
        pending (rw last_length_lem h) p
        ∙ ap (take run.at text ++◌) (sym (rw (l k.1, none rest k.0) (list_end o run.accepted run.refused)))
      where
        none : (r : List ℕ) → length r ≡ 0 → r ≡ []
        none [] e = refl
        none (x ∷ r) e = absurd (omega arith)

    pub rest_cut : Known rest ended (run.accepted + run.refused) Cut → run.at + last_length ≤ length text
        → Placed text run.at (last_text true run.accepted run.refused) n text' → RestPut o ended input run text n text'
    rest_cut k h p later l =
        let b = begins rest later k.0 in
        pending (rw last_length_lem h) p
        ∙ ap (take run.at text ++◌) (sym (rw b.split (list_cut o run.accepted run.refused b.line b.lines k.1)))

    pub rest_long : {k : ℕ} {run₁ : Run} {text₁ : List ℕ} → Known rest ended (run.accepted + run.refused) (Long k) → run.at + (most_text + last_length) ≤ length text
        → LineListed (answer_to o (take k (drop run.from input))) (rows_to o (take k (drop run.from input))) (behind run k) run text run₁ text₁ → length text₁ ≡ length text
        → Placed text₁ run₁.at (last_text true run₁.accepted run₁.refused) n text' → RestPut o ended input run text n text'
    rest_long {k} {run₁} {text₁} c h d e p later l =
        let line₀ : List ℕ = take k (drop run.from input) in
        let m : length line₀ ≡ k = simp (length-take, length-drop) (omega (arith, c.0, first_within rest, rest_length, inside.begins, inside.ends)) in
        let x = long_refused o line₀ (rw m c.3) in
        let b = begins rest later c.1 in
        let y = long_refused o b.line (omega (arith, b.long, c.0, c.3)) in
        let t = most_text_lem o line₀ (run.accepted + run.refused + 1) in
        let q : take run₁.at text₁ ≡ take run.at text ++ line_text line₀ = pending (omega (arith, h, t)) d.placed in
        pending (rw (last_length_lem, e) (omega (arith, h, t, d.placed.ends))) p
        ∙ rw (q, d.accepted, d.refused, b.split, list_long o run.accepted run.refused b.line b.lines c.2 (omega (arith, b.long, c.0, c.3)), x, y)
        (append_assoc (take run.at text) (event_text (run.accepted + run.refused + 1) (Err (refusal 30 0)) []) (last_text true (run.accepted + 0) (run.refused + 1)))
