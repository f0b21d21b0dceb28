-- Turns one after the other: their text is the listing of what came in, whatever the pieces.
-- Assumes nothing.
use Prim.Native.Nat.{ℕ, ◌+◌, ◌-◌, ◌≤◌, ◌<◌}
use native.Mathlib.Omega.{arith}
use mathlib.Core.Path.{◌≡◌, refl, sym, ap, ◌∙◌}
use mathlib.Core.Bool.{Bool, true, false, cond, not, ◌&&◌, false≢true}
use mathlib.Core.Logic.{◌⊎◌, ⊎_elim, inl, inr}
use mathlib.Core.List.{List, [], ◌∷◌, ◌++◌, append_assoc, append-nil}
use lib.ListN.{length, take, drop, take-append-drop, length-append, length-take, length-drop}
use lib.Seq.{length-take-le}
use Rattle.event.specs.declared.StampOrder.{StampOrder}
use Rattle.event.proofs.Impossible.{impossible}
use Rattle.listing.specs.declared.Next.TheVariants.{More}
use Rattle.listing.specs.Input.{next_of}
use Rattle.listing.specs.Lengths.{most_text, last_length}
use Rattle.list_input.specs.declared.lines.Put.{Put}
use Rattle.list_input.specs.declared.lines.Stop.{Stop}
use Rattle.list_input.specs.declared.lines.Stop.TheVariants as stop
use Rattle.list_input.specs.declared.Run.{Run}
use Rattle.list_input.specs.declared.Turn.{Turn}
use Rattle.list_input.specs.Run.{anew, rest_of, is_over, point_of, MorePut, Fed, Halts}
use Rattle.list_input.specs.Turns.{Point, start, to_come, end_count, Turned, SomeTurn, Step, Follow, behind_all, last_put, came_in, was_put, ListsWhole, FewTurns, most_turns, ListedByTurns, NotWhole}

-- where the input has ended nothing more comes in
ended_stays : (o : StampOrder) (p : Point) (steps : List Step) → Follow o p steps → p.ended ≡ true → (came_in steps ≡ []) × ((behind_all p steps).ended ≡ true)
ended_stays o p [] f e = (refl, e)
ended_stays o p (s ∷ steps) f e =
    let l = f.0.last e in
    let r = ended_stays o s.after steps f.1 l in
    (rw (f.0.found l, r.0) refl, r.1)

-- what was to be put at a point is what turns put from there, and what is still to be put behind them
put_by_turns : (o : StampOrder) (p : Point) (steps : List Step) → Follow o p steps → (later : List ℕ) → ((behind_all p steps).ended ≡ true → later ≡ [])
    → to_come o p (came_in steps ++ later) ≡ was_put steps ++ to_come o (behind_all p steps) later
put_by_turns o p [] f later l = refl
put_by_turns o p (s ∷ steps) f later l =
    ap (to_come o p) (append_assoc s.piece (came_in steps) later)
    ∙ f.0.puts (came_in steps ++ later) nothing
    ∙ ap (s.put ++◌) (put_by_turns o s.after steps f.1 later l)
    ∙ sym (append_assoc s.put (was_put steps) (to_come o (behind_all s.after steps) later))
  where
    nothing : s.after.ended ≡ true → came_in steps ++ later ≡ []
    nothing e = let r = ended_stays o s.after steps f.1 e in rw (r.0, l r.1) refl

pub lists_whole : ListsWhole
lists_whole o steps f e later l =
    let none : to_come o (behind_all start steps) later ≡ [] = rw e refl in
    sym (append-nil (was_put steps))
    ∙ ap (was_put steps ++◌) (sym none)
    ∙ sym (put_by_turns o start steps f later l)

once : (b : Bool) → cond b 1 0 ≤ 1
once true = omega arith
once false = omega arith

-- each turn but the last takes in a character, or puts one, or finds the end of the input
few : (o : StampOrder) (p : Point) (steps : List Step) → Follow o p steps
    → length steps + end_count p ≤ length (came_in steps) + length (was_put steps) + 2
few o p [] f = omega (arith, once p.ended)
few o p (s ∷ []) f = omega (arith, once p.ended)
few o p (s ∷ (next ∷ steps)) f =
    omega (
      arith,
      few o s.after (next ∷ steps) f.1,
      f.0.moves f.1.0.taken.0 f.1.0.taken.1,
      length-append s.piece (came_in (next ∷ steps)),
      length-append s.put (was_put (next ∷ steps)),
    )

pub few_turns : FewTurns
few_turns o steps f = omega (arith, few o start steps f)

pub not_whole : NotWhole
not_whole o last w f = omega (arith, few_turns o w.steps w.follow, w.stopped refl f)

-- a listing so far: turns from the start to a point, the text of the last of them, and how many more may be taken
pub record Told (o : StampOrder) (p : Point) (last : List ℕ) (turns : ℕ) : Type 0 where
  pub steps : List Step
  pub follow : Follow o start steps
  pub at : behind_all start steps ≡ p
  pub text : last_put [] steps ≡ last
  pub left : turns + length steps ≡ most_turns

pub told_start : (o : StampOrder) → Told o start [] most_turns
told_start o = record { steps = []; follow = tt; at = refl; text = refl; left = omega arith }

-- one turn more
module _ (o : StampOrder) (s : Step) where
  follow_more : (p : Point) (steps : List Step) → Follow o p steps → Turned o (behind_all p steps) s.piece s.put s.after → Follow o p (steps ++ (s ∷ []))
  follow_more p [] f t = (t, tt)
  follow_more p (first ∷ steps) f t = (f.0, follow_more first.after steps f.1 t)

  behind_more : (p : Point) (steps : List Step) → behind_all p (steps ++ (s ∷ [])) ≡ s.after
  behind_more p [] = refl
  behind_more p (first ∷ steps) = behind_more first.after steps

  put_more : (t : List ℕ) (steps : List Step) → last_put t (steps ++ (s ∷ [])) ≡ s.put
  put_more t [] = refl
  put_more t (first ∷ steps) = put_more first.put steps

pub told_turn : {o : StampOrder} {p p' : Point} {last put : List ℕ} {turns : ℕ} → Told o p last turns → 0 < turns → SomeTurn o p put p' → Told o p' put (turns - 1)
told_turn {o} {p} {p'} {last} {put} t h l =
    let s : Step = record { piece = l.0; put = put; after = p' } in
    record {
      steps = t.steps ++ (s ∷ []);
      follow = follow_more o s start t.steps t.follow (rw t.at l.1);
      at = behind_more o s start t.steps;
      text = put_more o s [] t.steps;
      left = omega (arith, h, t.left, length-append t.steps (s ∷ []));
    }

-- where no more turns are taken
pub told_listed : {o : StampOrder} {p : Point} {last : List ℕ} {turns : ℕ} (whole : Bool) → whole ≡ p.over && not p.failed
    → (p.over ≡ false → p.failed ≡ false → turns ≡ 0) → Told o p last turns → ListedByTurns o whole last
told_listed {o} {p} {last} {turns} whole e z t = record {
  steps = t.steps;
  follow = t.follow;
  text = t.text;
  ends = rw t.at e;
  listed = λ w. lists_whole o t.steps t.follow (rw t.at (over p.over refl w));
  stopped = λ w h. (let f : p.failed ≡ false = rw t.at at h in omega (arith, t.left, z (on p.over refl w f) f));
}
  where
    over : (b : Bool) → p.over ≡ b → whole ≡ true → p.over ≡ true
    over true q w = q
    over false q w = absurd (false≢true (rw q at (sym e ∙ w)))

    on : (b : Bool) → p.over ≡ b → whole ≡ false → p.failed ≡ false → p.over ≡ false
    on true q w f = absurd (false≢true (sym (rw (q, f) at (sym e ∙ w))))
    on false q w f = q

-- characters before which all that was to be listed stands, by the piece behind it
pub piece_behind : (k : ℕ) (whole : List ℕ) {rest : List ℕ} → take k whole ≡ rest → whole ≡ rest ++ drop k whole
piece_behind k whole e = sym (take-append-drop k whole) ∙ ap (◌++ drop k whole) e

-- of those that are read behind k others some come in
pub piece_some : (run : Run) (input : List ℕ) (k : ℕ) → run.from ≡ 0 → run.end ≤ length input → k < run.end → 0 < length (drop k (rest_of run input))
piece_some run input k e h l = simp (length-drop, length-take) (omega (arith, e, h, l))

-- and where none were read none do
pub piece_none : (run : Run) (input : List ℕ) (k : ℕ) → run.from ≡ 0 → run.end ≡ k → drop k (rest_of run input) ≡ []
piece_none run input k e h = empty (drop k (rest_of run input)) (simp (length-drop, length-take) (omega (arith, e, h)))
  where
    empty : (l : List ℕ) → length l ≡ 0 → l ≡ []
    empty [] q = refl
    empty (x ∷ l) q = absurd (omega (arith, q))

-- more of the input is needed, or it is not
needed : (s : Stop) → (s ≡ stop.More) ⊎ ((s ≡ stop.More → ⊥) × (is_over s ≡ false → s ≡ stop.Full))
needed stop.Over = inr (λ e. impossible cc, λ e. absurd (false≢true (sym e)))
needed stop.Full = inr (λ e. impossible cc, λ e. refl)
needed stop.More = inl refl

-- a turn of the program: text that was put from a run whose text was written, and then a piece that came in
module _ (o : StampOrder) (state : Turn) (put : Put) (state' : Turn) (bad : Bool) (input text text' input' : List ℕ) (f : Fed put state.ended input state' bad input') where
  abbrev before : Point
  before = point_of false state input

  abbrev after : Point
  after = point_of bad state' input'

  by_pieces : state.over ≡ false
      → MorePut o state.ended input (anew state.run) text put text'
      → (later : List ℕ) → (state'.ended ≡ true → later ≡ [])
      → to_come o before (f.piece ++ later) ≡ take state'.run.at text' ++ to_come o after later
  by_pieces on m later l =
      let nothing : state.ended ≡ true → f.piece ++ later ≡ [] = λ e. (let n = f.last e in rw (f.found n, l n) refl) in
      rw (on, f.at, f.accepted, f.refused, f.over, f.rest, append_assoc (rest_of put.run input) f.piece later) (m (f.piece ++ later) nothing)

  abbrev Moves : Type 0
  Moves = end_count before < length (take state'.run.at text') + length f.piece + end_count after

  moved : Halts state.ended input (length text') put → most_text + last_length ≤ length text' → put.run.at ≤ length text' → state'.over ≡ false → bad ≡ false → Moves
  moved h r w on good = ⊎_elim more full (needed put.stop)
    where
      at : length (take state'.run.at text') ≡ put.run.at
      at = ap (λ (n : ℕ). length (take n text')) f.at ∙ length-take-le put.run.at text' w

      more : put.stop ≡ stop.More → Moves
      more e = rw (h.more e).0 (go state'.ended refl)
        where
          go : (b : Bool) → state'.ended ≡ b → 0 < length (take state'.run.at text') + length f.piece + cond state'.ended 1 0
          go true t = rw t (omega arith)
          go false t = rw t (omega (arith, f.some e t good))

      full : (put.stop ≡ stop.More → ⊥) × (is_over put.stop ≡ false → put.stop ≡ stop.Full) → Moves
      full e = go state.ended refl
        where
          some : 0 < put.run.at
          some = omega (arith, h.full (e.1 (sym f.over ∙ on)), r)

          go : (b : Bool) → state.ended ≡ b → cond state.ended 1 0 < length (take state'.run.at text') + length f.piece + cond state'.ended 1 0
          go true t = rw (t, f.last t) (omega (arith, at, some))
          go false t = rw t (omega (arith, at, some))

  -- what was not listed yet, at which more of the input is needed
  abbrev Waits : Type 0
  Waits = (rest : List ℕ) × (after.rest ≡ rest ++ f.piece) × (next_of rest false (state'.run.accepted + state'.run.refused) ≡ More)

  read : Halts state.ended input (length text') put → end_count before < length f.piece + end_count after → Waits
  read h lt = ⊎_elim more none (needed put.stop)
    where
      more : put.stop ≡ stop.More → Waits
      more e = (rest_of put.run input, f.rest, rw (f.accepted, f.refused) (h.more e).2)

      none : (put.stop ≡ stop.More → ⊥) × (is_over put.stop ≡ false → put.stop ≡ stop.Full) → Waits
      none n = let s = f.stays n.0 in absurd (omega (arith, rw (s.0, s.1) at lt))

  pub turned : state.over ≡ false → MorePut o state.ended input (anew state.run) text put text' → Halts state.ended input (length text') put
      → most_text + last_length ≤ length text' → put.run.at ≤ length text' → SomeTurn o before (take state'.run.at text') after
  turned on m h r w = (f.piece, record { taken = (on, refl); last = f.last; found = f.found; reads = read h; puts = by_pieces on m; moves = moved h r w })
