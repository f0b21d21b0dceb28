-- `streams::turn` meets its contract. Assumes nothing.
use Prim.Native.Nat.{ℕ, ◌+◌, ◌≤◌}
use native.Mathlib.Omega.{arith}
use mathlib.Core.Path.{◌≡◌, refl, sym}
use mathlib.Core.Bool.{Bool, true, false, false≢true}
use mathlib.Core.List.{List, [], append-nil}
use lib.ListN.{length, take}
use Rattle.event.specs.declared.StampOrder.{StampOrder}
use Rattle.listing.specs.Lengths.{most_text, last_length}
use Rattle.list_input.specs.declared.lines.Put.{Put}
use Rattle.list_input.specs.declared.Run.{Run}
use Rattle.list_input.specs.declared.Turn.{Turn}
use Rattle.list_input.specs.Run.{Inside, anew, is_over, point_of, MorePut, Halts, Fed}
use Rattle.list_input.specs.Turns.{SomeTurn}
use Rattle.list_input.proofs.Turns.{turned}
use Rattle.list_input.proofs.streams.turn.Goals as goal

-- what was put of a run whose text was written
by_fed : (o : StampOrder) (state : Turn) (put : Put) (state' : Turn) (bad : Bool) (input text text' input' : List ℕ) (run : Run) → Fed put state.ended input state' bad input'
    → state.over ≡ false → run ≡ anew state.run → length text' ≡ length text → most_text + last_length ≤ length text
    → Inside (length input) (length text) put.run → Halts state.ended input (length text) put → MorePut o state.ended input run text put text'
    → SomeTurn o (point_of false state input) (take state'.run.at text') (point_of bad state' input')
by_fed o state put state' bad input text text' input' run f taken from kept room i h m =
    turned o state put state' bad input text text' input' f taken (rw from at m) (rw kept h) (rw kept room) (rw kept i.text)

pub returns-then-not-written-clause-some_turn : goal.returns-then-not-written-clause-some_turn
returns-then-not-written-clause-some_turn c =
    let l = c.list_more-put in
    let p = l.result in
    let i = l.ensures.inside_2 in
    let b = c.args.buffers.now in
    let state' : Turn = record { run = p.run; ended = c.args.state.ended; over = is_over p.stop } in
    rw c.stopped.ensures (by_fed c.args.order c.args.state p state' true b.input b.text l.new.text b.input _ (record {
      piece = [];
      found = λ _. refl;
      stays = λ _. (refl, refl);
      last = λ e. e;
      some = λ _ _ e. absurd (false≢true (sym e));
      rest = sym (append-nil _);
      begins = i.begins;
      ends = i.ends;
      at = refl;
      accepted = refl;
      refused = refl;
      over = refl;
    }) c.requires.inside.1 c.without_text.ensures l.auto.text (omega arith) i l.ensures.halts l.ensures.more_put)

pub returns-clause-some_turn : goal.returns-clause-some_turn
returns-clause-some_turn c =
    let l = c.list_more-put in
    let b = c.args.buffers.now in
    by_fed c.args.order c.args.state l.result _ _ b.input b.text l.new.text c.go_on.new.input _ c.go_on.ensures.fed
    c.requires.inside.1 c.without_text.ensures l.auto.text (omega arith) l.ensures.inside_2 l.ensures.halts l.ensures.more_put
