-- `streams::go_on` meets its contract. Assumes nothing.
use Prim.Native.Nat.{◌-◌}
use native.Mathlib.Omega.{arith}
use mathlib.Core.Path.{sym, ◌∙◌, ap}
use mathlib.Core.Bool.{false≢true}
use lib.ListN.{drop}
use Rattle.list_input.specs.Run.{rest_of, turn_of, is_over}
use Rattle.list_input.proofs.Turns.{piece_behind, piece_some, piece_none}
use Rattle.list_input.proofs.streams.go_on.Goals as goal

pub returns-in-More-clause-fed : goal.returns-in-More-clause-fed
returns-in-More-clause-fed c =
    let r = (turn_of c.refill.result).run in
    let input = c.refill.new.input in
    let e = c.refill.ensures in
    let m = c.requires.ended_value c.in-More.is in
    let k = c.args.put.run.end - c.args.put.run.from in
    let rest = rest_of r input in record {
      piece = drop k rest;
      found = λ t. piece_none r input k e.from_value.0 (e.from_bound.1 t);
      stays = λ n. absurd (n c.in-More.is);
      last = λ t. absurd (false≢true (sym m.0 ∙ t));
      some = λ _ t _. piece_some r input k e.from_value.0 (omega (arith, e.from_value.1, c.refill.auto.input)) (e.from_bound.0 t);
      rest = piece_behind k rest e.input_after;
      begins = omega (arith, e.from_value.0);
      ends = e.from_value.1;
      at = e.at_value.0;
      accepted = e.at_value.1;
      refused = e.at_value.2;
      over = e.at_value.3 ∙ sym (ap is_over c.in-More.is);
    }
