-- `input::gather` meets its contract. Assumes nothing.
use native.Mathlib.Omega.{arith}
use mathlib.Core.Path.{refl, sym, ap, ◌∙◌}
use lib.ListN.{length}
use Rattle.compare_events.specs.Run.{goes_on}
use Rattle.compare_events.proofs.Feeds.{none_read, less_left}
use Rattle.compare_events.proofs.input.gather.Goals as goal

pub loop-stdin-init : goal.loop-stdin-init
loop-stdin-init c = (refl, none_read _)

pub loop-stdin-smaller : goal.loop-stdin-smaller
loop-stdin-smaller c =
    let kept = c.read_more.auto.input ∙ c.loop-stdin.invariant.0 in
    let next = c.in_ok-state.ensures in
    less_left (length c.args.input.now) (length c.loop-stdin.input) c.loop-stdin.state c.in_ok-state.state (sym c.goes_on.ensures ∙ c.loop-stdin-test.true)
    next.1 (omega (arith, next.0.ends, kept))

pub loop-stdin-preserved : goal.loop-stdin-preserved
loop-stdin-preserved c = (c.read_more.auto.input ∙ c.loop-stdin.invariant.0, c.in_ok-state.ensures.0)

pub returns : goal.returns
returns c = (c.loop-stdin.invariant.1, ap (goes_on c.loop-stdin.state) (sym c.loop-stdin.invariant.0) ∙ sym c.goes_on.ensures ∙ c.loop-stdin-test.false)
