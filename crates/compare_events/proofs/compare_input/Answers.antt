-- `compare_input` meets its contract. Assumes nothing.
use mathlib.Core.Path.{ap, ◌∙◌}
use Rattle.compare_events.specs.Run.{goes_on}
use Rattle.compare_events.proofs.compare_input.Goals as goal

pub put_gathered-count-requires : goal.put_gathered-count-requires
put_gathered-count-requires c =
    let k = c.gather.auto.input in
    let g = c.in-Some.ensures in record {
      order_value = c.requires.order_value;
      input_len = (k ∙ c.requires.input_len.0, c.requires.input_len.1);
      inside = (g.0, ap (goes_on c.in-Some.gathered) k ∙ g.1);
    }
