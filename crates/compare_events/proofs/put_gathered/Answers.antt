-- `put_gathered` meets its contract. Assumes nothing.
use Rattle.compare_events.proofs.Enough.{print_gathered}
use Rattle.compare_events.proofs.put_gathered.Goals as goal

pub returns : goal.returns
returns c =
    let r = c.requires in
    let p = rw r.order_value at
    (print_gathered c.args.order c.args.input.now c.args.gathered r.inside.0 r.input_len.0 r.inside.1 r.input_len.1 c.put_print.ensures) in
    record { upper_bound = p.0; print_put = p.1 }
