-- `s800_check` meets its contract. Assumes nothing.
use Rattle.host.proofs.Checked.{places_fit}
use Rattle.host.proofs.s800_check.Goals as goal

pub packed-requires : goal.packed-requires
packed-requires c = rw c.answer_to.ensures (places_fit c.args.bytes.now c.args.order)
