-- `refusal::refuse` meets its contract. Assumes nothing.
use Rattle.event.proofs.Faults.{fault_of_number}
use Rattle.event.proofs.refusal.refuse.Goals as goal

pub returns : goal.returns
returns g c = rw (fault_of_number c.args.fault)
