-- `allows_size` meets its contract. Assumes nothing.
use Rattle.rcnp_layout.proofs.Sizes.{form_back}
use Rattle.rcnp_format.specs.Form.{form}
use Rattle.rcnp_format.proofs.Forms.{id_of_form, none_there}
use Rattle.rcnp_format.proofs.allows_size.Goals as goal

pub returns-in-Some : goal.returns-in-Some
returns-in-Some c = rw (id_of_form c.args.id c.in-Some.ensures, form_back (form c.in-Some.form)) c.allows_size.ensures

pub returns-in-None : goal.returns-in-None
returns-in-None c = rw (none_there c.args.id c.in-None.ensures) c.allows_size-in-None.ensures
