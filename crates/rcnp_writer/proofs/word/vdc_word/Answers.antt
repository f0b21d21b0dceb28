-- `word::vdc_word` meets its contract. Assumes nothing.
use Rattle.rcnp_writer.proofs.VdcWords.{vdc_summed}
use Rattle.rcnp_writer.proofs.word.vdc_word.Goals as goal

pub returns : goal.returns
returns c = vdc_summed c.args.row c.only_if.ensures
