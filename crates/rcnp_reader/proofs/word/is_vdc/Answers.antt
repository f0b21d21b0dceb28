-- `word::is_vdc` meets its contract. Assumes nothing.
use mathlib.Core.Path.{sym}
use Rattle.rcnp_reader.proofs.VdcWords.{vdc_datum, vdc_head}
use Rattle.rcnp_reader.proofs.word.is_vdc.Goals as goal

pub returns-then-w-lt32768 : goal.returns-then-w-lt32768
returns-then-w-lt32768 c = sym (vdc_datum _ c.if-w-lt32768.true _)

pub returns : goal.returns
returns c = sym (vdc_head _ c.if-w-lt32768.false _ c.requires)
