-- `longword::check_footer` meets its contract. Assumes nothing.
use Rattle.frs_reader.proofs.Longwords.{footer_good, footer_bad}
use Rattle.frs_reader.proofs.longword.check_footer.Goals as goal

pub returns-then-w-geo : goal.returns-then-w-geo
returns-then-w-geo c = rw (← footer_bad _ _ c.if-w-geo.true) c.refuse.ensures

pub returns : goal.returns
returns c = rw (← footer_good _ _ c.if-w-geo.false)
