-- `line::fill` meets its contract. Assumes nothing.
use mathlib.Core.Path.{sym, ap, ◌∙◌}
use Rattle.hex_line.proofs.LineLaws.{fill_none, fill_next}
use Rattle.hex_line.proofs.line.fill.Goals as goal

pub loop-i-init : goal.loop-i-init
loop-i-init g c = fill_none _ _ _ _ _ (sym c.in_ok-count.was ∙ c.count_words.ensures)

pub loop-i-preserved : goal.loop-i-preserved
loop-i-preserved g c = fill_next _ _ _ _ _ c.loop-i.invariant c.loop-i-test.true (c.of_low_bits.ensures ∙ ap g.W.Word.of_number c.value.ensures)
