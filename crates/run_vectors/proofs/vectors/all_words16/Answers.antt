-- `vectors::all_words16` meets its contract. Assumes nothing.
use mathlib.Core.Path.{sym, ◌∙◌}
use Rattle.run_vectors.proofs.WordLaws.{next_wide, next_word, no_more}
use Rattle.run_vectors.proofs.vectors.all_words16.Goals as goal

pub returns-then-element-gt65535 : goal.returns-then-element-gt65535
returns-then-element-gt65535 c = sym (c.loop-element.invariant ∙ next_wide c.args.elements.now c.loop-element.element-index c.loop-element-test.true c.if-element-gt65535.true)

pub loop-element-preserved : goal.loop-element-preserved
loop-element-preserved c = c.loop-element.invariant ∙ next_word c.args.elements.now c.loop-element.element-index c.loop-element-test.true c.if-element-gt65535.false

pub returns : goal.returns
returns c = sym (c.loop-element.invariant ∙ no_more c.args.elements.now c.loop-element.element-index c.loop-element-test.false)
