-- `line::well_formed` meets its contract. Assumes nothing.
use mathlib.Core.Path.{sym, ◌∙◌}
use borrow.Author.Tests.{le-leb, lt-leb, eq-eqb, ne_eqb}
use Rattle.hex_line.specs.Line.{longest_line, well_formed}
use Rattle.hex_line.proofs.LineLaws.{length_some, length_none}
use Rattle.hex_line.proofs.line.well_formed.Goals as goal
use Rattle.hex_line.proofs.line.well_formed.Goals.{then-is_empty-via-then-is_empty, then-is_empty-via-else-is_empty+then-line-gt-LONGEST_LINE, then-is_empty-via-else-is_empty+else-line-gt-LONGEST_LINE+then-line-letter}

pub returns-then-is_empty : goal.returns-then-is_empty
unfolding well_formed
returns-then-is_empty c =
    elim c.then-is_empty.branch [
      | then-is_empty-via-then-is_empty w ↦ rw (length_none _ (sym c.is_empty.ensures ∙ w.if-is_empty.true))
      | then-is_empty-via-else-is_empty+then-line-gt-LONGEST_LINE w ↦ rw (length_some _ (sym c.is_empty.ensures ∙ w.if-is_empty.false), lt-leb _ longest_line w.if-line-gt-LONGEST_LINE.true)
      | then-is_empty-via-else-is_empty+else-line-gt-LONGEST_LINE+then-line-letter w ↦
          rw (length_some _ (sym c.is_empty.ensures ∙ w.if-is_empty.false), le-leb _ longest_line w.if-line-gt-LONGEST_LINE.false, ne_eqb _ _ w.if-line-letter.true)
    ]

pub returns-then-behind-digits-eq0 : goal.returns-then-behind-digits-eq0
unfolding well_formed
returns-then-behind-digits-eq0 c =
    c.all_groups.ensures
    ∙ rw (length_some _ (sym c.is_empty.ensures ∙ c.if-is_empty.false), le-leb _ longest_line c.if-line-gt-LONGEST_LINE.false, eq-eqb _ _ c.if-line-letter.false, eq-eqb _ _ c.if-behind-digits-eq0.true)

pub returns-else-behind-digits-eq0 : goal.returns-else-behind-digits-eq0
unfolding well_formed
returns-else-behind-digits-eq0 c =
    rw (length_some _ (sym c.is_empty.ensures ∙ c.if-is_empty.false), le-leb _ longest_line c.if-line-gt-LONGEST_LINE.false, eq-eqb _ _ c.if-line-letter.false, ne_eqb _ _ c.if-behind-digits-eq0.false)
