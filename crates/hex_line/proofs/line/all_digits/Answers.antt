-- `line::all_digits` meets its contract. Assumes nothing.
use mathlib.Core.Path.{refl, ◌∙◌}
use native.Mathlib.Omega.{arith}
use Rattle.std.proofs.Common.{rules, tests}
use Rattle.std.proofs.lemmas.Iterator.{YieldsList-from_slice}
use Rattle.std.proofs.lemmas.Iterator.Search.{all_from_yields_List}
use Rattle.hex_line.specs.Line.{is_digit}
use Rattle.hex_line.proofs.LineLaws.{digits_listed}
use Rattle.hex_line.proofs.line.all_digits.Goals as goal

pub returns : goal.returns
returns c =
    all_from_yields_List is_digit _ _ c.all.result c.all.ensures.ran (YieldsList-from_slice c.iter.result.rest.now refl) (λ x b q k. search (rules, tests))
    ∙ rw c.iter.ensures.rest (digits_listed c.args.line.now c.args.at c.args.count _ (omega arith) (omega (arith, c.requires)))
