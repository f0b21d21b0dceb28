-- `word::sum_of` meets its contract. Assumes nothing.
use mathlib.Core.Path.{◌≡◌, ◌∙◌}
use borrow.Author.Rules.{rules}
use Rattle.std.specs.List.{sum}
use Rattle.rcnp_reader.proofs.Sum.{sum_total}
use Rattle.rcnp_reader.proofs.word.sum_of.Goals as goal

pub returns : goal.returns
returns c = let e : c.sum.result ≡ sum c.args.words.now = search rules in e ∙ sum_total c.args.words.now
