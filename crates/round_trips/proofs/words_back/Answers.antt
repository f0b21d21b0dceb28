-- `words_back` meets its contract. Assumes nothing.
use Prim.Native.Nat.{ℕ}
use mathlib.Core.Path.{refl, ap, ◌∙◌}
use lib.ListN.{length}
use Rattle.event.specs.Outcome.{Outcome, answer_of, given}
use Rattle.dialects.specs.Dialects.{of_width, over16, over32}
use Rattle.round_trips.proofs.Back.{words_back}
use Rattle.round_trips.proofs.words_back.Goals as goal

pub returns : goal.returns
returns c =
    let a = c.args in
    let words_in = of_width a.dialect a.words.now a.longwords.now in
    let lent = of_width a.dialect a.back.now a.long_back.now in
    let q = words_back a.dialect a.order words_in a.rows.now (length lent) c.in_ok-count.ensures.answer c.read.ensures.rows refl in record {
      answer = c.write.ensures.answer ∙ ap answer_of q;
      rows = c.read.ensures.rows;
      back = c.write.ensures.words ∙ ap (λ (x : Outcome ℕ). over16 a.dialect (given x) a.back.now) q;
      long_back = c.write.ensures.longwords ∙ ap (λ (x : Outcome ℕ). over32 a.dialect (given x) a.long_back.now) q;
    }
