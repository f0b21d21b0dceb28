-- `text::put_answers` meets its contract. Assumes nothing.
use native.Mathlib.Omega.{arith}
use mathlib.Core.Path.{refl}
use Rattle.hex_line.proofs.TextLaws.{placed_then}
use Rattle.compare_events.specs.Text.{first_label, answers_text}
use Rattle.compare_events.proofs.TextLaws.{answer_most}
use Rattle.compare_events.proofs.text.put_answers.Goals as goal

pub put_answer-end-requires : goal.put_answer-end-requires
put_answer-end-requires c = (refl, omega (arith, c.requires))

pub put_answer-requires : goal.put_answer-requires
put_answer-requires c = (refl, omega (arith, c.put_answer-end.ensures.ends, answer_most first_label c.args.first refl, c.requires))

pub returns : goal.returns
unfolding answers_text
returns c = placed_then c.put_answer-end.ensures c.put_answer.ensures
