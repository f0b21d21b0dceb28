-- `text::put_answer` meets its contract. Assumes nothing.
use Prim.Native.Nat.{ℕ}
use mathlib.Core.Path.{◌≡◌}
use native.Mathlib.Omega.{arith}
use Rattle.std.specs.Prelude.{Ok, Err}
use Rattle.event.specs.declared.refusal.Refusal.{Refusal}
use Rattle.event.specs.Refusal.{Answer, number}
use Rattle.run_vectors.specs.Text.{count_text, refusal_text, answer_text}
use Rattle.run_vectors.proofs.text.put_answer.Goals as goal

text_of_count : (a : Answer) (n : ℕ) → a ≡ Ok n → answer_text a ≡ count_text n
unfolding answer_text
text_of_count a n e = rw e

text_of_refusal : (a : Answer) (r : Refusal) {n : ℕ} → a ≡ Err r → n ≡ number r.fault → answer_text a ≡ refusal_text n r.place
unfolding answer_text
text_of_refusal a r e f = rw (f, e)

pub returns-in-Ok : goal.returns-in-Ok
returns-in-Ok c = record { upper_bound = c.put_count.ensures.upper_bound; placed = rw (text_of_count c.args.answer _ c.in-Ok.is) c.put_count.ensures.placed }

pub returns-in-Err : goal.returns-in-Err
returns-in-Err c = record {
  upper_bound = omega (arith, c.put_refusal.ensures.value);
  placed = rw (text_of_refusal c.args.answer _ c.in-Err.is c.refusal_number.ensures) c.put_refusal.ensures.placed;
}
