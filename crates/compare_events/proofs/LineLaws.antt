-- The words that a line gives, and what is put of those of two lines.
-- Assumes nothing.
use Prim.Native.Nat.{ℕ, ◌≤◌}
use native.Mathlib.Nat.{le_trans}
use mathlib.Core.Path.{◌≡◌, refl, ap, ◌∙◌}
use mathlib.Core.List.{List}
use mathlib.Core.Bool.{true, false}
use lib.Dec.{eqb}
use lib.ListN.{length}
use Rattle.std.specs.Prelude.{Err}
use Rattle.event.specs.declared.StampOrder.{StampOrder}
use Rattle.event.specs.declared.refusal.Refusal.{Refusal}
use Rattle.event.specs.Outcome.{Outcome, done, refused, in_word_room, answer_of}
use Rattle.event.specs.Refusal.{Answer}
use Rattle.event.proofs.Answers.{RefusedBy, refused_by}
use Rattle.event.proofs.Stores.{within}
use Rattle.dialects.specs.declared.Dialect.{Dialect}
use Rattle.dialects.specs.Dialects.{width, reading}
use Rattle.hex_line.specs.Line.{most_words, line_words, line_into}
use Rattle.hex_line.specs.Text.{Placed}
use Rattle.hex_line.proofs.TextLaws.{placed_then}
use Rattle.listing.specs.Listing.{and_then}
use Rattle.listing.proofs.Room.{few_words}
use Rattle.compare_events.specs.Print.{compared_text, body_text, lines_text}
use Rattle.compare_events.specs.Text.{answers_text, cut_text}

-- which buffer has the words
pub narrow : (d : Dialect) → width d ≡ 16 → eqb (width d) 16 ≡ true
narrow d e = rw e

pub wide : (d : Dialect) → width d ≡ 32 → eqb (width d) 16 ≡ false
wide d e = rw e

-- into room for the words of any line: 24 does not show
module _ (d : Dialect) (line buffer : List ℕ) (room : most_words d ≤ length buffer) where
  same_words : line_into d (length buffer) line ≡ line_words d line
  same_words = go (line_words d line) refl
    where
      go : (x : Outcome ℕ) → line_words d line ≡ x → in_word_room (length buffer) x ≡ x
      go (done ws) e = within 24 (length buffer) ws (le_trans (few_words d line ws e) room)
      go (refused n k) e = refl

  pub line_refused : {r : Refusal} → Err r ≡ answer_of (line_into d (length buffer) line) → Err r ≡ answer_of (line_words d line)
  line_refused e = e ∙ ap answer_of same_words

module _ (d : Dialect) (o : StampOrder) (p q : Outcome ℕ) where
  pub first_cut : {r : Refusal} → Err r ≡ answer_of p → cut_text ≡ body_text d o p q
  first_cut {r} e = go (refused_by p e)
    where
      go : RefusedBy p r → cut_text ≡ body_text d o p q
      go s = rw s.outcome

  pub second_cut : {ws : List ℕ} {r : Refusal} → p ≡ done ws → Err r ≡ answer_of q → cut_text ≡ body_text d o p q
  second_cut {ws} {r} e f = go (refused_by q f)
    where
      go : RefusedBy q r → cut_text ≡ body_text d o p q
      go s = rw (e, s.outcome)

  pub none_cut : {a b : List ℕ} → p ≡ done a → q ≡ done b → compared_text d o a b ≡ body_text d o p q
  none_cut e f = rw (e, f)

  -- what both readings answer, and then the comparison
  pub all_put : {x y : Answer} {t text text' text'' : List ℕ} {at end : ℕ} → x ≡ answer_of (and_then (reading d o) p) → y ≡ answer_of (and_then (reading d o) q)
      → Placed text 0 (answers_text x y) at text' → t ≡ body_text d o p q → Placed text' at t end text'' → Placed text 0 (lines_text d o p q) end text''
  all_put ex ey z e b = placed_then (rw (ex, ey) at z) (rw e at b)
