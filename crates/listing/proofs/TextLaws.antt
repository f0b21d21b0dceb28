-- Texts of known length, and rows one behind another.
-- Assumes nothing.
use Prim.Native.Nat.{ℕ, zero, suc, ◌+◌, ◌*◌, ◌≤◌, ◌<◌}
use native.Mathlib.Omega.{arith}
use native.Mathlib.Nat.{mul-suc, not-suc-le-zero, suc-add, zero-add, le_of_suc-le-suc}
use mathlib.Core.Path.{◌≡◌, refl, ◌∙◌}
use mathlib.Core.Bool.{Bool, true, false}
use mathlib.Core.List.{List, [], ◌∷◌, ◌++◌, append_assoc, append-nil}
use lib.ListN.{length, get_or, take, length-append}
use lib.Seq.{sets-eq}
use borrow.Author.Tests.{le-leb, lt-leb}
use Rattle.std.specs.Prelude.{Ok, Err}
use Rattle.event.specs.Refusal.{Answer}
use Rattle.event.specs.declared.Row.{Row}
use Rattle.event.specs.Outcome.{overlaid}
use Rattle.event.specs.Parser.{each}
use Rattle.event.specs.Rows.{room}
use Rattle.event.specs.Writing.{rows_in}
use Rattle.event.proofs.RowsIn.{rows_count}
use Rattle.hex_line.specs.Text.{Placed}
use Rattle.hex_line.proofs.TextLaws.{hex_length, field_length}
use Rattle.listing.specs.Lengths.{refused_length, answer_length, row_length, last_length}
use Rattle.listing.specs.Text.{accepted_text, refused_text, answer_text, row_text, event_text, last_text, last_label, fitted}

pub row_length_lem : (r : Row) → length (row_text r) ≡ row_length
unfolding row_text
row_length_lem r = simp (length-append, field_length, hex_length)

rows_length_lem : (rs : List Row) → length (each row_text rs) ≡ row_length * length rs
rows_length_lem [] = refl
rows_length_lem (r ∷ rs) = length-append (row_text r) (each row_text rs) ∙ rw (row_length_lem r, rows_length_lem rs, mul-suc) (omega arith)

pub answer_length_lem : (k : ℕ) (a : Answer) → length (answer_text k a) ≡ answer_length a
unfolding accepted_text refused_text
answer_length_lem k (Ok n) = simp (length-append, field_length)
answer_length_lem k (Err r) = simp (length-append, field_length)

pub answer_most : (a : Answer) → answer_length a ≤ refused_length
answer_most (Ok n) = omega arith
answer_most (Err r) = omega arith

pub event_length : (k : ℕ) (a : Answer) (rs : List Row) → length (event_text k a rs) ≡ answer_length a + row_length * length rs
unfolding event_text
event_length k a rs = length-append (answer_text k a) (each row_text rs) ∙ rw (answer_length_lem k a, rows_length_lem rs)

pub label_length : (cut : Bool) → length (last_label cut) ≡ 11
label_length true = refl
label_length false = refl

pub last_length_lem : (cut : Bool) (a r : ℕ) → length (last_text cut a r) ≡ last_length
unfolding last_text
last_length_lem cut a r = simp (length-append, field_length, label_length)

-- one row more
pub rows_next : (rs : List Row) (i : ℕ) (d : Row) → i < length rs → each row_text (take (i + 1) rs) ≡ each row_text (take i rs) ++ row_text (get_or rs i d)
rows_next [] i d h = absurd (not-suc-le-zero h)
rows_next (r ∷ rs) zero d h = append-nil (row_text r)
rows_next (r ∷ rs) (suc i) d h = rw (suc-add, rows_next rs i d (le_of_suc-le-suc h), append_assoc)

-- a text that was put at the front of the buffer, and one that was not
fitted_whole : {buffer after t : List ℕ} {k : ℕ} → length t ≤ length buffer → Placed buffer 0 t k after
    → (k ≡ length (fitted (length buffer) t)) × (after ≡ overlaid (fitted (length buffer) t) buffer)
fitted_whole {buffer} {after} {t} {k} h p = rw (le-leb (length t) (length buffer) h) (p.ends ∙ zero-add (length t), p.holds ∙ sets-eq t buffer 0 (rw zero-add h) ∙ rw zero-add)

fitted_none : (buffer t : List ℕ) → length buffer < length t
    → (0 ≡ length (fitted (length buffer) t)) × (buffer ≡ overlaid (fitted (length buffer) t) buffer)
fitted_none buffer t h = rw (lt-leb (length t) (length buffer) h) (refl, refl)

module _ (buffer elements : List ℕ) (k : ℕ) (a : Answer) where
  its_length : length (event_text k a (rows_in elements)) ≡ answer_length a + row_length * room (length elements)
  its_length = event_length k a (rows_in elements) ∙ rw rows_count

  pub event_none : length buffer < answer_length a + row_length * room (length elements)
      → (0 ≡ length (fitted (length buffer) (event_text k a (rows_in elements)))) × (buffer ≡ overlaid (fitted (length buffer) (event_text k a (rows_in elements))) buffer)
  event_none h = fitted_none buffer (event_text k a (rows_in elements)) (rw its_length h)

  pub event_whole : answer_length a + row_length * room (length elements) ≤ length buffer → {e : ℕ} {after : List ℕ} → Placed buffer 0 (event_text k a (rows_in elements)) e after
      → (e ≡ length (fitted (length buffer) (event_text k a (rows_in elements)))) × (after ≡ overlaid (fitted (length buffer) (event_text k a (rows_in elements))) buffer)
  event_whole h p = fitted_whole (rw its_length h) p

module _ (buffer : List ℕ) (cut : Bool) (a r : ℕ) where
  pub last_none : length buffer < last_length
      → (0 ≡ length (fitted (length buffer) (last_text cut a r))) × (buffer ≡ overlaid (fitted (length buffer) (last_text cut a r)) buffer)
  last_none h = fitted_none buffer (last_text cut a r) (rw last_length_lem h)

  pub last_whole : last_length ≤ length buffer → {e : ℕ} {after : List ℕ} → Placed buffer 0 (last_text cut a r) e after
      → (e ≡ length (fitted (length buffer) (last_text cut a r))) × (after ≡ overlaid (fitted (length buffer) (last_text cut a r)) buffer)
  last_whole h p = fitted_whole (rw last_length_lem h) p
