-- The ways out of a round trip, over any dialect: from the contracts of the two calls, and demand 2.
-- Assumes nothing.
use Prim.Native.Nat.{ℕ, ◌*◌, ◌≤◌}
use native.Mathlib.Omega.{arith}
use mathlib.Core.Path.{◌≡◌, sym, ap, ◌∙◌}
use mathlib.Core.List.{List}
use lib.ListN.{length, take, drop}
use lib.Seq.{take_at}
use Rattle.std.specs.Prelude.{Ok}
use Rattle.event.specs.declared.Row.{Row}
use Rattle.event.specs.declared.StampOrder.{StampOrder}
use Rattle.event.specs.Outcome.{Outcome, done, answer_of, given, overlaid}
use Rattle.event.specs.Rows.{flat, room}
use Rattle.event.specs.Writing.{rows_in}
use Rattle.event.proofs.Answers.{Given, given_by}
use Rattle.event.proofs.RowCodes.{flat_in}
use Rattle.event.proofs.Stores.{length_flat}
use Rattle.event.proofs.Whole.{limited_iff}
use Rattle.dialects.specs.declared.Dialect.{Dialect}
use Rattle.dialects.specs.Dialects.{reading, reading_into, writing, writing_into}
use Rattle.dialects.proofs.Demands.{written_back, read_back}
use Rattle.round_trips.specs.RoundTrips.{back_words, back_rows}

module _ (d : Dialect) (o : StampOrder) where
  -- a reading, then a writing
  module _ (ws rows : List ℕ) (wordRoom : ℕ) where
    abbrev read : Outcome Row
    read = reading_into d (room (length rows)) o ws

    abbrev back : Outcome ℕ
    back = back_words d o (room (length rows)) wordRoom ws

    its_rows_lem : {k : ℕ} (g : Given read k) → (reading d o ws ≡ done g.items) × (k * 4 ≤ length rows)
    its_rows_lem g = let h = (limited_iff 12 (room (length rows)) (reading d o ws) g.items).0 g.outcome in (h.0, omega (arith, h.1, g.counted))

    pub rows_inside : {k : ℕ} → Ok k ≡ answer_of read → k * 4 ≤ length rows
    rows_inside e = (its_rows_lem (given_by read e)).1

    pub words_back : {k : ℕ} {rows' part : List ℕ} → Ok k ≡ answer_of read → rows' ≡ overlaid (flat (given read)) rows → part ≡ take (k * 4) rows' → writing_into d wordRoom o part ≡ back
    words_back {k} {rows'} {part} e a p = go (given_by read e)
      where
        go : Given read k → writing_into d wordRoom o part ≡ back
        go g =
            let n : k * 4 ≡ length (flat g.items) = omega (arith, g.counted, length_flat g.items) in
            let f : part ≡ flat g.items = p ∙ ap (take (k * 4)) (a ∙ rw g.outcome) ∙ take_at (flat g.items) (drop (length (flat g.items)) rows) (k * 4) (sym n) in
            rw (g.outcome, f, written_back d o ws g.items (its_rows_lem g).0)

  -- a writing, then a reading
  module _ (xs words : List ℕ) (rowRoom : ℕ) where
    abbrev written : Outcome ℕ
    written = writing_into d (length words) o xs

    abbrev rows_again : Outcome Row
    rows_again = back_rows d o (length words) rowRoom xs

    pub rows_back : {k : ℕ} {part : List ℕ} → Ok k ≡ answer_of written → part ≡ take k (overlaid (given written) words) → reading_into d rowRoom o part ≡ rows_again
    rows_back {k} {part} e p = go (given_by written e)
      where
        go : Given written k → reading_into d rowRoom o part ≡ rows_again
        go g =
            let h = (limited_iff 24 (length words) (writing d o xs) g.items).0 g.outcome in
            let t = read_back d o xs g.items h.0 in
            let f : part ≡ g.items = p ∙ ap (take k) (rw g.outcome) ∙ take_at g.items (drop (length g.items) words) k (sym g.counted) in
            let rs : t.0 ≡ rows_in xs = sym (flat_in t.0) ∙ ap rows_in t.1 in
            rw (g.outcome, f, t.2, rs)
