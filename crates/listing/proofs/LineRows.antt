-- The rows of a line by two calls, over any dialect: from the contracts of the calls.
-- Assumes nothing.
use Prim.Native.Nat.{ℕ, min}
use mathlib.Core.Path.{◌≡◌, sym, ◌∙◌}
use mathlib.Core.List.{List}
use lib.ListN.{length, take, drop}
use lib.Seq.{take_at}
use Rattle.std.specs.Prelude.{Ok, Err}
use Rattle.event.specs.declared.refusal.Refusal.{Refusal}
use Rattle.event.specs.Refusal.{Answer}
use Rattle.event.specs.declared.Row.{Row}
use Rattle.event.specs.declared.StampOrder.{StampOrder}
use Rattle.event.specs.Outcome.{Outcome, answer_of, given, overlaid}
use Rattle.event.specs.Rows.{flat, room}
use Rattle.event.proofs.Answers.{Given, refused_by, given_by}
use Rattle.event.proofs.Stores.{Gives}
use Rattle.dialects.specs.declared.Dialect.{Dialect}
use Rattle.dialects.specs.Dialects.{reading_into, of_width, over16, over32}
use Rattle.dialects.proofs.Widths.{first_given}
use Rattle.hex_line.specs.Line.{line_into}
use Rattle.listing.specs.Listing.{and_then}

module _ (d : Dialect) (o : StampOrder) (line words longwords rows : List ℕ) where
  abbrev words_given : Outcome ℕ
  words_given = line_into d (length (of_width d words longwords)) line

  abbrev reads : List ℕ → Outcome Row
  reads = reading_into d (room (length rows)) o

  abbrev RowsGiven : Answer → List ℕ → Type 0
  RowsGiven = Gives flat rows (and_then reads words_given)

  pub not_words : {r : Refusal} → Err r ≡ answer_of words_given → RowsGiven (Err r) rows
  not_words e = let q = refused_by words_given e in record { answered = e ∙ rw q.outcome; written = rw q.outcome }

  pub words_read : {k short long : ℕ} {words' longwords' rows' : List ℕ} {r : Answer} → Ok k ≡ answer_of words_given
      → words' ≡ over16 d (given words_given) words → longwords' ≡ over32 d (given words_given) longwords
      → short ≡ min k (length words') → long ≡ min k (length longwords')
      → (r ≡ answer_of (reads (of_width d (take short words') (take long longwords')))) × (rows' ≡ overlaid (flat (given (reads (of_width d (take short words') (take long longwords'))))) rows)
      → RowsGiven r rows'
  words_read {k} {short} {long} {words'} {longwords'} {rows'} {r} e w l s t q = go (given_by words_given e)
    where
      go : Given words_given k → RowsGiven r rows'
      go g =
          let buffer = of_width d words longwords in
          let front : take k (overlaid (given words_given) buffer) ≡ g.items = rw g.outcome (take_at g.items (drop (length g.items) buffer) k (sym g.counted)) in
          let f : of_width d (take short words') (take long longwords') ≡ g.items = first_given d k (given words_given) words longwords s t w l ∙ front in
          let p = rw f at q in
          rw g.outcome (record { answered = p.0; written = p.1 })
