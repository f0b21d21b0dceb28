-- A line by the call of `line_rows`, in the program's room: its answer and its rows.
-- Assumes nothing.
use Prim.Native.Nat.{ℕ, ◌+◌, ◌-◌, ◌*◌, ◌/◌, ◌≤◌}
use native.Mathlib.Omega.{arith}
use mathlib.Core.Path.{◌≡◌, refl, ap, ◌∙◌}
use mathlib.Core.Bool.{cond}
use mathlib.Core.List.{List}
use lib.Dec.{eqb}
use lib.ListN.{length, take, drop}
use lib.Seq.{take_at}
use Rattle.std.specs.Result.{result_unwrap_or}
use Rattle.event.specs.Refusal.{Answer}
use Rattle.event.specs.declared.Row.{Row}
use Rattle.event.specs.declared.StampOrder.{StampOrder}
use Rattle.event.specs.Outcome.{Outcome, done, refused, answer_of, given, overlaid}
use Rattle.event.specs.Rows.{flat, room}
use Rattle.event.specs.Writing.{rows_in}
use Rattle.event.proofs.RowCodes.{flat_in}
use Rattle.event.proofs.Stores.{length_flat}
use Rattle.dialects.specs.declared.Dialect.TheVariants.{S, F}
use Rattle.dialects.specs.Dialects.{of_width}
use Rattle.dialects.proofs.Widths.{by_width}
use Rattle.hex_line.specs.Line.{longest_line, most_words}
use Rattle.listing.specs.Lengths.{most_rows}
use Rattle.listing.specs.Listing.{line_dialect, line_rows, line_rows_into}
use Rattle.listing.proofs.Room.{room_enough, few_line_rows}
use Rattle.list_input.specs.Run.{answer_to, rows_to}

abbrev pub rows_into : StampOrder → (line words longwords rows : List ℕ) → Outcome Row
rows_into o line words longwords rows = line_rows_into (length (of_width (line_dialect line) words longwords)) (room (length rows)) o line

told : (x : Outcome Row) → result_unwrap_or (answer_of x) 0 ≡ length (given x)
told (done rs) = refl
told (refused n k) = refl

-- a line that was passed on, into room for every line that is not too long
module _ (o : StampOrder) {passed line : List ℕ} (p : passed ≡ line) (words longwords rows : List ℕ)
    (short : most_words S ≤ length words) (long : most_words F ≤ length longwords) (many : 4 * most_rows ≤ length rows) where
  abbrev called : Outcome Row
  called = rows_into o passed words longwords rows

  same : called ≡ line_rows o line
  same =
      let w = by_width (λ (w : ℕ). (longest_line - 1) / (w / 4 + 1) ≤ length (cond (eqb w 16) words longwords)) short long (line_dialect passed) in
      room_enough o passed w (omega (arith, many)) ∙ ap (line_rows o) p

  module _ {answer : Answer} (a : answer ≡ answer_of called) where
    pub answered : answer ≡ answer_to o line
    answered = a ∙ ap answer_of same

    -- as many rows as the answer tells stand in the buffer, none where it refuses
    counted : result_unwrap_or answer 0 ≡ length (rows_to o line)
    counted = ap (λ (x : Answer). result_unwrap_or x 0) answered ∙ told (line_rows o line)

    pub few : result_unwrap_or answer 0 ≤ most_rows
    few = rw counted (few_line_rows o line)

    pub rows_given : {rows' : List ℕ} → rows' ≡ overlaid (flat (given called)) rows → rows_in (take (result_unwrap_or answer 0 * 4) rows') ≡ rows_to o line
    rows_given {rows'} b =
        let f = flat (rows_to o line) in
        let e : rows' ≡ overlaid f rows = b ∙ ap (λ (x : Outcome Row). overlaid (flat (given x)) rows) same in
        rw (e, take_at f (drop (length f) rows) (result_unwrap_or answer 0 * 4) (omega (arith, length_flat (rows_to o line), counted))) (flat_in (rows_to o line))
