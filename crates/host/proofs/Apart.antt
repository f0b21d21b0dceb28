-- The host takes the answer apart again, and both stamp orders give the same.
-- Assumes nothing.
use Prim.Native.Nat.{ℕ, ◌%◌, ◌^◌, ◌≤◌, ◌<◌}
use native.Mathlib.Omega.{arith}
use mathlib.Core.Path.{◌≡◌, refl, ap}
use mathlib.Core.Bool.{Bool, true, false, cond}
use mathlib.Core.List.{List}
use lib.Dec.{ltb, leb, eqb}
use lib.ListN.{length}
use borrow.Author.Tests.{leb-true, leb-false}
use Rattle.std.specs.Prelude.{Err}
use Rattle.event.specs.declared.Row.{Row}
use Rattle.event.specs.declared.StampOrder.{StampOrder}
use Rattle.event.specs.declared.StampOrder.TheVariants.{Crossed, Rising}
use Rattle.event.specs.Refusal.{fault_of, refusal}
use Rattle.event.specs.Parser.{Result, ok, refuse}
use Rattle.event.specs.Outcome.{Outcome, done, refused, outcome, answer_of, order_of}
use Rattle.dialects.specs.declared.Dialect.TheVariants.{S}
use Rattle.dialects.proofs.Demands.{rows_within_words}
use Rattle.dialects.proofs.Named.{of_reading}
use Rattle.s800_layout.specs.Event.{Event}
use Rattle.s800_layout.specs.Layout.{rows}
use Rattle.s800_layout.specs.Reading.{event_parser, reading}
use Rattle.s800_layout.proofs.Reading.{reading_iff}
use Rattle.s800_layout.proofs.Refusals.{refusals}
use Rattle.host.specs.Check.{words_of, checking, packed, Apart, TakenApart, OrderIndifferent}
use Rattle.host.proofs.Checked.{too_many, small_places}

module _ (o : StampOrder) (ws : List ℕ) where
  abbrev Parted : Outcome Row → Type 0
  Parted x = Apart (packed (answer_of x)) x

  by_size : Apart (packed (Err (refusal 1 0))) (refused 1 0)
  unfolding fault_of
  by_size = (omega arith, omega arith, omega arith)

  of_reading_lem : Parted (reading o ws)
  of_reading_lem = sized (leb (length ws) 4096) refl
    where
      go : length ws < 4097 → (x : Outcome Row) → reading o ws ≡ x → Parted x
      go l (done rs) e =
          let h = rows_within_words S o ws rs e in
          let v = (reading_iff o ws rs).0 e in
          let four : 4 ≤ length rs = omega (arith, ap length v.its_rows) in
          (four, omega arith, omega arith, omega arith)
      go l (refused n k) e =
          let h : k < 2 ^ 32 = rw e at (small_places o ws (omega arith)) in
          let m = of_reading S o ws n k e in
          ((refusals o ws n k e).0, omega arith, omega arith)

      sized : (b : Bool) → leb (length ws) 4096 ≡ b → Parted (reading o ws)
      sized true h = go (omega (arith, leb-true (length ws) 4096 h)) (reading o ws) refl
      sized false h = rw (too_many o ws (leb-false (length ws) 4096 h)) by_size

pub taken_apart : TakenApart
unfolding checking fault_of
taken_apart bytes order = go (ltb 1 order) (eqb (length bytes % 2) 0)
  where
    go : (a b : Bool) → let x = cond a (refused 31 0) (cond b (reading (order_of order) (words_of bytes)) (refused 1 0)) in Apart (packed (answer_of x)) x
    go true b = (omega arith, omega arith, omega arith)
    go false true = of_reading_lem (order_of order) (words_of bytes)
    go false false = (omega arith, omega arith, omega arith)

same_count : (x : Result ℕ Event) → packed (answer_of (outcome (λ e. done (rows Crossed e)) x)) ≡ packed (answer_of (outcome (λ e. done (rows Rising e)) x))
same_count (ok e j r) = refl
same_count (refuse n k) = refl

pub order_indifferent : OrderIndifferent
unfolding checking
order_indifferent bytes = go (eqb (length bytes % 2) 0)
  where
    go : (b : Bool) → packed (answer_of (cond b (reading Crossed (words_of bytes)) (refused 1 0))) ≡ packed (answer_of (cond b (reading Rising (words_of bytes)) (refused 1 0)))
    go true = same_count (event_parser (length (words_of bytes)) 0 (words_of bytes))
    go false = refl
