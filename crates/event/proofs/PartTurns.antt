-- A loop over items up to the rows' end, each written at the front of the part of the words that starts at its place: one turn, over plain values.
-- Assumes nothing.
use Prim.Native.Nat.{ℕ, ◌+◌, ◌*◌, ◌-◌, ◌≤◌, ◌<◌, min}
use native.Mathlib.Omega.{arith}
use mathlib.Core.Path.{◌≡◌, refl, ap, ◌∙◌}
use mathlib.Core.Bool.{true, false}
use mathlib.Core.List.{List, [], ◌∷◌, ◌++◌}
use lib.ListN.{length, take, drop}
use borrow.Rule.Slice.PartMut.{put_mid}
use Rattle.event.specs.declared.Row.{Row}
use Rattle.event.specs.Parser.{ok, Parser, ended, ◌>>=◌, give, many, each}
use Rattle.event.specs.Scanning.{store_words, Writes}
use Rattle.event.proofs.Codes.{Codes, nil}
use Rattle.event.proofs.Ends.{placed}
use Rattle.event.proofs.Impossible.{impossible}
use Rattle.event.proofs.Many.{many_step, many_stop}
use Rattle.event.proofs.RowJudged.{rows_from_lem, rows_over}
use Rattle.event.proofs.Turns.{up_to_stop}
use Rattle.event.proofs.WordStores.{length_words, part_written}
use Rattle.event.proofs.WritingTurns.{WritesOn, rows_done, rows_refused, rows_taken, Wrote, wrote, unwritten}
use Rattle.event.specs.declared.refusal.Refusal.{Refusal}
use Rattle.event.specs.Refusal.{PartAnswer}
use Rattle.std.specs.Prelude.{Err, Ok}

pub parts_done : (width : ℕ) {St A : Type 0} {item : St → Parser Row A} {next : St → A → St} {f : A → List ℕ} {Holds : St → Type 0} {rs : List Row} {st₀ : St} {i₀ k₀ i k : ℕ} {b₀ b : List ℕ}
    → WritesOn width (up_to_stop ended item next) f Holds rs st₀ i₀ k₀ b₀ i k b → length rs ≤ i → Writes width (each f) (many item next ended st₀ i₀ (drop i₀ rs)) rs k₀ b₀ (Ok (record { next = i; count = k })) b
parts_done width {item = item} {next = next} {rs = rs} {i = i} h l = rows_done width h (many_stop item next ended h.state i (drop i rs) (rw (rows_over rs i l).0))

-- an item has a row
some_row : (l : List Row) → ended (l ++ []) ≡ false → 1 ≤ length l
some_row [] e = let z : true ≡ false = e in impossible cc
some_row (r ∷ l) e = omega arith

module _ (width : ℕ) {St A : Type 0} {item : St → Parser Row A} {next : St → A → St} {f : A → List ℕ} {Rest : List Row → Type 0} {print : A → List Row} {Good : St → A → Type 0}
    (codes : (st : St) → Codes Rest (item st) print (Good st)) (again : (a : A) (l : List Row) → Rest (print a ++ l)) (last : Rest []) (on : (a : A) (l : List Row) → ended (print a ++ l) ≡ false)
    (few_words : (a : A) → length (f a) ≤ 4 * length (print a))
    {Holds : St → Type 0} {rs : List Row} {st₀ : St} {i₀ k₀ i k : ℕ} {b₀ b : List ℕ} (h : WritesOn width (up_to_stop ended item next) f Holds rs st₀ i₀ k₀ b₀ i k b) (below : i < length rs) where
  more : many item next ended h.state i (drop i rs) ≡ (item h.state >>= λ a. many item next ended (next h.state a) >>= λ xs. give (a ∷ xs)) i (drop i rs)
  more = many_step next codes (λ st a g l. again a l) ended (λ l t. rw (nil l t) last) (λ st a g l. on a l) refl h.state i (drop i rs) (rw (rows_from_lem rs i below))

  -- the item's part, from the smaller of the place and the length on
  module _ {start : ℕ} (s : start ≡ min k (length b)) {part part' : List ℕ} (lent : part ≡ take (length b - start) (drop start b)) {p : PartAnswer} (w : Writes width f (item h.state i (drop i rs)) rs 0 part p part') where
    pub part_refused : {refused : Refusal} (after : List ℕ) → p ≡ Err refused → Writes width (each f) (many item next ended st₀ i₀ (drop i₀ rs)) rs k₀ b₀ (Err refused) after
    part_refused after e = rows_refused width h more after (unwritten width f (item h.state i (drop i rs)) (rw e at w.scanned))

    module _ {j n : ℕ} (e : p ≡ Ok (record { next = j; count = n })) where
      whole : Wrote width f (item h.state i (drop i rs)) 0 part j n part'
      whole = wrote width f (item h.state i (drop i rs)) (rw e at w.scanned)

      to : (whole.input ≡ drop j rs) × (j ≡ i + length (print whole.value)) × (j ≤ length rs)
      to = placed (codes h.state) rs i (omega arith) whole.parsed

      pub part_within : (j ≤ length rs) × (i < j) × (k + n ≤ 4 * j)
      part_within =
          let few = h.few in
          (to.2, omega (arith, to.1, some_row (print whole.value) (on whole.value [])), omega (arith, to.1, whole.counted, few_words whole.value))

      pub part_taken : {Holds' : St → Type 0} {b' : List ℕ} → ((a : A) (l : List Row) → Good h.state a → drop i rs ≡ print a ++ l → Holds' (next h.state a)) → b' ≡ put_mid start (length b - start) b part'
          → WritesOn width (up_to_stop ended item next) f Holds' rs st₀ i₀ k₀ b₀ j (k + n) b'
      part_taken {b' = b'} holds back =
          let t = whole in
          let g = (codes h.state).sound i (drop i rs) t.value j t.input t.parsed in
          let words : b' ≡ store_words width b k (f t.value) = part_written width (f t.value) b k s lent t.stored back in
          rows_taken width h more (t.parsed ∙ ap (ok t.value j) to.0) (holds t.value t.input g.0 g.1) to.2 part_within.2 (omega (arith, t.counted)) words
          (ap length words ∙ length_words width (f t.value) b k)
