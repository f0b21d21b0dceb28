-- The stamp packet and the event number packet, of two rows each. Over plain values.
-- Assumes nothing.
use Prim.Native.Nat.{ℕ, ◌+◌, ◌/◌, ◌%◌}
use native.Mathlib.Omega.{arith}
use mathlib.Core.Path.{◌≡◌, refl, sym, ◌∙◌}
use mathlib.Core.Bool.{Bool, true, false, cond, ◌&&◌}
use mathlib.Core.List.{List, []}
use lib.Dec.{eqb}
use lib.ListN.{get_or, drop}
use borrow.Author.Tests.{eq-eqb, eqb-true}
use Rattle.event.specs.declared.Row.{Row}
use Rattle.event.specs.declared.StampOrder.{StampOrder}
use Rattle.event.specs.Parser.{Parser, fault_in, ◌>>◌}
use Rattle.event.specs.Words.{store_word}
use Rattle.event.specs.Scanning.{store_words, RefusedAs, Writes}
use Rattle.event.specs.Writing.{is_same_row, row_tests, row_with, of_kind, no_row}
use Rattle.event.proofs.RowJudged.{row_taken}
use Rattle.event.proofs.WritingTurns.{writes_refused, writes_done}
use Rattle.s800_layout.specs.Event.{Stamp, Number, stamp_tag, number_tag}
use Rattle.s800_layout.specs.Layout.{framed, stamp_words, number_words, packet_row, stamp_row, number_row, stamp_checks, number_checks}
use Rattle.s800_layout.specs.Writing.{of_tag, own_row, stamp_of, number_of, stamp_packet, number_packet}
use Rattle.s800_writer.specs.Rows.{limits_fault}
use Rattle.s800_writer.specs.Packets.{closed, own_fault}
use Rattle.s800_writer.proofs.Closing.{closed_writes}
use Rattle.s800_writer.proofs.Limits.{stamp_fault_lem, number_fault}
use Rattle.s800_writer.proofs.Singles.{one_taken, one_refused}
use Rattle.event.specs.Refusal.{PartAnswer, part}
use Rattle.std.specs.Prelude.{Err, Ok}
use Rattle.event.specs.declared.refusal.Refusal.{Refusal}
use Rattle.event.proofs.Answers.{Failed}
use Rattle.s800_writer.proofs.Failures.{row_failed, refused_first}

-- the own row
module _ (t : ℕ) (r : Row) where
  own_fault_lem : fault_in (row_tests (of_tag t) (λ r. tt) (λ (u : Unit {0}). packet_row t 0) (λ u. []) r) ≡ own_fault t r
  unfolding own_fault
  own_fault_lem = go (eqb 1 r.kind) refl (eqb t r.unit) refl
    where
      go : (a : Bool) → eqb 1 r.kind ≡ a → (b : Bool) → eqb t r.unit ≡ b
          → ◌≡◌ {A = ℕ} (cond (a && b) (cond (is_same_row r (packet_row t 0)) 0 22) 21) (cond (a && b) (cond (eqb r.channel 0 && eqb r.datum 0) 0 22) 21)
      go true p true q = rw (eq-eqb r.kind 1 (sym (eqb-true 1 r.kind p)), eq-eqb r.unit t (sym (eqb-true t r.unit q)))
      go true p false q = refl
      go false p b q = refl

-- the own row at row i, and the row after it
module _ {A : Type 0} (t : ℕ) (second : Parser Row A) (rs : List Row) (i : ℕ) {o : Row} (e : o ≡ get_or rs i no_row) where
  own_row_refused : {refused : Refusal} → Failed (own_fault t o) i refused → RefusedAs ((own_row t >> second) i (drop i rs)) refused
  own_row_refused q = refused_first _ (row_failed (of_tag t) (λ r. tt) (λ (u : Unit {0}). packet_row t 0) (λ u. []) refl (λ u. tt) rs i e (own_fault_lem t o) q)

  own_row_taken : 0 ≡ own_fault t o → (own_row t >> second) i (drop i rs) ≡ second (i + 1) (drop (i + 1) rs)
  own_row_taken f = rw (row_taken (of_tag t) (λ r. tt) (λ (u : Unit {0}). packet_row t 0) (λ u. []) refl (λ u. tt) rs i e (f ∙ sym (own_fault_lem t o))).1

-- the stamp, of rows 0 and 1
module _ (order : StampOrder) (rs : List Row) {o : Row} (e : o ≡ get_or rs 0 no_row) where
  abbrev stamp_rest : Parser Row Stamp
  stamp_rest = row_with (of_kind 2) (stamp_of order) (stamp_row order) (stamp_checks 22)

  abbrev StampWritten : List ℕ → PartAnswer → List ℕ → Type 0
  StampWritten b p after = Writes 16 (λ s. framed stamp_tag (stamp_words s)) (stamp_packet order 0 rs) rs 0 b p after

  pub stamp_own : {b after : List ℕ} {refused : Refusal} → Failed (own_fault stamp_tag o) 0 refused → StampWritten b (Err refused) after
  stamp_own t = writes_refused 16 (λ s. framed stamp_tag (stamp_words s)) (own_row_refused stamp_tag stamp_rest rs 0 e t) refl

  module _ (f : 0 ≡ own_fault stamp_tag o) {r : Row} (q : r ≡ get_or rs 1 no_row) where
    pub stamp_refused : {b after : List ℕ} {refused : Refusal} → Failed (limits_fault 2 0 0xffffffff 0xffffffff r) 1 refused → StampWritten b (Err refused) after
    stamp_refused t = writes_refused 16 (λ s. framed stamp_tag (stamp_words s)) (rw (own_row_taken stamp_tag stamp_rest rs 0 e f)
        (one_refused 2 0 0xffffffff 0xffffffff (stamp_of order) (stamp_row order) (stamp_checks 22) (stamp_fault_lem order) refl (λ s. (tt, (tt, (tt, (tt, tt))))) rs 1 q t)) refl

    pub stamp_written : {b b' after : List ℕ} → 0 ≡ limits_fault 2 0 0xffffffff 0xffffffff r → b' ≡ store_words 16 b 2 (stamp_words (stamp_of order r)) → after ≡ closed 0 stamp_tag 6 b'
        → StampWritten b (Ok (part 2 6)) after
    stamp_written g s =
        let t = one_taken 2 0 0xffffffff 0xffffffff (stamp_of order) (stamp_row order) (stamp_checks 22) (stamp_fault_lem order) refl (λ s. (tt, (tt, (tt, (tt, tt))))) rs 1 q g in
        let l = t.0 in
        closed_writes stamp_words 0 stamp_tag (stamp_packet order 0 rs)
        (writes_done 16 stamp_words (own_row_taken stamp_tag stamp_rest rs 0 e f ∙ t.1) refl refl s (omega arith) (omega arith))

-- the event number, of rows 2 and 3
module _ (rs : List Row) {o : Row} (e : o ≡ get_or rs 2 no_row) where
  abbrev number_rest : Parser Row Number
  number_rest = row_with (of_kind 3) number_of number_row (number_checks 22)

  abbrev NumberWritten : List ℕ → PartAnswer → List ℕ → Type 0
  NumberWritten b p after = Writes 16 (λ k. framed number_tag (number_words k)) (number_packet 2 (drop 2 rs)) rs 0 b p after

  pub number_own : {b after : List ℕ} {refused : Refusal} → Failed (own_fault number_tag o) 2 refused → NumberWritten b (Err refused) after
  number_own t = writes_refused 16 (λ k. framed number_tag (number_words k)) (own_row_refused number_tag number_rest rs 2 e t) refl

  module _ (f : 0 ≡ own_fault number_tag o) {r : Row} (q : r ≡ get_or rs 3 no_row) where
    pub number_refused : {b after : List ℕ} {refused : Refusal} → Failed (limits_fault 3 0 65535 0xffffffff r) 3 refused → NumberWritten b (Err refused) after
    number_refused t = writes_refused 16 (λ k. framed number_tag (number_words k)) (rw (own_row_taken number_tag number_rest rs 2 e f)
        (one_refused 3 0 65535 0xffffffff number_of number_row (number_checks 22) number_fault refl (λ k. (tt, (tt, (tt, tt)))) rs 3 q t)) refl

    pub number_written : {b b₁ b₂ b₃ after : List ℕ} → 0 ≡ limits_fault 3 0 65535 0xffffffff r → b₁ ≡ store_word 16 b 2 (r.datum % 65536) → b₂ ≡ store_word 16 b₁ 3 (r.datum / 65536)
        → b₃ ≡ store_word 16 b₂ 4 r.channel → after ≡ closed 0 number_tag 5 b₃ → NumberWritten b (Ok (part 4 5)) after
    number_written g s u v =
        let t = one_taken 3 0 65535 0xffffffff number_of number_row (number_checks 22) number_fault refl (λ k. (tt, (tt, (tt, tt)))) rs 3 q g in
        let l = t.0 in
        closed_writes number_words 0 number_tag (number_packet 2 (drop 2 rs))
        (writes_done 16 number_words (own_row_taken number_tag number_rest rs 2 e f ∙ t.1) refl refl (v ∙ rw (u, s)) (omega arith) (omega arith))
