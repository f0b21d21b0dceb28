-- From items stored one by one to those of an outcome: the ways out of a reading, and of a writing, that checks, tests the room and fills.
-- Assumes nothing.
use Prim.Native.Nat.{ℕ, suc, ◌+◌, ◌*◌, ◌%◌, ◌≤◌, ◌<◌}
use native.Mathlib.Nat.{zero-add}
use native.Mathlib.Omega.{arith}
use mathlib.Core.Path.{◌≡◌, refl, ap, ◌∙◌}
use mathlib.Core.List.{List, [], ◌∷◌}
use lib.ListN.{length}
use lib.Seq.{sets, sets-eq, length-sets}
use borrow.Author.Tests.{lt-ltb, le-leb, lt-leb, eq-eqb, ne_eqb}
use Rattle.event.specs.declared.Row.{Row}
use Rattle.event.specs.Parser.{Result, ok, Parser}
use Rattle.event.specs.Rows.{flat_row, flat, room, store_row}
use Rattle.event.specs.Outcome.{Outcome, done, refused, outcome, limited, in_room, in_word_room, given, answer_of, overlaid}
use Rattle.event.specs.Writing.{rows_in, writing_by}
use Rattle.event.specs.Demands.{InWidth}
use Rattle.event.specs.Scanning.{store_rows, writing_all, ScannedBy, RefusedAs, Scanned}
use Rattle.event.proofs.Leads.{Taken, refused_scan, accepted_scan}
use Rattle.event.proofs.WordStores.{words_laid}
use Rattle.event.specs.declared.refusal.Refusal.{Refusal}
use Rattle.event.specs.Refusal.{Answer, refusal}
use Rattle.std.specs.Prelude.{Err, Ok}

pub length_flat : (rs : List Row) → length (flat rs) ≡ length rs * 4
length_flat [] = refl
length_flat (r ∷ rs) = omega (arith, length_flat rs)

-- rows that fit are stored as one run
stores : (buffer : List ℕ) (k : ℕ) (rs : List Row) → k + length rs ≤ room (length buffer) → store_rows buffer k rs ≡ sets buffer (k * 4) (flat rs)
unfolding store_row
stores buffer k [] h = refl
stores buffer k (r ∷ rs) h =
    let t : store_row buffer k r ≡ sets buffer (k * 4) (flat_row r) = rw (lt-ltb k (room (length buffer)) (omega arith)) in
    let four : (k + 1) * 4 ≡ suc (suc (suc (suc (k * 4)))) = omega arith in
    let u : k + 1 + length rs ≤ room (length (store_row buffer k r)) = rw (t, length-sets buffer (k * 4) (flat_row r)) (omega arith) in
    stores (store_row buffer k r) (k + 1) rs u ∙ rw (t, four)

overlay : (buffer : List ℕ) (rs : List Row) → length rs ≤ room (length buffer) → store_rows buffer 0 rs ≡ overlaid (flat rs) buffer
overlay buffer rs h =
    let s : length (flat rs) ≡ length rs * 4 = length_flat rs in
    stores buffer 0 rs (omega arith) ∙ sets-eq (flat rs) buffer 0 (omega arith) ∙ rw zero-add

-- what a function answers and leaves in the buffer, for an outcome whose items are `flatten` as elements
pub record Gives {X : Type 0} (flatten : List X → List ℕ) (buffer : List ℕ) (gave : Outcome X) (result : Answer) (after : List ℕ) : Type 0 where
  pub answered : result ≡ answer_of gave
  pub written : after ≡ overlaid (flatten (given gave)) buffer

gives_refused : {X : Type 0} {flatten : List X → List ℕ} {buffer : List ℕ} {gave : Outcome X} (n p : ℕ) → flatten [] ≡ [] → gave ≡ refused n p
    → Gives flatten buffer gave (Err (refusal n p)) buffer
gives_refused n p z e = record { answered = rw e; written = rw (e, z) }

-- 12, 23, 24, 25
pub over : {A : Type 0} (n most : ℕ) (xs : List A) → most < length xs → limited n most (done xs) ≡ refused n (length xs)
over n most xs h = rw (lt-leb (length xs) most h)

pub within : {A : Type 0} (n most : ℕ) (xs : List A) → length xs ≤ most → limited n most (done xs) ≡ done xs
within n most xs h = rw (le-leb (length xs) most h)

module _ {E A : Type 0} (rows_of : A → List Row) (buffer : List ℕ) (x : Result E A) where
  -- a reading into the room of the buffer
  abbrev ReadInto : Answer → List ℕ → Type 0
  ReadInto = Gives flat buffer (in_room (room (length buffer)) (outcome (λ a. done (rows_of a)) x))

  pub read_refused : {r : Refusal} {b after : List ℕ} → Scanned rows_of x 0 b (Err r) after → ReadInto (Err r) buffer
  read_refused {r} s = go (refused_scan rows_of x s)
    where
      go : RefusedAs x r → ReadInto (Err r) buffer
      go t = rw t.named (gives_refused t.number t.place refl (rw t.refused))

  pub read_crowded : {k : ℕ} {b after : List ℕ} → Scanned rows_of x 0 b (Ok k) after → room (length buffer) < k → ReadInto (Err (refusal 12 k)) buffer
  read_crowded {k} s = go (accepted_scan rows_of x s)
    where
      go : Taken rows_of x k → room (length buffer) < k → ReadInto (Err (refusal 12 k)) buffer
      go t h = gives_refused 12 k refl (rw (t.parsed, t.counted) (over 12 (room (length buffer)) (rows_of t.value) (rw t.counted at h)))

  pub read_fits : {k : ℕ} {b after after' : List ℕ} {result : Answer} → Scanned rows_of x 0 b (Ok k) after → k ≤ room (length buffer)
      → Scanned rows_of x 0 buffer result after' → ReadInto result after'
  read_fits {k} {after' = after'} {result = result} s = go (accepted_scan rows_of x s)
    where
      go : Taken rows_of x k → k ≤ room (length buffer) → Scanned rows_of x 0 buffer result after' → ReadInto result after'
      go t h u =
          let l = rw t.counted at h in
          let v = rw t.parsed at u in
          rw (t.parsed, within 12 (room (length buffer)) (rows_of t.value) l)
          (record { answered = v.answered ∙ ap Ok (zero-add (length (rows_of t.value))); written = v.stored ∙ overlay buffer (rows_of t.value) l })

-- a writing of the elements xs into the buffer
module _ {Event : Type 0} (width largest : ℕ) (words : Event → List ℕ) (parser : Parser Row Event) (xs buffer : List ℕ) where
  abbrev WrittenInto : Answer → List ℕ → Type 0
  WrittenInto = Gives (λ ws. ws) buffer (in_word_room (length buffer) (writing_by words largest parser xs))

  pub write_uneven : (length xs % 4 ≡ 0 → ⊥) → WrittenInto (Err (refusal 20 0)) buffer
  write_uneven h = gives_refused 20 0 refl (rw (ne_eqb (length xs % 4) 0 h))

  module _ (four : length xs % 4 ≡ 0) where
    abbrev parsed : Result Row Event
    parsed = parser 0 (rows_in xs)

    by_rows : writing_by words largest parser xs ≡ limited 23 largest (outcome (λ e. done (words e)) parsed)
    by_rows = rw (eq-eqb (length xs % 4) 0 four)

    pub write_refused : {r : Refusal} {b after : List ℕ} → ScannedBy (writing_all width) words parsed 0 b (Err r) after → WrittenInto (Err r) buffer
    write_refused {r} s = go (refused_scan words parsed s)
      where
        go : RefusedAs parsed r → WrittenInto (Err r) buffer
        go t = rw t.named (gives_refused t.number t.place refl (rw (by_rows, t.refused)))

    -- 23, then 24, of the words of what was taken
    module _ {k : ℕ} (t : Taken words parsed k) where
      pub write_large : largest < k → WrittenInto (Err (refusal 23 k)) buffer
      write_large h = gives_refused 23 k refl (rw (by_rows, t.parsed, t.counted, over 23 largest (words t.value) (rw t.counted at h)))

      module _ (small : k ≤ largest) where
        in_size : writing_by words largest parser xs ≡ done (words t.value)
        in_size = by_rows ∙ rw t.parsed (within 23 largest (words t.value) (rw t.counted at small))

        pub write_crowded : length buffer < k → WrittenInto (Err (refusal 24 k)) buffer
        write_crowded h = gives_refused 24 k refl (rw (in_size, t.counted) (over 24 (length buffer) (words t.value) (rw t.counted at h)))

        pub write_fits : {after : List ℕ} {result : Answer} → ((e : Event) (j : ℕ) (r : List Row) → parsed ≡ ok e j r → length (words e) ≤ largest → InWidth width (words e)) → k ≤ length buffer
            → ScannedBy (writing_all width) words parsed 0 buffer result after → WrittenInto result after
        write_fits fit h s =
            let l = rw t.counted at h in
            let f = fit t.value t.place t.input t.parsed (rw t.counted at small) in
            let v = rw t.parsed at s in
            rw (in_size, within 24 (length buffer) (words t.value) l)
            (record { answered = v.answered ∙ ap Ok (zero-add (length (words t.value))); written = v.stored ∙ words_laid width (words t.value) buffer f l })
