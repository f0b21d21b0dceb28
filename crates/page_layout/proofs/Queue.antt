-- A page in its room is a queue.
-- Assumes nothing.
use Prim.Native.Nat.{ℕ, zero, suc, ◌+◌, ◌-◌, ◌*◌, ◌%◌, ◌≤◌, ◌<◌}
use native.Mathlib.Nat.{zero-add, suc-add}
use native.Mathlib.Numerals.{add-one}
use native.Mathlib.Omega.{arith}
use mathlib.Core.Path.{◌≡◌, refl, sym, ap, ◌∙◌}
use mathlib.Core.Bool.{Bool, true, false, cond}
use mathlib.Core.Logic.{⊎_elim}
use mathlib.Core.List.{List, [], ◌∷◌, ◌++◌, append_assoc}
use lib.Dec.{ltb, eqb}
use lib.ListN.{length, get_or, set, take, drop}
use lib.Seq.{paste, drop-paste, drop-drop, take-append-le, take-take, length-take-le, take_at, drop_at, take-length, take-nil, get_or-set_same, get_or-set_other, length-paste}
use borrow.Author.Tests.{ltb-true, lt-ltb, le-ltb, eqb-true, eqb-false}
use Rattle.page_layout.specs.declared.Page.{Page}
use Rattle.page_layout.specs.Plane.{table}
use Rattle.page_layout.specs.Page.{slot_of, place_of, length_of, event_at, held, with_newest, without_oldest}
use Rattle.page_layout.specs.Claims.{with_last}
use Rattle.page_layout.proofs.Tables.{lt_or_ge, table_length, table_ext, table_snoc}
use Rattle.page_layout.proofs.SoundPages.{Sound}

-- ---- parts of a list that was pasted into

take_of_drop : (n m : ℕ) (l : List ℕ) → take m (drop n l) ≡ drop n (take (n + m) l)
take_of_drop zero m l = rw zero-add
take_of_drop (suc n) m [] = rw (take-nil, take-nil)
take_of_drop (suc n) m (x ∷ xs) = rw (suc-add n m) (take_of_drop n m xs)

module _ (d : List ℕ) (at : ℕ) (s : List ℕ) (fits : at + length s ≤ length d) where
  part_before : (a n : ℕ) → a + n ≤ at → take n (drop a (paste d at s (length s))) ≡ take n (drop a d)
  part_before a n h =
      let l : a + n ≤ length (take at d) = rw (length-take-le at d (omega arith)) h in
      rw (
        take_of_drop a n (paste d at s (length s)),
        take_of_drop a n d,
        append_assoc (take at d) (take (length s) s) (drop (at + length s) d),
        take-append-le (a + n) (take at d),
        take-take (a + n) at d,
      )

  part_after : (a n : ℕ) → at + length s ≤ a → take n (drop a (paste d at s (length s))) ≡ take n (drop a d)
  part_after a n h =
      let e : a ≡ (at + length s) + (a - (at + length s)) = omega arith in
      ap (take n) (ap (λ (k : ℕ). drop k (paste d at s (length s))) e ∙ sym (drop-drop (a - (at + length s)) (at + length s) (paste d at s (length s)))
      ∙ ap (drop (a - (at + length s))) (drop-paste d at s (length s) (omega arith) (omega arith)) ∙ drop-drop (a - (at + length s)) (at + length s) d ∙ ap (λ (k : ℕ). drop k d) (sym e))

  part_own : take (length s) (drop at (paste d at s (length s))) ≡ s
  part_own = rw (
    append_assoc (take at d) (take (length s) s) (drop (at + length s) d),
    drop_at (take at d) (take (length s) s ++ drop (at + length s) d) at (length-take-le at d (omega arith)),
    take-length s,
    take_at s (drop (at + length s) d) (length s) refl,
  )

pub held_length : (p : Page) (room : List ℕ) → length (held p room) ≡ p.count
unfolding held
held_length p room = table_length p.count (event_at p room)

le_ne : {m n : ℕ} → (m ≡ n → ⊥) → m ≤ n → m < n
le_ne h l = omega arith

-- ---- the words of a slot, by the lengths

abbrev in_slot : List ℕ → List ℕ → ℕ → List ℕ
in_slot lens room s = take (get_or lens s 0) (drop (1024 * s) room)

module _ (lens room words : List ℕ) (many : length lens ≡ 64) (roomy : 65536 ≤ length room) (fits : length words ≤ 1024) (s : ℕ) (hs : s < 64) where
  abbrev lens' : List ℕ
  lens' = set lens s (length words)

  abbrev room' : List ℕ
  room' = paste room (1024 * s) words (length words)

  own_slot : in_slot lens' room' s ≡ words
  own_slot = rw (get_or-set_same lens s (length words) 0 (omega arith)) (part_own room (1024 * s) words (omega arith))

  other_slot : (j : ℕ) → (j ≡ s → ⊥) → get_or lens j 0 ≤ 1024 → in_slot lens' room' j ≡ in_slot lens room j
  other_slot j ne le =
      rw (get_or-set_other lens s j (length words) 0 ne)
      (⊎_elim (λ (l : j < s). part_before room (1024 * s) words (omega arith) (1024 * j) (get_or lens j 0) (omega arith))
      (λ (l : s ≤ j). part_after room (1024 * s) words (omega arith) (1024 * j) (get_or lens j 0) (omega arith)) (lt_or_ge j s))

-- ---- add

module _ (p : Page) (room words : List ℕ) (many : length p.lengths ≡ 64) (sd : Sound p (length room)) (fits : length words ≤ 1024) where
  abbrev s : ℕ
  s = slot_of p p.count

  abbrev after : List ℕ
  after = paste room (place_of p p.count) words (length words)

  abbrev new_lens : List ℕ
  new_lens = set p.lengths s (length words)

  own : in_slot new_lens after s ≡ words
  own = own_slot p.lengths room words many sd.roomy fits s (omega arith)

  other : (k : ℕ) → k < p.count → (slot_of p k ≡ s → ⊥) → in_slot new_lens after (slot_of p k) ≡ event_at p room k
  other k l ne = other_slot p.lengths room words many sd.roomy fits s (omega arith) (slot_of p k) ne (sd.short k l)

  more : p.count < 64 → held (with_newest p (length words)) after ≡ held p room ++ words ∷ []
  unfolding held with_newest
  more h =
      rw (lt-ltb p.count 64 h)
      (ap (λ (n : ℕ). table n (λ k. in_slot new_lens after (slot_of p k))) (add-one p.count)
      ∙ table_snoc p.count (λ k. in_slot new_lens after (slot_of p k))
      ∙ rw (table_ext p.count (λ k. in_slot new_lens after (slot_of p k)) (event_at p room) (λ k l. other k l (λ e. omega arith)), own))

  full : (n : ℕ) → p.count ≡ suc n → 64 ≤ p.count → held (with_newest p (length words)) after ≡ drop 1 (held p room) ++ words ∷ []
  unfolding held with_newest table
  full n c h =
      let m : n ≡ 63 = omega (arith, sd.count) in
      let f : (k : ℕ) → ((p.first + 1) % 64 + k) % 64 ≡ slot_of p (suc k) = λ k. omega arith in
      let last : in_slot new_lens after (((p.first + 1) % 64 + n) % 64) ≡ words = ap (in_slot new_lens after) (omega arith) ∙ own in
      rw (le-ltb p.count 64 h)
      (ap (λ (n : ℕ). table n (λ k. in_slot new_lens after (((p.first + 1) % 64 + k) % 64))) c
      ∙ table_snoc n (λ k. in_slot new_lens after (((p.first + 1) % 64 + k) % 64))
      ∙ rw (
        last,
        table_ext n (λ k. in_slot new_lens after (((p.first + 1) % 64 + k) % 64)) (λ k. event_at p room (suc k))
            (λ k l. ap (in_slot new_lens after) (f k) ∙ other (suc k) (omega arith) (λ e. omega arith)),
      ) refl
      ∙ ap (λ (n : ℕ). drop 1 (table n (event_at p room)) ++ words ∷ []) (sym c))

  pub newest_joins : held (with_newest p (length words)) after ≡ with_last (held p room) words
  newest_joins = ⊎_elim (λ (h : p.count < 64). rw (held_length p room, lt-ltb p.count 64 h) (more h))
      (λ (h : 64 ≤ p.count). rw (held_length p room, le-ltb p.count 64 h) (full (p.count - 1) (omega arith) h)) (lt_or_ge p.count 64)

  -- the page stays sound
  set_short : (j : ℕ) → ((j ≡ s → ⊥) → get_or p.lengths j 0 ≤ 1024) → get_or new_lens j 0 ≤ 1024
  set_short j h = go (eqb j s) refl
    where
      go : (b : Bool) → eqb j s ≡ b → get_or new_lens j 0 ≤ 1024
      go true e = rw (eqb-true j s e, get_or-set_same p.lengths s (length words) 0 (omega arith)) fits
      go false e = rw (get_or-set_other p.lengths s j (length words) 0 (eqb-false j s e)) (h (eqb-false j s e))

  pub newest_sound : Sound (with_newest p (length words)) (length after)
  unfolding with_newest
  newest_sound = record { roomy = rw (length-paste room (place_of p p.count) words (length words) (omega (arith, sd.roomy)) (omega arith)) sd.roomy; count = counts; short = shorts }
    where
      counts : (with_newest p (length words)).count ≤ 64
      counts = go (ltb p.count 64) refl
        where
          go : (b : Bool) → ltb p.count 64 ≡ b → cond b (p.count + 1) p.count ≤ 64
          go true e = omega (arith, ltb-true p.count 64 e)
          go false e = sd.count

      shorts : (k : ℕ) → k < (with_newest p (length words)).count → length_of (with_newest p (length words)) k ≤ 1024
      shorts k = go (ltb p.count 64) refl
        where
          go : (b : Bool) → ltb p.count 64 ≡ b → k < cond b (p.count + 1) p.count → get_or new_lens ((cond b p.first ((p.first + 1) % 64) + k) % 64) 0 ≤ 1024
          go true e l = set_short (slot_of p k) (λ ne. sd.short k (le_ne (λ q. ne (ap (slot_of p) q)) (omega arith)))
          go false e l =
              let f : ((p.first + 1) % 64 + k) % 64 ≡ slot_of p (suc k) = omega arith in
              rw f (set_short (slot_of p (suc k)) (λ ne. sd.short (suc k) (le_ne (λ q. ne (ap (slot_of p) q)) (omega arith))))

-- ---- drop

pub oldest_leaves : (p : Page) (room : List ℕ) → (p.count ≡ 0 → ⊥) → held (without_oldest p) room ≡ drop 1 (held p room)
unfolding held without_oldest table
oldest_leaves p room h =
    let c : p.count ≡ suc (p.count - 1) = omega arith in
    let f : (k : ℕ) → ((p.first + 1) % 64 + k) % 64 ≡ slot_of p (suc k) = λ k. omega arith in
    table_ext (p.count - 1) (λ k. in_slot p.lengths room (((p.first + 1) % 64 + k) % 64)) (λ k. event_at p room (suc k)) (λ k l. ap (in_slot p.lengths room) (f k))
    ∙ ap (λ (n : ℕ). drop 1 (table n (event_at p room))) (sym c)

pub oldest_sound : (p : Page) (room : ℕ) → (p.count ≡ 0 → ⊥) → Sound p room → Sound (without_oldest p) room
unfolding without_oldest
oldest_sound p room h s = record {
  roomy = s.roomy;
  count = omega (arith, s.count);
  short = λ k l. let f : ((p.first + 1) % 64 + k) % 64 ≡ slot_of p (suc k) = omega arith in rw f (s.short (suc k) (omega arith));
}
