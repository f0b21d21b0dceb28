-- Laws of the calls: the lengths of the events held, what is answered to an event, an event found.
-- Assumes nothing.
use Prim.Native.Nat.{ℕ, ◌+◌, ◌-◌, ◌*◌, ◌≤◌, ◌<◌, min}
use native.Mathlib.Omega.{arith}
use mathlib.Core.Path.{◌≡◌, refl, sym, ap, ◌∙◌}
use mathlib.Core.Bool.{Bool, true, false, cond}
use mathlib.Core.List.{List, []}
use lib.Dec.{leb, ltb}
use lib.ListN.{length, set, take, drop}
use borrow.Author.Tests.{leb-true, ltb-true, ltb-false, le-leb, lt-leb, lt-ltb, le-ltb}
use Rattle.std.specs.Prelude.{Ok, Err}
use Rattle.std.proofs.Math.Seq.{paste}
use Rattle.event.specs.declared.refusal.Refusal.{Refusal}
use Rattle.event.specs.declared.Row.{Row}
use Rattle.event.specs.Refusal.{Answer, refusal, verdict}
use Rattle.event.specs.Outcome.{Outcome, done, refused, answer_of, default_order}
use Rattle.event.proofs.Answers.{refused_by, given_by}
use Rattle.event.proofs.Impossible.{impossible}
use Rattle.s800_layout.specs.Reading.{reading}
use Rattle.page_layout.specs.declared.Page.{Page}
use Rattle.page_layout.specs.Page.{slot_of, place_of, length_of, event_at, sound, if_sound, if_read, adding, with_newest, added, added_room, dropping, dropped, finding, read_back}
use Rattle.page.specs.Found.{page_fault}

-- the part of the room that is an event's
pub slot_part : (p : Page) (room : List ℕ) (k : ℕ) → take (place_of p k + length_of p k - place_of p k) (drop (place_of p k) room) ≡ event_at p room k
slot_part p room k =
    let e : place_of p k + length_of p k - place_of p k ≡ length_of p k = omega arith in
    rw e

-- ---- what is answered

module _ (p : Page) (room : ℕ) where
  pub is_sound : {u : Unit {0}} → Ok u ≡ verdict (page_fault p room) 0 → sound p room ≡ true
  is_sound {u} = go (sound p room)
    where
      go : (b : Bool) → Ok u ≡ verdict (cond b 0 28) 0 → b ≡ true
      go true e = refl
      go false e = impossible cc

  pub is_unsound : {r : Refusal} → Err r ≡ verdict (page_fault p room) 0 → (a : Answer) → Err r ≡ if_sound p room a
  is_unsound {r} = go (sound p room)
    where
      go : (b : Bool) → Err r ≡ verdict (cond b 0 28) 0 → (a : Answer) → Err r ≡ cond b a (Err (refusal 28 0))
      go true e a = impossible cc
      go false e a = let q : r ≡ refusal 28 0 = cc in ap Err q

  pub drop_unsound : {r : Refusal} → Err r ≡ verdict (page_fault p room) 0 → (Err r ≡ (dropped p room).answer) × (p ≡ (dropped p room).page)
  unfolding dropped dropping
  drop_unsound e = let a = is_unsound e _ in (a, rw (← a))

module _ (p : Page) (ws : List ℕ) (room : ℕ) where
  pub add_unsound : {r : Refusal} → Err r ≡ verdict (page_fault p room) 0 → Err r ≡ adding p ws room
  unfolding adding
  add_unsound e = is_unsound p room e _

  module _ (s : sound p room ≡ true) where
    pub add_refused : {r : Refusal} → Err r ≡ answer_of (reading default_order ws) → Err r ≡ adding p ws room
    unfolding adding
    add_refused e = let x = refused_by (reading default_order ws) e in rw (s, x.outcome) (ap Err x.named)

    module _ {m : ℕ} (a : Ok m ≡ answer_of (reading default_order ws)) where
      pub add_long : 1024 < length ws → Err (refusal 26 (length ws)) ≡ adding p ws room
      unfolding adding
      add_long h = rw (s, (given_by (reading default_order ws) a).outcome, lt-leb (length ws) 1024 h)

      pub add_held : length ws ≤ 1024 → Ok (min 64 (p.count + 1)) ≡ adding p ws room
      unfolding adding
      add_held h = rw (s, (given_by (reading default_order ws) a).outcome, le-leb (length ws) 1024 h) (ap Ok (go (ltb p.count 64) refl))
        where
          go : (b : Bool) → ltb p.count 64 ≡ b → min 64 (p.count + 1) ≡ cond b (p.count + 1) 64
          go true e = omega (arith, ltb-true p.count 64 e)
          go false e = omega (arith, ltb-false p.count 64 e)

  -- what is known where an event is to be added
  pub record Adds (n : ℕ) : Type 0 where
    pub is_sound : sound p room ≡ true
    pub rows : List Row
    pub read : reading default_order ws ≡ done rows
    pub short : length ws ≤ 1024
    pub then : n ≡ cond (ltb p.count 64) (p.count + 1) 64

  pub adds : (n : ℕ) → adding p ws room ≡ Ok n → Adds n
  unfolding adding
  adds n = go (sound p room) refl (reading default_order ws) refl (leb (length ws) 1024) refl
    where
      go : (s : Bool) → sound p room ≡ s → (x : Outcome Row) → reading default_order ws ≡ x → (b : Bool) → leb (length ws) 1024 ≡ b
          → cond s (if_read x (cond b (Ok (cond (ltb p.count 64) (p.count + 1) 64)) (Err (refusal 26 (length ws))))) (Err (refusal 28 0)) ≡ Ok n → Adds n
      go false e x f b g h = impossible cc
      go true e (refused m k) f b g h = impossible cc
      go true e (done rs) f false g h = impossible cc
      go true e (done rs) f true g h = record { is_sound = e; rows = rs; read = f; short = leb-true (length ws) 1024 g; then = cc }

  -- the page and the room behind it
  pub page_more : {n : ℕ} → Ok n ≡ adding p ws room → p.count < 64
      → ◌≡◌ {A = Page} (record { first = p.first; count = n; lengths = set p.lengths (slot_of p p.count) (length ws) }) (added p ws room).page
  unfolding added with_newest
  page_more {n} e h =
      let t : n ≡ p.count + 1 = (adds n (sym e)).then ∙ rw (lt-ltb p.count 64 h) in
      rw (← e, lt-ltb p.count 64 h, t)

  pub page_full : {n : ℕ} → Ok n ≡ adding p ws room → 64 ≤ p.count
      → ◌≡◌ {A = Page} (record { first = slot_of p 1; count = p.count; lengths = set p.lengths (slot_of p p.count) (length ws) }) (added p ws room).page
  unfolding added with_newest
  page_full e h = rw (← e, le-ltb p.count 64 h)

  pub page_kept : {r : Refusal} → Err r ≡ adding p ws room → p ≡ (added p ws room).page
  unfolding added
  page_kept e = rw (← e)

  pub answered : {a : Answer} → a ≡ adding p ws room → a ≡ (added p ws room).answer
  unfolding added
  answered e = e

module _ (p : Page) (ws room : List ℕ) where
  pub room_kept : {r : Refusal} → Err r ≡ adding p ws (length room) → room ≡ added_room p ws room
  unfolding added_room
  room_kept e = rw (← e)

  pub room_added : {n : ℕ} → Ok n ≡ adding p ws (length room) → {s : ℕ} → s ≡ slot_of p p.count → paste room (1024 * s) ws (length ws) ≡ added_room p ws room
  unfolding added_room
  room_added e {s} at = rw (← e, ← at)

-- ---- reading back

module _ (p : Page) (room : List ℕ) (k : ℕ) where
  pub held_inside : {n : ℕ} → Ok n ≡ finding p (length room) k → (sound p (length room) ≡ true) × (k < p.count)
  unfolding finding
  held_inside {n} = go (sound p (length room)) refl (ltb k p.count) refl
    where
      go : (s : Bool) → sound p (length room) ≡ s → (b : Bool) → ltb k p.count ≡ b
          → Ok n ≡ cond s (cond b (Ok (length_of p k)) (Err (refusal 27 0))) (Err (refusal 28 0)) → (sound p (length room) ≡ true) × (k < p.count)
      go false f b g q = impossible cc
      go true f false g q = impossible cc
      go true f true g q = (f, ltb-true k p.count g)

  pub not_held : {r : Refusal} → Err r ≡ finding p (length room) k → [] ≡ read_back p room k
  unfolding read_back
  not_held e = rw (← e)

  pub is_held : {n : ℕ} → Ok n ≡ finding p (length room) k → event_at p room k ≡ read_back p room k
  unfolding read_back
  is_held e = rw (← e)
