-- After any calls from a cleared page, the page holds what the queue holds; and it is read back event by event.
-- Assumes nothing.
use Prim.Native.Nat.{ℕ, ◌+◌, ◌≤◌, ◌<◌}
use native.Mathlib.Omega.{arith}
use mathlib.Core.Path.{◌≡◌, refl, sym, ap, ◌∙◌}
use mathlib.Core.Bool.{Bool, true, false, cond, ◌&&◌}
use mathlib.Core.List.{List, [], ◌∷◌}
use lib.Dec.{leb, ltb, eqb}
use lib.ListN.{length, drop, length-set, length-take, length-drop}
use borrow.Author.Tests.{leb-true, lt-ltb, le-ltb, le-leb, eqb-true, eqb-false}
use Rattle.event.specs.declared.Row.{Row}
use Rattle.event.specs.Outcome.{Outcome, done, refused, answer_of, accepted, default_order}
use Rattle.event.proofs.Faults.{kept_between}
use Rattle.event.proofs.Tables.{holds_below}
use Rattle.event.proofs.Impossible.{impossible}
use Rattle.s800_layout.specs.Reading.{reading}
use Rattle.s800_layout.proofs.Refusals.{refusals}
use Rattle.page_layout.specs.declared.Page.{Page}
use Rattle.page_layout.specs.Plane.{table}
use Rattle.page_layout.specs.Page.{place_of, length_of, event_at, held, all_up_to, sound, if_read, adding, with_newest, added, added_room, dropping, without_oldest}
use Rattle.page_layout.specs.Page.{dropped, finding, read_back}
use Rattle.page_layout.specs.Claims.{Call, add, clear, State, called, called_all, from, held_in, taken, with_last, queued, queued_all, IsQueue, ReadsBack, Unchanged}
use Rattle.page_layout.specs.Claims as claims
use Rattle.page_layout.proofs.Tables.{table_ext}
use Rattle.page_layout.proofs.SoundPages.{sound_is, is_sound_lem}
use Rattle.page_layout.proofs.Queue.{held_length, newest_joins, newest_sound, oldest_leaves, oldest_sound}
use Rattle.event.specs.declared.refusal.Refusal.{Refusal}
use Rattle.event.specs.Refusal.{Answer, number, fault_of, refusal}
use Rattle.std.specs.Prelude.{Ok, Err}

-- what holds between the calls: the page is sound, and holds these events
pub record Good (s : State) (events : List (List ℕ)) : Type 0 where
  pub many : length s.page.lengths ≡ 64
  pub is_sound : sound s.page (length s.room) ≡ true
  pub holds : held_in s ≡ events

-- an event is added exactly where it is taken
module _ (p : Page) (ws : List ℕ) (room : ℕ) (s : sound p room ≡ true) where
  abbrev then : ℕ
  then = cond (ltb p.count 64) (p.count + 1) 64

  abbrev answer : Outcome Row → Bool → Answer
  answer x b = cond (sound p room) (if_read x (cond b (Ok then) (Err (refusal 26 (length ws))))) (Err (refusal 28 0))

  pub to_add : taken ws ≡ true → adding p ws room ≡ Ok then
  unfolding adding
  to_add = go (reading default_order ws) (leb (length ws) 1024)
    where
      go : (x : Outcome Row) (b : Bool) → accepted (answer_of x) && b ≡ true → answer x b ≡ Ok then
      go (done rs) true h = rw s
      go (done rs) false h = impossible cc
      go (refused n k) b h = impossible cc

  pub not_added : taken ws ≡ false → (r : Refusal) × (adding p ws room ≡ Err r)
  unfolding adding
  not_added = go (reading default_order ws) (leb (length ws) 1024)
    where
      go : (x : Outcome Row) (b : Bool) → accepted (answer_of x) && b ≡ false → (r : Refusal) × (answer x b ≡ Err r)
      go (done rs) true h = impossible cc
      go (done rs) false h = (refusal 26 (length ws), rw s)
      go (refused n k) b h = (refusal n k, rw s)

taken_short : (ws : List ℕ) → taken ws ≡ true → length ws ≤ 1024
taken_short ws = go (reading default_order ws) (leb (length ws) 1024) refl
  where
    go : (x : Outcome Row) (b : Bool) → leb (length ws) 1024 ≡ b → accepted (answer_of x) && b ≡ true → length ws ≤ 1024
    go (done rs) true e h = leb-true (length ws) 1024 e
    go (done rs) false e h = impossible cc
    go (refused n k) b e h = impossible cc

pub good_add : (s : State) (es : List (List ℕ)) (ws : List ℕ) → Good s es → Good (called (add ws) s) (queued (add ws) es)
unfolding added added_room with_newest
good_add s es ws g = go (taken ws) refl
  where
    go : (b : Bool) → taken ws ≡ b → Good (called (add ws) s) (cond (taken ws) (with_last es ws) es)
    go false e =
        let n = not_added s.page ws (length s.room) g.is_sound e in
        rw (e, n.1) (record { many = g.many; is_sound = g.is_sound; holds = g.holds })
    go true e =
        let d = sound_is s.page (length s.room) g.is_sound in
        let short = taken_short ws e in
        let sd = newest_sound s.page s.room ws g.many d short in
        rw (e, to_add s.page ws (length s.room) g.is_sound e)
        (record {
          many = rw length-set g.many;
          is_sound = is_sound_lem _ _ sd;
          holds = newest_joins s.page s.room ws g.many d short ∙ ap (λ (l : List (List ℕ)). with_last l ws) g.holds;
        })

good_drop : (s : State) (es : List (List ℕ)) → Good s es → Good (called claims.drop s) (drop 1 es)
unfolding dropped dropping without_oldest
good_drop s es g = go (eqb s.page.count 0) refl
  where
    empty : (l : List (List ℕ)) → length l ≡ 0 → l ≡ drop 1 l
    empty [] q = refl
    empty (x ∷ l) q = absurd (omega arith)

    go : (b : Bool) → eqb s.page.count 0 ≡ b → Good (called claims.drop s) (drop 1 es)
    go true e =
        let none : length es ≡ 0 = sym (ap length g.holds) ∙ held_length s.page s.room ∙ eqb-true s.page.count 0 e in
        rw (g.is_sound, e) (record { many = g.many; is_sound = g.is_sound; holds = g.holds ∙ empty es none })
    go false e =
        let some = eqb-false s.page.count 0 e in
        let sd = oldest_sound s.page (length s.room) some (sound_is s.page (length s.room) g.is_sound) in
        rw (g.is_sound, e)
        (record { many = g.many; is_sound = is_sound_lem _ _ sd; holds = oldest_leaves s.page s.room some ∙ ap (drop 1) g.holds })

pub good_clear : (room : List ℕ) → 65536 ≤ length room → Good (from room) []
unfolding sound held all_up_to table
good_clear room h = record { many = refl; is_sound = rw (le-leb 65536 (length room) h); holds = refl }

good_call : (c : Call) (s : State) (es : List (List ℕ)) → Good s es → Good (called c s) (queued c es)
good_call (add ws) s es g = good_add s es ws g
good_call claims.drop s es g = good_drop s es g
good_call clear s es g = good_clear s.room (sound_is s.page (length s.room) g.is_sound).roomy

good_all : (cs : List Call) (s : State) (es : List (List ℕ)) → Good s es → Good (called_all cs s) (queued_all cs es)
good_all [] s es g = g
good_all (c ∷ cs) s es g = good_all cs (called c s) (queued c es) (good_call c s es g)

pub is_queue : IsQueue
is_queue calls room h = let g = good_all calls (from room) [] (good_clear room h) in (g.is_sound, g.holds)

module _ (p : Page) (room : List ℕ) (s : sound p (length room) ≡ true) where
  found : (k : ℕ) → k < p.count → read_back p room k ≡ event_at p room k
  unfolding read_back finding
  found k h = rw (s, lt-ltb k p.count h)

  its_length : (k : ℕ) → k < p.count → finding p (length room) k ≡ Ok (length (read_back p room k))
  unfolding finding
  its_length k h =
      let d = sound_is p (length room) s in
      let t = length-take (length_of p k) (drop (place_of p k) room) in
      let n : length_of p k ≡ length (event_at p room k) = omega (arith, t, length-drop (place_of p k) room, d.roomy, d.short k h) in
      rw (found k h) (rw (s, lt-ltb k p.count h) (ap Ok n))

  none_there : (k : ℕ) → p.count ≤ k → finding p (length room) k ≡ Err (refusal 27 0)
  unfolding finding
  none_there k h = rw (s, le-ltb k p.count h)

pub reads_back : ReadsBack
unfolding held
reads_back p room s =
    let l = held_length p room in (
      ap (λ (n : ℕ). table n (read_back p room)) l ∙ table_ext p.count (read_back p room) (event_at p room) (found p room s),
      λ k h. its_length p room s k (omega (arith, l)),
      λ k h. none_there p room s k (omega (arith, l)),
    )

-- a refusal of an event is 28, the reader's own or 26
never_12 : (p : Page) (ws : List ℕ) (room : ℕ) (r : Refusal) → adding p ws room ≡ Err r → number r.fault ≡ 12 → ⊥
unfolding adding fault_of holds_below
never_12 p ws room r = go (sound p room) (reading default_order ws) refl (leb (length ws) 1024)
  where
    other : {n k : ℕ} → ◌≡◌ {A = Answer} (Err (refusal n k)) (Err r) → number (fault_of n) ≡ n → (n ≡ 12 → ⊥) → number r.fault ≡ 12 → ⊥
    other {n = n} {k = k} q e apart h =
        let f : fault_of n ≡ r.fault = cc in
        apart (sym e ∙ ap number f ∙ h)

    go : (a : Bool) (x : Outcome Row) → reading default_order ws ≡ x → (b : Bool)
        → cond a (if_read x (cond b (Ok (cond (ltb p.count 64) (p.count + 1) 64)) (Err (refusal 26 (length ws))))) (Err (refusal 28 0)) ≡ Err r → number r.fault ≡ 12 → ⊥
    go false x f b q h = other {n = 28} {k = 0} q refl (λ e. omega arith) h
    go true (refused i j) f b q h =
        let t = refusals default_order ws i j f in
        other {n = i} {k = j} q (kept_between 1 11 tt i t.0 t.1) (λ e. omega (arith, t.1)) h
    go true (done rs) f false q h = other {n = 26} {k = length ws} q refl (λ e. omega arith) h
    go true (done rs) f true q h = impossible cc

pub unchanged : Unchanged
unfolding added added_room dropped
unchanged p words room r = (λ e. (rw e refl, rw e refl, never_12 p words (length room) r e), λ e. rw e refl)
