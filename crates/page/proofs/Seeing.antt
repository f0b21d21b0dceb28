-- The plane counted afresh over the events of a page.
-- Assumes nothing.
use Prim.Native.Nat.{ℕ, zero, suc, ◌+◌, ◌*◌, ◌^◌, ◌≤◌, ◌<◌}
use native.Mathlib.Numerals.{add-one}
use native.Mathlib.Omega.{arith}
use mathlib.Core.Path.{◌≡◌, refl, sym, ap, ◌∙◌}
use mathlib.Core.Bool.{Bool, true, false, cond}
use mathlib.Core.List.{List}
use lib.ListN.{length, drop, length-take}
use Rattle.std.specs.Prelude.{Ok, Err}
use Rattle.event.specs.declared.refusal.Refusal.{Refusal}
use Rattle.event.specs.Refusal.{refusal}
use Rattle.event.specs.Parser.{All}
use Rattle.event.proofs.Impossible.{impossible}
use Rattle.page_layout.specs.declared.Page.{Page}
use Rattle.page_layout.specs.Plane.{rows_of, table, at, counted, no_hits, Shape}
use Rattle.page_layout.specs.Page.{length_of, place_of, event_at, held, sound, seeing, plane_in}
use Rattle.page_layout.proofs.Tables.{table_length, table_snoc}
use Rattle.page_layout.proofs.PlaneLaws.{plane_of_shape}
use Rattle.page_layout.proofs.SoundPages.{sound_is}
use Rattle.page.specs.Counting.{with_hits}
use Rattle.page.proofs.EventHits.{counted_next, counted_under}

pub all_table : {A : Type 0} (P : A → Type 0) (n : ℕ) (f : ℕ → A) → ((k : ℕ) → k < n → P (f k)) → All P (table n f)
unfolding table
all_table P zero f h = tt
all_table P (suc n) f h = (h 0 (omega arith), all_table P n (λ k. f (suc k)) (λ k l. h (suc k) (omega arith)))

pub event_short : (p : Page) (room : List ℕ) (k : ℕ) → length_of p k ≤ 1024 → length (event_at p room k) ≤ 1024
event_short p room k h = omega (arith, length-take (length_of p k) (drop (place_of p k) room))

module _ (p : Page) (room : List ℕ) where
  pub sees : {n : ℕ} → Ok n ≡ seeing p (length room) → (sound p (length room) ≡ true) × (n ≡ p.count)
  unfolding seeing
  sees {n} = go (sound p (length room)) refl
    where
      go : (s : Bool) → sound p (length room) ≡ s → Ok n ≡ cond s (Ok p.count) (Err (refusal 28 0)) → (sound p (length room) ≡ true) × (n ≡ p.count)
      go false f q = impossible cc
      go true f q = (f, cc)

  pub plane_in_none : {r : Refusal} → Err r ≡ seeing p (length room) → no_hits ≡ plane_in p room
  unfolding plane_in
  plane_in_none e = rw (← e)

  pub plane_in_all : {n : ℕ} → Ok n ≡ seeing p (length room) → counted (held p room) ≡ plane_in p room
  unfolding plane_in
  plane_in_all e = rw (← e)

  -- the first k events, and one more
  abbrev pub firsts : ℕ → List (List ℕ)
  firsts k = table k (event_at p room)

  pub one_more : (k : ℕ) → with_hits (rows_of (event_at p room k)) (counted (firsts k)) ≡ counted (firsts (k + 1))
  one_more k = counted_next (firsts k) (event_at p room k) ∙ ap counted (sym (table_snoc k (event_at p room)) ∙ ap (λ (n : ℕ). table n (event_at p room)) (sym (add-one k)))

  pub all_counted : (k : ℕ) → k ≡ p.count → counted (firsts k) ≡ counted (held p room)
  unfolding held
  all_counted k e = ap (λ (n : ℕ). counted (firsts n)) e

  pub can_count : sound p (length room) ≡ true → (k : ℕ) → k < p.count → (n : ℕ) → n ≡ 4096 →
      Shape (counted (firsts k)) × (4 * length (event_at p room k) ≤ n) × ((q : ℕ) → q < 256 → at (counted (firsts k)) q + length (event_at p room k) < 2 ^ 32)
  can_count s k l n e =
      let d = sound_is p (length room) s in
      let h = event_short p room k (d.short k l) in
      let u = counted_under (firsts k) (all_table (λ e. length e ≤ 1024) k (event_at p room) (λ j m. event_short p room j (d.short j (omega arith)))) in
      (plane_of_shape _, omega arith, λ q m. omega (arith, u q m, table_length k (event_at p room), d.count))
