-- Laws of pages: what a sound page is, and the slot of an event.
-- Assumes nothing.
use Prim.Native.Nat.{ℕ, ◌≤◌, ◌<◌}
use mathlib.Core.Path.{◌≡◌}
use mathlib.Core.Bool.{true}
use lib.Dec.{leb}
use borrow.Author.Tests.{leb-true, le-leb}
use Rattle.page_layout.specs.declared.Page.{Page}
use Rattle.page_layout.specs.Plane.{table}
use Rattle.page_layout.specs.Page.{length_of, sound}
use Rattle.page_layout.proofs.Tables.{table_at, and_true, up_to_at, table_up_to}

pub record Sound (p : Page) (room : ℕ) : Type 0 where
  pub roomy : 65536 ≤ room
  pub count : p.count ≤ 64
  pub short : (k : ℕ) → k < p.count → length_of p k ≤ 1024

pub sound_is : (p : Page) (room : ℕ) → sound p room ≡ true → Sound p room
unfolding sound
sound_is p room h =
    let a = and_true (leb 65536 room) _ h in
    let b = and_true (leb p.count 64) _ a.1 in
    record {
      roomy = leb-true 65536 room a.0;
      count = leb-true p.count 64 b.0;
      short = λ k l. rw (table_at p.count (length_of p) k 0 l) at (up_to_at 1024 (table p.count (length_of p)) k b.1);
    }

pub is_sound_lem : (p : Page) (room : ℕ) → Sound p room → sound p room ≡ true
unfolding sound
is_sound_lem p room s = rw (le-leb 65536 room s.roomy, le-leb p.count 64 s.count) (table_up_to 1024 p.count (length_of p) s.short)
