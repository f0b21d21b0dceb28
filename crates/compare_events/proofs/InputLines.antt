-- The first two lines of an input by its line feeds, and where the program finds them.
-- Assumes nothing.
use Prim.Native.Nat.{ℕ, zero, suc, ◌+◌, ◌-◌, ◌≤◌, ◌<◌}
use native.Mathlib.Omega.{arith}
use native.Mathlib.Numerals.{add-one}
use mathlib.Core.Path.{◌≡◌, refl, sym, ap, ◌∙◌}
use mathlib.Core.Bool.{Bool, true, false, cond}
use mathlib.Core.List.{List, [], ◌∷◌, ◌++◌, append-nil}
use lib.Dec.{eqb, ltb}
use lib.ListN.{length, get_or, take, drop, length-drop, drop_of_length-le}
use lib.Seq.{take_all, length-take-le}
use borrow.Author.Tests.{lt-ltb, le-ltb, ltb-true}
use Rattle.event.specs.declared.StampOrder.{StampOrder}
use Rattle.event.proofs.Impossible.{impossible}
use Rattle.event.proofs.WordStores.{part_lent}
use Rattle.hex_line.specs.Line.{longest_line}
use Rattle.listing.specs.Input.{first_line}
use Rattle.listing.specs.Listing.{lines_of}
use Rattle.listing.proofs.InputLaws.{first_within}
use Rattle.listing.proofs.ListingLaws.{first_whole, first_last}
use Rattle.compare_events.specs.Print.{first_of, second_of, print_of, printed}
use Rattle.compare_events.specs.Run.{feeds_in, second_start}

-- no line feed: all of it begins the first line, whatever follows
pub first_on : (s later : List ℕ) → feeds_in s ≡ 0 → get_or (lines_of (s ++ later)) 0 [] ≡ s ++ get_or (lines_of later) 0 []
unfolding feeds_in
first_on [] later e = refl
first_on (c ∷ s) later e = go (eqb c 10) refl (lines_of (s ++ later)) refl (first_on s later)
  where
    go : (b : Bool) → eqb c 10 ≡ b → (ls : List (List ℕ)) → lines_of (s ++ later) ≡ ls
        → (feeds_in s ≡ 0 → get_or (lines_of (s ++ later)) 0 [] ≡ s ++ get_or (lines_of later) 0 []) → get_or (lines_of (c ∷ s ++ later)) 0 [] ≡ c ∷ s ++ get_or (lines_of later) 0 []
    go true f ls q ih = absurd (omega (arith, rw f at e))
    go false f [] q ih = rw (f, q) (ap (c ∷◌) (rw q at (ih (rw f at e))))
    go false f (l ∷ ls) q ih = rw (f, q) (ap (c ∷◌) (rw q at (ih (rw f at e))))

-- a line feed: the first line is whole, and one line feed fewer follows
pub feed_within : (s : List ℕ) → 0 < feeds_in s → (first_line s < length s) × (feeds_in s ≡ suc (feeds_in (drop (suc (first_line s)) s)))
unfolding feeds_in first_line
feed_within [] h = absurd (omega arith)
feed_within (c ∷ s) h = go (eqb c 10) refl (feed_within s)
  where
    go : (b : Bool) → eqb c 10 ≡ b → (0 < feeds_in s → (first_line s < length s) × (feeds_in s ≡ suc (feeds_in (drop (suc (first_line s)) s))))
        → (first_line (c ∷ s) < suc (length s)) × (feeds_in (c ∷ s) ≡ suc (feeds_in (drop (suc (first_line (c ∷ s))) (c ∷ s))))
    go true e ih = rw e (omega arith, refl)
    go false e ih = let t = ih (rw e at h) in rw e (omega (arith, t.0), t.1)

pub no_feed : (s : List ℕ) → feeds_in s ≡ 0 → first_line s ≡ length s
unfolding feeds_in first_line
no_feed [] e = refl
no_feed (c ∷ s) e = go (eqb c 10) refl (no_feed s)
  where
    go : (b : Bool) → eqb c 10 ≡ b → (feeds_in s ≡ 0 → first_line s ≡ length s) → first_line (c ∷ s) ≡ suc (length s)
    go true f ih = absurd (omega (arith, rw f at e))
    go false f ih = rw f (ap suc (ih (rw f at e)))

-- where the lines stand
module _ (s : List ℕ) where
  abbrev k : ℕ
  k = first_line s

  -- behind the first line and its line feed
  abbrev pub rest : List ℕ
  rest = drop (suc k) s

  whole_lines : 0 < feeds_in s → (later : List ℕ) → lines_of (s ++ later) ≡ take k s ∷ lines_of (rest ++ later)
  whole_lines h later = first_whole s later (feed_within s h).0

  pub first_line_lem : (later : List ℕ) → 0 < feeds_in s → first_of (s ++ later) ≡ take k s
  first_line_lem later h = rw (whole_lines h later)

  pub first_there : first_of s ≡ take k s
  first_there = go (feeds_in s) refl
    where
      go : (n : ℕ) → feeds_in s ≡ n → first_of s ≡ take k s
      go zero e = (rw append-nil at (first_on s [] e)) ∙ sym (take_all k s (omega (arith, no_feed s e)))
      go (suc n) e = rw append-nil at (first_line_lem [] (omega (arith, e)))

  pub second_whole : 0 < feeds_in s → (later : List ℕ) → get_or (lines_of (s ++ later)) 1 [] ≡ get_or (lines_of (rest ++ later)) 0 []
  second_whole h later = rw (whole_lines h later)

-- without a line feed there is no second line
no_second : (s : List ℕ) → feeds_in s ≡ 0 → get_or (lines_of s) 1 [] ≡ []
no_second [] e = refl
no_second (c ∷ s) e = rw (first_last (c ∷ s) (no_feed (c ∷ s) e) (omega arith))

pub first_length : (s : List ℕ) → length (first_of s) ≡ first_line s
first_length s = ap length (first_there s) ∙ length-take-le (first_line s) s (first_within s)

nothing : (xs : List ℕ) → xs ≡ [] → [] ≡ take (first_line xs) xs
unfolding first_line
nothing [] e = refl
nothing (x ∷ xs) e = impossible cc

second_there : (s : List ℕ) → let from = second_start (first_line s) (length s) in second_of s ≡ take (first_line (drop from s)) (drop from s)
second_there s = go (feeds_in s) refl (ltb longest_line (first_line s)) refl
  where
    none : drop (length s) s ≡ []
    none = drop_of_length-le s {i = length s} (omega arith)

    go : (n : ℕ) → feeds_in s ≡ n → (long : Bool) → ltb longest_line (first_line s) ≡ long
        → let from = second_start (first_line s) (length s) in second_of s ≡ take (first_line (drop from s)) (drop from s)
    go n e true f = rw (first_length s, f) (nothing (drop (length s) s) none)
    go zero e false f = rw (first_length s, f, le-ltb (first_line s) (length s) (omega (arith, no_feed s e))) (no_second s e ∙ nothing (drop (length s) s) none)
    go (suc n) e false f =
        let h : 0 < feeds_in s = omega (arith, e) in
        rw (first_length s, f, lt-ltb (first_line s) (length s) (feed_within s h).0, add-one)
        ((rw (append-nil, append-nil) at (second_whole s h [])) ∙ first_there (rest s))

-- the lines by the places that the program finds
pub start_within : (count all : ℕ) → second_start count all ≤ all
start_within count all = go (ltb longest_line count) (ltb count all) refl
  where
    go : (long some : Bool) → ltb count all ≡ some → cond long all (cond some (count + 1) all) ≤ all
    go true some e = omega arith
    go false true e = omega (arith, ltb-true count all e)
    go false false e = omega arith

module _ (s : List ℕ) {count from found : ℕ} (c : count ≡ first_line s) (f : from ≡ second_start count (length s)) (g : found ≡ first_line (take (length s - from) (drop from s))) where
  from_within : from ≤ length s
  from_within = rw f (start_within count (length s))

  found_there : found ≡ first_line (drop from s)
  found_there = g ∙ ap first_line (part_lent from s)

  pub end_within : from + found ≤ length s
  end_within = omega (arith, found_there, first_within (drop from s), length-drop from s, from_within)

  pub print_there : (o : StampOrder) → print_of o (take count s) (take (from + found - from) (drop from s)) ≡ printed o s
  print_there o =
      let e : from + found - from ≡ found = omega arith in
      let first : take count s ≡ first_of s = rw c (sym (first_there s)) in
      let start : from ≡ second_start (first_line s) (length s) = f ∙ rw c in
      let second : take found (drop from s) ≡ second_of s = rw (found_there, start) (sym (second_there s)) in
      rw (e, first, second)
