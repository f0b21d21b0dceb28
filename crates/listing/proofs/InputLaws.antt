-- Laws of the first line, and what is known of what comes next.
-- Assumes nothing.
use mathlib.Core.Path.{◌≡◌, refl}
use mathlib.Core.Bool.{Bool, true, false, cond, not}
use mathlib.Core.List.{List, [], ◌∷◌}
use Prim.Native.Nat.{ℕ, zero, suc, ◌+◌, ◌≤◌, ◌<◌}
use native.Mathlib.Omega.{arith}
use borrow.Author.Tests.{leb-true, leb-false, ltb-true, ltb-false, eqb-true, eqb-false}
use lib.Dec.{eqb, leb, ltb}
use lib.ListN.{length}
use Rattle.std.specs.Prelude.{Option, Some, None, position}
use Rattle.std.specs.Option.{unwrap_or}
use Rattle.std.specs.List.{position_or_len}
use Rattle.event.proofs.Impossible.{impossible}
use Rattle.hex_line.specs.Line.{longest_line}
use Rattle.listing.specs.declared.Next.{Next}
use Rattle.listing.specs.declared.Next.TheVariants.{Line, Long, More, End, Cut}
use Rattle.listing.specs.Listing.{most_lines}
use Rattle.listing.specs.Input.{first_line, next_of}

pub first_within : (s : List ℕ) → first_line s ≤ length s
unfolding first_line
first_within [] = omega arith
first_within (c ∷ s) = go (eqb c 10) refl (first_within s)
  where
    go : (b : Bool) → eqb c 10 ≡ b → first_line s ≤ length s → first_line (c ∷ s) ≤ length (c ∷ s)
    go true e h = rw e (omega arith)
    go false e h = rw e (omega arith)

-- the first line feed by its position among the characters
position_is : (s : List ℕ) → position_or_len (λ (c : ℕ). eqb c 10) s ≡ first_line s
unfolding first_line
position_is [] = refl
position_is (c ∷ s) = go (eqb c 10) (position_is s)
  where
    go : (b : Bool) → position_or_len (λ (c : ℕ). eqb c 10) s ≡ first_line s → cond (not b) (1 + position_or_len (λ (c : ℕ). eqb c 10) s) 0 ≡ cond b 0 (suc (first_line s))
    go true e = refl
    go false e = omega arith

pub found_line : (s : List ℕ) {feed : Option ℕ} → feed ≡ position (λ (c : ℕ). eqb c 10) s → unwrap_or feed (length s) ≡ first_line s
found_line s {feed} e = rw (e, position_is s) (go (ltb (first_line s) (length s)) refl)
  where
    go : (b : Bool) → ltb (first_line s) (length s) ≡ b → unwrap_or (cond b (Some (first_line s)) None) (length s) ≡ first_line s
    go true l = refl
    go false l = omega (arith, ltb-false (first_line s) (length s) l, first_within s)

-- what is known of each thing that may come next
abbrev pub Known : (rest : List ℕ) (ended : Bool) (lines : ℕ) → Next → Type 0
Known rest ended lines (Line k) = (k ≡ first_line rest) × (0 < length rest) × (lines < most_lines) × (k ≤ longest_line) × (ended ≡ false → k < length rest)
Known rest ended lines (Long k) = (k ≡ first_line rest) × (0 < length rest) × (lines < most_lines) × (longest_line < k)
Known rest ended lines More = (ended ≡ false) × (length rest ≤ longest_line)
Known rest ended lines End = (length rest ≡ 0) × (ended ≡ true)
Known rest ended lines Cut = (0 < length rest) × (most_lines ≤ lines)

pub positive : (n : ℕ) → (n ≡ 0 → ⊥) → 0 < n
positive zero h = absurd (h refl)
positive (suc n) h = omega arith

pub known : (rest : List ℕ) (ended : Bool) (lines : ℕ) → Known rest ended lines (next_of rest ended lines)
unfolding next_of
known rest ended lines = go (eqb (length rest) 0) (leb most_lines lines) (ltb longest_line (first_line rest)) (ltb (first_line rest) (length rest)) ended refl refl refl refl refl
  where
    some : eqb (length rest) 0 ≡ false → 0 < length rest
    some a = positive (length rest) (eqb-false (length rest) 0 a)

    go : (none most long whole e : Bool) → eqb (length rest) 0 ≡ none → leb most_lines lines ≡ most → ltb longest_line (first_line rest) ≡ long
        → ltb (first_line rest) (length rest) ≡ whole → ended ≡ e → Known rest ended lines (next_of rest ended lines)
    go true most long whole true a b c d f = rw (a, f) (eqb-true (length rest) 0 a, refl)
    go true most long whole false a b c d f = rw (a, f) (refl, omega (arith, eqb-true (length rest) 0 a))
    go false true long whole e a b c d f = rw (a, b) (some a, leb-true most_lines lines b)
    go false false true whole e a b c d f = rw (a, b, c) (refl, some a, leb-false most_lines lines b, ltb-true longest_line (first_line rest) c)
    go false false false whole true a b c d f = rw (a, b, c, f) (refl, some a, leb-false most_lines lines b, ltb-false longest_line (first_line rest) c, λ e. impossible cc)
    go false false false true false a b c d f =
        rw (a, b, c, d, f) (refl, some a, leb-false most_lines lines b, ltb-false longest_line (first_line rest) c, λ e. ltb-true (first_line rest) (length rest) d)
    go false false false false false a b c d f =
        rw (a, b, c, d, f) (refl, omega (arith, ltb-false longest_line (first_line rest) c, ltb-false (first_line rest) (length rest) d))
