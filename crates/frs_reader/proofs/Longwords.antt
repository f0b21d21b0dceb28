-- A longword's layout, as tests of its bits find it.
-- Assumes nothing.
use Prim.Native.Nat.{ℕ, ◌+◌, ◌*◌, ◌/◌, ◌%◌, ◌^◌, ◌<◌}
use native.Mathlib.Omega.{arith}
use mathlib.Core.Path.{◌≡◌, refl, ap, sym, ◌∙◌}
use mathlib.Core.Bool.{Bool, true, false, cond, not}
use lib.Dec.{eqb}
use borrow.Author.Tests.{eq-eqb, ne_eqb, eqb-true, eqb-false}
use Rattle.event.specs.Channels.{present}
use Rattle.event.specs.Words.{halves}
use Rattle.frs_layout.specs.Layout.{longword, datum_bits, value_word}
use Rattle.event.proofs.Impossible.{impossible}
use Rattle.frs_layout.specs.Reading.{value_of}
use Rattle.event.specs.declared.refusal.Refusal.{Refusal}
use Rattle.event.specs.Refusal.{refusal}
use Rattle.std.specs.Prelude.{Ok, Err}
use Rattle.frs_reader.specs.Longword.{under, is_header, header_fault, footer_fault}

-- two tests that hold together
alike : (a b c d : ℕ) → (a ≡ b → c ≡ d) → (c ≡ d → a ≡ b) → eqb a b ≡ eqb c d
alike a b c d to from = go (eqb a b) refl
  where
    go : (x : Bool) → eqb a b ≡ x → eqb a b ≡ eqb c d
    go true e = rw (e, eq-eqb c d (to (eqb-true a b e)))
    go false e = rw (e, ne_eqb c d (λ p. eqb-false a b e (from p)))

pub under_test : (upper w : ℕ) → eqb (w / 2 ^ 16) upper ≡ eqb w (halves upper (w % 2 ^ 16))
under_test upper w = alike (w / 2 ^ 16) upper w (halves upper (w % 2 ^ 16)) (λ e. omega arith) (λ e. omega arith)

-- the data under an upper half, as the code finds it
module _ (upper i w : ℕ) where
  abbrev printed : Bool
  printed = eqb w (halves upper (w % 2 ^ 16))

  pub under_good : w / 2 ^ 16 ≡ upper → Ok (w % 2 ^ 16) ≡ under upper i w
  unfolding under
  under_good e = rw (← under_test upper w, eq-eqb (w / 2 ^ 16) upper e)

  pub under_bad : (w / 2 ^ 16 ≡ upper → ⊥) → Err (refusal 10 i) ≡ under upper i w
  unfolding under
  under_bad h = rw (← under_test upper w, ne_eqb (w / 2 ^ 16) upper h)

  pub under_given : {v : ℕ} → Ok v ≡ under upper i w → (printed ≡ true) × (v ≡ w % 2 ^ 16)
  unfolding under
  under_given {v} e = go printed refl e
    where
      go : (b : Bool) → printed ≡ b → Ok v ≡ cond b (Ok (w % 2 ^ 16)) (Err (refusal 10 i)) → (printed ≡ true) × (v ≡ w % 2 ^ 16)
      go true h q = (h, cc)
      go false h q = impossible cc

  pub under_refused : {r : Refusal} → Err r ≡ under upper i w → (printed ≡ false) × (r ≡ refusal 10 i)
  unfolding under
  under_refused {r} e = go printed refl e
    where
      go : (b : Bool) → printed ≡ b → Err r ≡ cond b (Ok (w % 2 ^ 16)) (Err (refusal 10 i)) → (printed ≡ false) × (r ≡ refusal 10 i)
      go true h q = impossible cc
      go false h q = (h, cc)

-- a footer: bits 31-16 are the GEO, the flag 4 and zeros
pub footer_good : (geo w : ℕ) → w / 2 ^ 16 ≡ geo * 2 ^ 11 + 2 ^ 10 → 0 ≡ footer_fault geo w
unfolding footer_fault
footer_good geo w e = rw (eq-eqb w (longword geo 4 (w % 2 ^ 16)) (omega arith))

pub footer_bad : (geo w : ℕ) → (w / 2 ^ 16 ≡ geo * 2 ^ 11 + 2 ^ 10 → ⊥) → 9 ≡ footer_fault geo w
unfolding footer_fault
footer_bad geo w h = rw (ne_eqb w (longword geo 4 (w % 2 ^ 16)) (λ e. h (omega arith)))

-- a data longword: the bits that are neither its channel's nor its datum's are the GEO's
abbrev fixed_bits : ℕ → ℕ
fixed_bits w = w / 2 ^ 21 * 2 ^ 21 + w % 2 ^ 16 / 2 ^ datum_bits * 2 ^ datum_bits

-- (the quotient leaves the datum's part out)
pub value_good : (geo w : ℕ) → fixed_bits w ≡ geo * 2 ^ 27 → eqb w (value_word geo (value_of w)) ≡ true
value_good geo w h = go (omega (arith, ap (λ (n : ℕ). n / 2 ^ 21) h))
  where
    printed : w / 2 ^ 21 ≡ geo * 2 ^ 6 → w % 2 ^ 16 < 2 ^ datum_bits → eqb w (value_word geo (value_of w)) ≡ true
    printed e small = eq-eqb w (value_word geo (value_of w)) (omega arith)

    go : w / 2 ^ 21 ≡ geo * 2 ^ 6 → eqb w (value_word geo (value_of w)) ≡ true
    go e = printed e (omega (arith, h))

pub value_bad : (geo w : ℕ) → (fixed_bits w ≡ geo * 2 ^ 27 → ⊥) → eqb w (value_word geo (value_of w)) ≡ false
value_bad geo w h = ne_eqb w (value_word geo (value_of w)) (λ q. h (omega arith))

-- a number below 32 is in the set
pub is_in : (seen : ℕ) {a b : ℕ} {r : Bool} → r ≡ present seen (a % 32) → a ≡ b → b < 32 → present seen b ≡ r
is_in seen {a} {b} p e h = let q : b ≡ a % 32 = omega arith in ap (present seen) q ∙ sym p

-- what a negated test says
pub denied : (b : Bool) {c : Bool} → b ≡ c → not b ≡ true → c ≡ false
denied true e t = impossible cc
denied false e t = sym e

pub granted : (b : Bool) {c : Bool} → b ≡ c → not b ≡ false → c ≡ true
granted true e t = sym e
granted false e t = impossible cc

-- a longword with another flag is no header
pub no_flag : (w : ℕ) → (w / 2 ^ 24 % 2 ^ 3 ≡ 6 → ⊥) → (w / 2 ^ 24 % 2 ^ 3 ≡ 2 → ⊥) → false ≡ is_header w
unfolding is_header
no_flag w m n = rw (ne_eqb (w / 2 ^ 24 % 2 ^ 3) 6 m, ne_eqb (w / 2 ^ 24 % 2 ^ 3) 2 n)

-- a module's header
module _ (seen w : ℕ) where
  pub no_header : is_header w ≡ false → 6 ≡ header_fault seen w
  unfolding header_fault
  no_header e = rw e

  module _ (e : is_header w ≡ true) where
    pub geo_5 : w / 2 ^ 27 ≡ 5 → 6 ≡ header_fault seen w
    unfolding header_fault
    geo_5 g = rw (e, g)

    pub geo_6 : w / 2 ^ 27 ≡ 6 → 6 ≡ header_fault seen w
    unfolding header_fault
    geo_6 g = rw (e, g)

    pub own_geo : (w / 2 ^ 27 ≡ 5 → ⊥) → (w / 2 ^ 27 ≡ 6 → ⊥) → {b : Bool} → present seen (w / 2 ^ 27) ≡ b → cond b 11 0 ≡ header_fault seen w
    unfolding header_fault
    own_geo n5 n6 p = rw (e, ne_eqb (w / 2 ^ 27) 5 n5, ne_eqb (w / 2 ^ 27) 6 n6, p)
