-- One longword as the layout reads it, beside the refusal that the code finds. A set of bits holds the GEOs, or the channels, before it.
-- Assumes nothing.
use Prim.Native.Nat.{ℕ, suc, ◌+◌, ◌*◌, ◌/◌, ◌%◌, ◌^◌, ◌<◌}
use native.Mathlib.Nat.{mul-add-mod_self_left}
use native.Mathlib.Omega.{arith}
use mathlib.Core.Path.{◌≡◌, refl, ap, ◌∙◌}
use mathlib.Core.Bool.{Bool, true, false, cond, not, ◌||◌}
use mathlib.Core.List.{List, ◌∷◌}
use lib.Dec.{eqb, leb}
use borrow.Author.Tests.{eq-eqb, ne_eqb, eqb-true, eqb-false, lt-ltb, leb-true}
use Rattle.event.specs.Parser.{ok, refuse, then, give, judge}
use Rattle.event.specs.Channels.{present, Blocked}
use Rattle.event.specs.Words.{halves}
use Rattle.event.proofs.ChannelLaws.{seen_only}
use Rattle.event.proofs.ChannelTurns.{on_fault}
use Rattle.frs_layout.specs.Event.{Value, with_data, scaler_geo, pattern_geo}
use Rattle.frs_layout.specs.Layout.{longword, datum_bits, value_word, geo_checks}
use Rattle.frs_layout.specs.Reading.{data_under, Header, empty_header, data_header, header_of, header, value_of, value, footer}
use Rattle.frs_reader.specs.Longword.{is_header, header_fault, value_fault, footer_fault}

-- an upper half over 16 data bits
pub under_judged : (upper i w : ℕ) (r : List ℕ) → data_under upper i (w ∷ r) ≡ cond (eqb w (halves upper (w % 2 ^ 16))) (ok (w % 2 ^ 16) (suc i) r) (refuse 10 i)
under_judged upper i w r = rw (lt-ltb (w % 2 ^ 16) (2 ^ 16) (omega arith))

low_six : (w : ℕ) → w % 2 ^ 6 ≡ w % 2 ^ 24 % 2 ^ 6
low_six w =
    let e : w ≡ 2 ^ 6 * (2 ^ 18 * (w / 2 ^ 24)) + w % 2 ^ 24 = omega arith in
    ap (◌% 2 ^ 6) e ∙ mul-add-mod_self_left (2 ^ 6) (2 ^ 18 * (w / 2 ^ 24)) (w % 2 ^ 24)

flag_two : (g l w : ℕ) → l < 2 ^ 6 → w ≡ longword g 2 l → w / 2 ^ 24 % 2 ^ 3 ≡ 2
flag_two g l w h e = let d : w / 2 ^ 24 ≡ 8 * g + 2 = omega arith in rw d (mul-add-mod_self_left 8 g 2)

module _ {set : ℕ} {seen : List ℕ} (s : Blocked 0 set seen) (i : ℕ) (r : List ℕ) where
  -- a data longword
  pub value_judged : (g w : ℕ) → value g seen i (w ∷ r) ≡ on_fault (value_fault g set w) (value_of w) i r
  unfolding value_fault
  value_judged g w =
      rw (lt-ltb (w / 2 ^ 16 % 2 ^ 5) (2 ^ 5) (omega arith), lt-ltb (value_of w).datum (2 ^ datum_bits) (omega arith), seen_only s (w / 2 ^ 16 % 2 ^ 5))
      (go (eqb w (value_word g (value_of w))) (present set (w / 2 ^ 16 % 2 ^ 5)))
    where
      go : (a b : Bool) → cond a (cond (not b) (ok (value_of w) (suc i) r) (refuse 11 i)) (refuse 10 i) ≡ on_fault (cond a (cond b 11 0) 10) (value_of w) i r
      go true true = refl
      go true false = refl
      go false b = refl

  module _ (w : ℕ) (fits : w < 2 ^ 32) where
    -- the GEO of a header
    geo_judged : (h : Header) → judge (geo_checks 6 11 seen (w / 2 ^ 27)) h i r
        ≡ on_fault (cond (eqb (w / 2 ^ 27) pattern_geo || eqb (w / 2 ^ 27) scaler_geo) 6 (cond (present set (w / 2 ^ 27)) 11 0)) h i r
    geo_judged h = rw (lt-ltb (w / 2 ^ 27) (2 ^ 5) (omega arith), seen_only s (w / 2 ^ 27)) (go (eqb (w / 2 ^ 27) 5) (eqb (w / 2 ^ 27) 6) (present set (w / 2 ^ 27)))
      where
        go : (a b c : Bool) → cond (not a) (cond (not b) (cond (not c) (ok h (suc i) r) (refuse 11 i)) (refuse 6 i)) (refuse 6 i) ≡ on_fault (cond (a || b) 6 (cond c 11 0)) h i r
        go true b c = refl
        go false true c = refl
        go false false true = refl
        go false false false = refl

    abbrev Judged : Type 0
    Judged = header seen i (w ∷ r) ≡ on_fault (header_fault set w) (header_of w) i r

    -- flag 6: over 0
    empty_header_judged : w / 2 ^ 24 % 2 ^ 3 ≡ 6 → Judged
    unfolding header_fault is_header
    empty_header_judged f = go (eqb (w % 2 ^ 24) 0) refl
      where
        go : (b : Bool) → eqb (w % 2 ^ 24) 0 ≡ b → Judged
        go true z =
            let e : w ≡ longword (w / 2 ^ 27) 6 0 = omega (arith, eqb-true (w % 2 ^ 24) 0 z) in
            rw (f, z, eq-eqb w (longword (w / 2 ^ 27) 6 0) e) (geo_judged (empty_header (w / 2 ^ 27)))
        go false z =
            let n = eqb-false (w % 2 ^ 24) 0 z in
            rw (f, z, ne_eqb w (longword (w / 2 ^ 27) 6 0) (λ e. n (omega arith)))

    -- flag 2: over a count
    module _ (f : w / 2 ^ 24 % 2 ^ 3 ≡ 2) where
      abbrev in_layout : Bool
      in_layout = eqb w (longword (w / 2 ^ 27) 2 (w % 2 ^ 6))

      -- where the longword is in its layout, the count is all that stands below the flag
      counted : in_layout ≡ true → w % 2 ^ 6 ≡ w % 2 ^ 24
      counted e = let z = eqb-true w (longword (w / 2 ^ 27) 2 (w % 2 ^ 6)) e in omega arith

      none : (b : Bool) → in_layout ≡ b → leb 1 (w % 2 ^ 24) ≡ false → Judged
      unfolding header_fault is_header
      none true e p = rw (f, p, e, counted e, p)
      none false e p = rw (f, p, e)

      many : (b : Bool) → in_layout ≡ b → leb 1 (w % 2 ^ 24) ≡ true → leb (w % 2 ^ 24) 32 ≡ false → Judged
      unfolding header_fault is_header
      many true e p q = rw (f, p, q, e, counted e, p, q)
      many false e p q = rw (f, p, q, e)

      some : leb 1 (w % 2 ^ 24) ≡ true → leb (w % 2 ^ 24) 32 ≡ true → Judged
      unfolding header_fault is_header
      some p q =
          let l = leb-true (w % 2 ^ 24) 32 q in
          let n : w % 2 ^ 6 ≡ w % 2 ^ 24 = low_six w ∙ (let z : w % 2 ^ 24 % 2 ^ 6 ≡ w % 2 ^ 24 = omega arith in z) in
          let d : w / 2 ^ 27 ≡ w / 2 ^ 24 / 2 ^ 3 = omega arith in
          let e : w ≡ longword (w / 2 ^ 24 / 2 ^ 3) 2 (w % 2 ^ 24) = omega arith in
          let e : w ≡ longword (w / 2 ^ 27) 2 (w % 2 ^ 6) = omega arith in
          rw (f, p, q, eq-eqb w (longword (w / 2 ^ 27) 2 (w % 2 ^ 6)) e, n, p, q) (geo_judged (data_header (w / 2 ^ 27) (w % 2 ^ 24)))

      data_header_judged : (a b : Bool) → leb 1 (w % 2 ^ 24) ≡ a → leb (w % 2 ^ 24) 32 ≡ b → Judged
      data_header_judged true true p q = some p q
      data_header_judged true false p q = many in_layout refl p q
      data_header_judged false b p q = none in_layout refl p

    -- another flag
    other_judged : (w / 2 ^ 24 % 2 ^ 3 ≡ 6 → ⊥) → (w / 2 ^ 24 % 2 ^ 3 ≡ 2 → ⊥) → Judged
    unfolding header_fault is_header
    other_judged n6 n2 = rw (
      ne_eqb (w / 2 ^ 24 % 2 ^ 3) 6 n6,
      ne_eqb (w / 2 ^ 24 % 2 ^ 3) 2 n2,
      ne_eqb w (longword (w / 2 ^ 27) 2 (w % 2 ^ 6))
          (λ e. n2 (flag_two (w / 2 ^ 27) (w % 2 ^ 6) w (omega arith) e)),
    )

    pub header_judged : header seen i (w ∷ r) ≡ on_fault (header_fault set w) (header_of w) i r
    header_judged = go (eqb (w / 2 ^ 24 % 2 ^ 3) 6) refl (eqb (w / 2 ^ 24 % 2 ^ 3) 2) refl
      where
        go : (a : Bool) → eqb (w / 2 ^ 24 % 2 ^ 3) 6 ≡ a → (b : Bool) → eqb (w / 2 ^ 24 % 2 ^ 3) 2 ≡ b → Judged
        go true p b q = empty_header_judged (eqb-true (w / 2 ^ 24 % 2 ^ 3) 6 p)
        go false p true q = data_header_judged (eqb-true (w / 2 ^ 24 % 2 ^ 3) 2 q) (leb 1 (w % 2 ^ 24)) (leb (w % 2 ^ 24) 32) refl refl
        go false p false q = other_judged (eqb-false (w / 2 ^ 24 % 2 ^ 3) 6 p) (eqb-false (w / 2 ^ 24 % 2 ^ 3) 2 q)

-- a block's footer
pub footer_judged : (g : ℕ) (vs : List Value) (i w : ℕ) (r : List ℕ) → footer g vs i (w ∷ r) ≡ on_fault (footer_fault g w) (with_data g vs (w % 2 ^ 16)) i r
unfolding footer_fault
footer_judged g vs i w r = rw (lt-ltb (w % 2 ^ 16) (2 ^ 16) (omega arith)) (go (eqb w (longword g 4 (w % 2 ^ 16))))
  where
    go : (b : Bool) → then (λ c. give (with_data g vs c)) (cond b (ok (w % 2 ^ 16) (suc i) r) (refuse 9 i)) ≡ on_fault (cond b 0 9) (with_data g vs (w % 2 ^ 16)) i r
    go true = refl
    go false = refl
