-- Where regions begin, and what a header says. Over plain values.
-- Assumes nothing.
use Prim.Native.Nat.{ℕ, suc, ◌+◌, ◌-◌, ◌/◌, ◌%◌, ◌^◌, ◌≤◌, ◌<◌}
use native.Mathlib.Nat.{le_refl}
use native.Mathlib.Numerals.{add-one}
use native.Mathlib.Omega.{arith}
use mathlib.Core.Path.{◌≡◌, refl, ap, sym, ◌∙◌, subst}
use mathlib.Core.Bool.{Bool, true, false, not}
use mathlib.Core.List.{List, ◌∷◌}
use lib.Dec.{T, eqb, leb}
use lib.ListN.{length, get_or, drop, drop_of_length-le}
use lib.Seq.{drop-cons, slice}
use borrow.Author.Tests.{leb-true, leb-false, eq-eqb, ne_eqb, lt-ltb, not-true, not-false}
use Rattle.event.specs.Parser.{Result, Parser, refuse, require, filled, ◌>>◌}
use Rattle.event.proofs.Codes.{true_T, T_true}
use Rattle.event.proofs.Impossible.{impossible}
use Rattle.event.proofs.Loops.{to_the_end, within_slice, within_short}
use Rattle.rcnp_layout.specs.Event.{Form, Region, id_of, sum_id, form_of}
use Rattle.rcnp_layout.specs.Layout.{header_word, allowed_size}
use Rattle.rcnp_layout.specs.Reading.{filling, region_content, region, at_sum}
use Rattle.rcnp_layout.proofs.Sizes.{form_back}
use Rattle.rcnp_reader.specs.Regions.{Headed}

pub sum_at_end : (ws : List ℕ) (i : ℕ) → length ws ≤ i → true ≡ at_sum (drop i ws)
sum_at_end ws i h = rw (drop_of_length-le ws h)

pub sum_at_word : (ws : List ℕ) (i : ℕ) → i < length ws → at_sum (drop i ws) ≡ eqb sum_id (get_or ws i 0 / 2 ^ 12)
sum_at_word ws i h = rw (drop-cons ws i 0 h)

-- before the check sum region a word is there
pub before_sum : (ws : List ℕ) (i : ℕ) → at_sum (drop i ws) ≡ false → i < length ws
before_sum ws i e = go (leb (length ws) i) refl
  where
    go : (b : Bool) → leb (length ws) i ≡ b → i < length ws
    go true l = let z : true ≡ false = sum_at_end ws i (leb-true (length ws) i l) ∙ e in impossible cc
    go false l = leb-false (length ws) i l

-- what fills a region with its header at i
module _ {A : Type 0} (ws : List ℕ) (i size : ℕ) (allowed : Bool) (content : Parser ℕ A) where
  abbrev Filling : Result ℕ A → Type 0
  Filling x = filling i size allowed content (i + 1) (slice (i + 1) (length ws) ws) ≡ x

  pub filling_short : i < length ws → length ws ≤ i + size → Filling (refuse 5 i)
  filling_short below l = within_short 5 i size (require allowed 7 i >> content) (i + 1) (length ws) ws (le_refl (length ws)) (omega arith) (omega arith)

  pub filling_fits : i + 1 + size ≤ length ws → Filling (filled (slice (i + 1 + size) (length ws) ws) ((require allowed 7 i >> content) (i + 1) (slice (i + 1) (i + 1 + size) ws)))
  filling_fits l = within_slice 5 i size (require allowed 7 i >> content) (i + 1) (length ws) ws (le_refl (length ws)) l

-- the header at i
module _ (ws : List ℕ) (i : ℕ) (below : i < length ws) where
  abbrev id : ℕ
  id = get_or ws i 0 / 2 ^ 12

  abbrev size : ℕ
  size = get_or ws i 0 % 2 ^ 12

  abbrev here : Result ℕ Region
  here = region i (drop i ws)

  pub there : drop i ws ≡ get_or ws i 0 ∷ slice (i + 1) (length ws) ws
  there = drop-cons ws i 0 below ∙ ap (get_or ws i 0 ∷◌) (to_the_end (suc i) ws ∙ rw (add-one i))

  no_form : (id ≡ id_of (form_of id) → ⊥) → here ≡ refuse 6 i
  no_form n = rw (there, ne_eqb (get_or ws i 0) (header_word (id_of (form_of id)) size) (λ e. n (omega arith)))

  module _ (f : Form) (e : form_of id ≡ f) (g : id ≡ id_of f) where
    known : here ≡ filling i size (allowed_size f size) (region_content f) (i + 1) (slice (i + 1) (length ws) ws)
    known = rw (there, e, eq-eqb (get_or ws i 0) (header_word (id_of f) size) (omega arith), lt-ltb size (2 ^ 12) (omega arith), add-one i)

  -- as the code finds it: w is the header's word
  module _ {w : ℕ} (d : w ≡ get_or ws i 0) where
    pub refused_6 : ((f : Form) → w / 2 ^ 12 ≡ id_of f → ⊥) → here ≡ refuse 6 i
    refused_6 none = no_form (rw d at (none (form_of (w / 2 ^ 12))))

    module _ (f : Form) (e : w / 2 ^ 12 ≡ id_of f) where
      there_known : here ≡ filling i size (allowed_size f size) (region_content f) (i + 1) (slice (i + 1) (length ws) ws)
      there_known = let g : id ≡ id_of f = rw d at e in known f (ap form_of g ∙ form_back f) g

      pub refused_5 : length ws - i ≤ w % 2 ^ 12 → here ≡ refuse 5 i
      refused_5 l = there_known ∙ filling_short ws i size (allowed_size f size) (region_content f) below (omega arith)

      module _ (l : w % 2 ^ 12 < length ws - i) {fit : Bool} (a : fit ≡ allowed_size f (w % 2 ^ 12)) where
        pub refused_7 : not fit ≡ true → here ≡ refuse 7 i
        refused_7 n =
            let no : allowed_size f size ≡ false = rw d at (sym a ∙ not-true fit n) in
            there_known ∙ filling_fits ws i size (allowed_size f size) (region_content f) (omega arith) ∙ rw no

        pub good_header : not fit ≡ false → Headed ws i f (w % 2 ^ 12)
        good_header y = record { in_bits = rw d (rw d at e, refl); inside = omega arith; allowed = true_T (allowed_size f (w % 2 ^ 12)) (sym a ∙ not-false fit y) }

-- a good header, by where its region ends
pub record OfForm (ws : List ℕ) (i : ℕ) (f : Form) (end : ℕ) : Type 0 where
  pub header : get_or ws i 0 / 2 ^ 12 ≡ id_of f
  pub extent : end ≡ i + 1 + get_or ws i 0 % 2 ^ 12
  pub inside : end ≤ length ws
  pub allowed : T (allowed_size f (get_or ws i 0 % 2 ^ 12))

pub of_form : {ws : List ℕ} {i size : ℕ} {f : Form} → Headed ws i f size → OfForm ws i f (i + 1 + size)
of_form {f = f} h = record {
  header = h.in_bits.0;
  extent = omega (arith, h.in_bits.1);
  inside = h.inside;
  allowed = subst (λ (n : ℕ). T (allowed_size f n)) (sym h.in_bits.1) h.allowed;
}

-- a region is what its words give
pub of_content : {ws : List ℕ} {i : ℕ} {f : Form} {end : ℕ} → OfForm ws i f end → region i (drop i ws) ≡ filled (drop end ws) (region_content f (i + 1) (slice (i + 1) end ws))
of_content {ws} {i} {f} {end} h =
    let e = h.extent in
    let below : i < length ws = omega (arith, h.inside) in
    known ws i below f (ap form_of h.header ∙ form_back f) h.header
    ∙ filling_fits ws i (get_or ws i 0 % 2 ^ 12) (allowed_size f (get_or ws i 0 % 2 ^ 12)) (region_content f) (omega (arith, h.inside))
    ∙ rw (T_true (allowed_size f (get_or ws i 0 % 2 ^ 12)) h.allowed, ← e, to_the_end end ws)
