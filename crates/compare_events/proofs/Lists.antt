-- The entries of a list put as lines of text, one behind another: over words and rows.
-- Assumes nothing.
use Prim.Native.Nat.{ℕ, ◌+◌, ◌*◌, ◌/◌, ◌<◌}
use native.Mathlib.Nat.{mul-suc, add-div_left}
use native.Mathlib.Numerals.{add-one}
use native.Mathlib.Omega.{arith}
use mathlib.Core.Path.{◌≡◌, sym, ap, ◌∙◌}
use mathlib.Core.List.{List, [], ◌∷◌, ◌++◌, append_assoc, append-nil}
use lib.ListN.{length, take, drop, length-append}
use lib.Seq.{take_at}
use Rattle.std.proofs.lemmas.List.{drop_at}
use Rattle.event.specs.Parser.{each}
use Rattle.event.proofs.Elements.{each_append}
use Rattle.hex_line.specs.Text.{Placed}
use Rattle.hex_line.proofs.TextLaws.{placed_then}
use Rattle.comparison.specs.Differences.{Difference, entry, entries}

-- entries of w numbers each
module _ {A : Type 0} (numbers : A → List ℕ) (w : ℕ) (size : (d : Difference A) → length (entry numbers d) ≡ w) where
  -- of those in a list some are put as lines, and `rest` is left of it
  pub record Part (line : Difference A → List ℕ) (text₀ : List ℕ) (at : ℕ) (text : List ℕ) (end : ℕ) (rest : List ℕ) (ds : List (Difference A)) : Type 0 where
    pub done : List (Difference A)
    pub left : List (Difference A)
    pub both : ds ≡ done ++ left
    pub entries_left : rest ≡ entries numbers left
    pub placed : Placed text₀ at (each line done) end text

  -- lines of n characters each
  pub record Putting (line : Difference A → List ℕ) (n : ℕ) (list text₀ : List ℕ) (at : ℕ) (text : List ℕ) (end : ℕ) (rest : List ℕ) : Type 0 where
    pub whole : length text ≡ length text₀
    pub ends : end + n * (length rest / w) ≡ at + n * (length list / w)
    pub put : (ds : List (Difference A)) → list ≡ entries numbers ds → Part line text₀ at text end rest ds

  module _ {line : Difference A → List ℕ} {n : ℕ} {list text₀ : List ℕ} {at : ℕ} {text : List ℕ} {end : ℕ} {rest : List ℕ} (p : Putting line n list text₀ at text end rest) where
    -- the next entry
    pub put_next : {x rest' : List ℕ} → rest ≡ x ++ rest' → length x ≡ w → 0 < w → {y : Difference A} → length (line y) ≡ n → ((d : Difference A) → x ≡ entry numbers d → y ≡ d)
        → {text' : List ℕ} {end' : ℕ} → length text' ≡ length text → Placed text end (line y) end' text' → Putting line n list text₀ at text' end' rest'
    put_next {x} {rest'} e l positive {y} k same {text'} {end'} s q = record {
      whole = s ∙ p.whole;
      ends = ends_there;
      put = λ ds f. go ds (p.put ds f);
    }
      where
        more : length rest / w ≡ length rest' / w + 1
        more = rw (e, length-append, l) (add-div_left (length rest') positive)

        ends_there : end' + n * (length rest' / w) ≡ at + n * (length list / w)
        ends_there = omega (arith, q.ends, k, rw (more, add-one, mul-suc) at p.ends)

        front : (d : Difference A) (left : List (Difference A)) → rest ≡ entry numbers d ++ entries numbers left → x ≡ entry numbers d
        front d left f = sym (take_at x rest' w l) ∙ ap (take w) (sym e ∙ f) ∙ take_at (entry numbers d) (entries numbers left) w (size d)

        behind : (d : Difference A) (left : List (Difference A)) → rest ≡ entry numbers d ++ entries numbers left → rest' ≡ entries numbers left
        behind d left f = sym (drop_at x rest' w l) ∙ ap (drop w) (sym e ∙ f) ∙ drop_at (entry numbers d) (entries numbers left) w (size d)

        go : (ds : List (Difference A)) → Part line text₀ at text end rest ds → Part line text₀ at text' end' rest' ds
        go ds r = split r.left r.both r.entries_left
          where
            split : (left : List (Difference A)) → ds ≡ r.done ++ left → rest ≡ entries numbers left → Part line text₀ at text' end' rest' ds
            split [] b f = absurd (omega (arith, ap length (sym e ∙ f), length-append x rest'))
            split (d ∷ left) b f = record {
              done = r.done ++ (d ∷ []);
              left = left;
              both = b ∙ sym (append_assoc r.done (d ∷ []) left);
              entries_left = behind d left f;
              placed = rw (each_append line r.done (d ∷ []), append-nil (line d)) (placed_then r.placed (rw (same d (front d left f)) at q));
            }

    -- all of them
    pub put_done : length rest < w → (ds : List (Difference A)) → list ≡ entries numbers ds → Placed text₀ at (each line ds) end text
    put_done few ds f = go (p.put ds f)
      where
        go : Part line text₀ at text end rest ds → Placed text₀ at (each line ds) end text
        go r = split r.left r.both r.entries_left
          where
            split : (left : List (Difference A)) → ds ≡ r.done ++ left → rest ≡ entries numbers left → Placed text₀ at (each line ds) end text
            split [] b f = rw (b, append-nil r.done) r.placed
            split (d ∷ left) b f = absurd (omega (arith, ap length f, length-append (entry numbers d) (entries numbers left), size d))
