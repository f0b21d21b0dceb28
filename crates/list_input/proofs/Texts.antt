-- Text put into the part of a buffer behind what is not written yet.
-- Assumes nothing.
use Prim.Native.Nat.{ℕ, ◌+◌, ◌-◌, ◌≤◌}
use native.Mathlib.Omega.{arith}
use mathlib.Core.Path.{◌≡◌, sym, ap, ◌∙◌}
use mathlib.Core.List.{List, ◌++◌, append_assoc}
use lib.ListN.{length, take, drop, length-drop}
use lib.Seq.{sets-eq, drop-drop}
use borrow.Author.Tests.{le-leb}
use borrow.Rule.Slice.PartMut.{put_mid}
use Rattle.event.specs.Outcome.{overlaid}
use Rattle.event.proofs.WordStores.{part_lent, part_back}
use Rattle.hex_line.specs.Text.{Placed}
use Rattle.listing.specs.Text.{fitted}

-- the part that is lent, and the text put at its start
module _ (text t : List ℕ) (at : ℕ) (fits : at + length t ≤ length text) where
  abbrev part : List ℕ
  part = take (length text - at) (drop at text)

  whole : fitted (length part) t ≡ t
  whole = rw (part_lent at text, length-drop, le-leb (length t) (length text - at) (omega arith))

  pub put_behind : {n : ℕ} {part' : List ℕ} → n ≡ length (fitted (length part) t) → part' ≡ overlaid (fitted (length part) t) part
      → Placed text at t (at + n) (put_mid at (length text - at) text part')
  put_behind {n} {part'} e f = record {
    ends = ap (at +◌) (e ∙ ap length whole);
    holds =
        part_back at text part'
        ∙ ap (take at text ++◌) (f ∙ rw (whole, part_lent at text, drop-drop))
        ∙ sym (append_assoc (take at text) t (drop (at + length t) text))
        ∙ sym (sets-eq t text at fits);
  }
