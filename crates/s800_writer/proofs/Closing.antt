-- The length and the tag of a packet, set when its content is written.
-- Assumes nothing.
use Prim.Native.Nat.{ℕ, ◌+◌, ◌-◌}
use native.Mathlib.Omega.{arith}
use mathlib.Core.Path.{◌≡◌, refl, ap, ◌∙◌}
use mathlib.Core.List.{List, ◌∷◌}
use lib.ListN.{length}
use Rattle.std.specs.Prelude.{Ok, Err}
use Rattle.event.specs.declared.Part.{Part}
use Rattle.event.specs.declared.refusal.Refusal.{Refusal}
use Rattle.event.specs.declared.Row.{Row}
use Rattle.event.specs.Parser.{Result}
use Rattle.event.specs.Words.{store_word}
use Rattle.event.specs.Scanning.{store_words, Writes}
use Rattle.event.proofs.WordStores.{stored_before}
use Rattle.event.proofs.WritingTurns.{Wrote, wrote, unwritten, writes_refused, writes_done}
use Rattle.s800_layout.specs.Layout.{framed}
use Rattle.s800_writer.specs.Packets.{closed}

-- the words of a packet, its first two stored last
framed_last : (b ws : List ℕ) (at tag n : ℕ) → n ≡ 2 + length ws → store_word 16 (store_word 16 (store_words 16 b (at + 2) ws) at n) (at + 1) tag ≡ store_words 16 b at (framed tag ws)
framed_last b ws at tag n e =
    let two : at + 2 ≡ at + 1 + 1 = omega arith in
    ap (λ (l : List ℕ). store_word 16 l (at + 1) tag) (stored_before 16 ws b at (at + 2) n (omega arith))
    ∙ stored_before 16 ws (store_word 16 b at n) (at + 1) (at + 2) tag (omega arith)
    ∙ ap (λ (k : ℕ). store_words 16 (store_word 16 (store_word 16 b at n) (at + 1) tag) k ws) two
    ∙ ap (λ (m : ℕ). store_words 16 b at (m ∷ tag ∷ ws)) e

module _ {A : Type 0} (f : A → List ℕ) (at tag : ℕ) (x : Result Row A) {rs : List Row} {b b' : List ℕ} where
  pub closed_refused : {r : Refusal} {after : List ℕ} → Writes 16 f x rs (at + 2) b (Err r) b' → Writes 16 (λ a. framed tag (f a)) x rs at b (Err r) after
  closed_refused s = writes_refused 16 (λ a. framed tag (f a)) (unwritten 16 f x s.scanned) refl

  pub closed_writes : {p : Part} {b'' : List ℕ} → Writes 16 f x rs (at + 2) b (Ok p) b' → b'' ≡ closed at tag p.count b' → Writes 16 (λ a. framed tag (f a)) x rs at b (Ok p) b''
  closed_writes {p} {b''} s c = go (wrote 16 f x {j = p.next} {e = p.count} s.scanned)
    where
      go : Wrote 16 f x (at + 2) b p.next p.count b' → Writes 16 (λ a. framed tag (f a)) x rs at b (Ok p) b''
      go w =
          let counted : p.count ≡ at + length (framed tag (f w.value)) = omega (arith, w.counted) in
          let size : p.count - at ≡ 2 + length (f w.value) = omega (arith, w.counted) in
          writes_done 16 (λ a. framed tag (f a)) {j = p.next} {e = p.count} w.parsed refl counted (c ∙ rw w.stored (framed_last b (f w.value) at tag (p.count - at) size)) s.within.0 s.within.1
