-- Texts put into a buffer one behind another. Assumes nothing.
use mathlib.Core.Path.{◌≡◌, refl, ap, sym, ◌∙◌}
use mathlib.Core.Bool.{Bool, true, false}
use lib.Dec.{leb}
use mathlib.Core.List.{List, [], ◌++◌, append-nil, append_assoc}
use Prim.Native.Nat.{ℕ, zero, suc, ◌+◌, ◌*◌, ◌-◌, ◌/◌, ◌%◌, ◌^◌, ◌≤◌, ◌<◌}
use native.Mathlib.Nat.{mul-le-mul_right, add-zero, zero-add, add_assoc, zero-mul, suc-mul, pow-suc, div-div-eq-div-mul}
use native.Mathlib.Numerals.{add-one}
use native.Mathlib.Omega.{arith}
use lib.ListN.{length, take, drop, set, length-append, length-take}
use borrow.Rule.Slice.PartMut.{put_mid}
use lib.Seq.{sets, drop-drop, drop-length, sets-eq, take_at, length-sets}
use borrow.Author.Tests.{le-leb}
use Rattle.event.proofs.WordStores.{sets_append}
use Rattle.hex_line.specs.Text.{character, hex_of, field, texts_below, put, end_of, Placed}

pub hex_length : (k n : ℕ) → length (hex_of k n) ≡ k
unfolding hex_of
hex_length zero n = refl
hex_length (suc k) n = length-append (hex_of k (n / 16)) _ ∙ omega (arith, hex_length k (n / 16))

pub field_length : (label : List ℕ) (n : ℕ) → length (field label n) ≡ length label + 8
unfolding field
field_length label n = rw (length-append, hex_length)

-- a text that is copied to its place
pub copied : (buffer t : List ℕ) (at : ℕ) {k : ℕ} {part : List ℕ} → at + length t ≤ length buffer → k ≡ length t → part ≡ t → put_mid at k buffer part ≡ sets buffer at t
copied buffer t at h e p = rw (p, e, drop-drop) (sym (sets-eq t buffer at h ∙ append_assoc (take at buffer) t _))

-- four bits more
power : (j : ℕ) → 2 ^ (4 * suc j) ≡ 2 ^ (4 * j) * 16
power j =
    let e : 4 * suc j ≡ suc (suc (suc (suc (4 * j)))) = omega arith in
    rw (e, pow-suc, pow-suc, pow-suc, pow-suc) (omega arith)

-- the digits of a number, one by one from the most significant on
pub digit_stored : (buffer : List ℕ) (at n i : ℕ) → i < 8 → let b = sets buffer at (hex_of i (n / 2 ^ (4 * (8 - i)))) in
    set b (at + i) (character (n / 2 ^ (4 * (7 - i)) % 16)) ≡ sets buffer at (hex_of (i + 1) (n / 2 ^ (4 * (8 - (i + 1)))))
unfolding hex_of
digit_stored buffer at n i h =
    let e : 8 - i ≡ suc (7 - i) = omega arith in
    let f : 8 - (i + 1) ≡ 7 - i = omega arith in
    let q : n / 2 ^ (4 * suc (7 - i)) ≡ n / 2 ^ (4 * (7 - i)) / 16 = rw (power (7 - i)) (sym (div-div-eq-div-mul n (2 ^ (4 * (7 - i))) 16)) in
    let digits = hex_of i (n / 2 ^ (4 * (7 - i)) / 16) in
    rw (e, f, q, add-one i) (ap (λ (k : ℕ). set (sets buffer at digits) (at + k) (character (n / 2 ^ (4 * (7 - i)) % 16))) (sym (hex_length i _)) ∙ sets_append buffer digits _ at)

-- a text of n characters, by the test for its room: with room for all of it, and without
module _ (buffer : List ℕ) (at : ℕ) (t : List ℕ) {n : ℕ} (l : length t ≡ n) {room : Bool} (e : room ≡ leb (at + n) (length buffer)) where
  pub put_whole : room ≡ true → {k : ℕ} {after : List ℕ} → k ≡ at + n → after ≡ sets buffer at t → (k ≡ end_of buffer at t) × (after ≡ put buffer at t)
  unfolding put end_of
  put_whole h m s = rw (l, sym e ∙ h) (m, s)

  pub put_none : room ≡ false → (at ≡ end_of buffer at t) × (buffer ≡ put buffer at t)
  unfolding put end_of
  put_none h = rw (l, sym e ∙ h) (refl, refl)

-- one text behind another, with the places where they end
pub placed_none : (buffer : List ℕ) (at : ℕ) → Placed buffer at [] at buffer
placed_none buffer at = record { ends = sym (add-zero at); holds = refl }

pub placed_then : {b₀ b₁ b₂ s t : List ℕ} {at k m : ℕ} → Placed b₀ at s k b₁ → Placed b₁ k t m b₂ → Placed b₀ at (s ++ t) m b₂
placed_then {b₀} {b₁} {b₂} {s} {t} {at} {k} {m} p q =
    record { ends = q.ends ∙ rw p.ends (simp (length-append, add_assoc)); holds = q.holds ∙ rw (p.holds, p.ends, sets_append) }

-- texts of one length each
pub texts_length : {m : ℕ} (n : ℕ) (f : ℕ → List ℕ) → ((k : ℕ) → length (f k) ≡ m) → length (texts_below n f) ≡ n * m
unfolding texts_below
texts_length {m} zero f l = sym (zero-mul m)
texts_length {m} (suc n) f l = length-append (texts_below n f) (f n) ∙ rw (texts_length n f l, l n) (sym (suc-mul n m))

-- a buffer stays as long as it is
pub placed_size : {before after t : List ℕ} {at k : ℕ} → Placed before at t k after → length after ≡ length before
placed_size {before} {after} {t} {at} {k} p = ap length p.holds ∙ length-sets before at t

-- where `count` texts of one length each have room, and n of them stand there, there is room for one more
pub room_next : {m count : ℕ} (n : ℕ) (f : ℕ → List ℕ) → ((k : ℕ) → length (f k) ≡ m) → n < count
    → {before now : List ℕ} {at k : ℕ} → at + length (texts_below count f) ≤ length before → Placed before at (texts_below n f) k now → k + length (f n) ≤ length now
room_next {m} {count} n f l h r p =
    omega (arith, r, p.ends, placed_size p, l n, texts_length n f l, texts_length count f l, mul-le-mul_right m h, suc-mul n m)

-- the text of one number more
pub placed_next : (n : ℕ) (f : ℕ → List ℕ) → {before now after : List ℕ} {at k m : ℕ} → Placed before at (texts_below n f) k now → Placed now k (f n) m after
    → Placed before at (texts_below (n + 1) f) m after
unfolding texts_below
placed_next n f p q = rw (add-one n) (placed_then p q)

pub placed_first : (f : ℕ → List ℕ) {before : List ℕ} {at : ℕ} → Placed before at (texts_below 0 f) at before
unfolding texts_below
placed_first f = placed_none _ _

-- a text as long as the buffer fills it
pub placed_all : {before after t : List ℕ} {k : ℕ} → length before ≡ length t → Placed before 0 t k after → after ≡ t
placed_all {before} {after} {t} e p =
    p.holds ∙ sets-eq t before 0 (omega (arith, e)) ∙ rw (zero-add, ← e, drop-length before) (append-nil t)

-- what was put where there was room stands there
pub placed : {buffer after t : List ℕ} {at k : ℕ} → (k ≡ end_of buffer at t) × (after ≡ put buffer at t) → at + length t ≤ length buffer → Placed buffer at t k after
unfolding put end_of
placed {buffer} {after} {t} {at} {k} (e, s) h = let l = le-leb (at + length t) (length buffer) h in record { ends = e ∙ rw l; holds = s ∙ rw l }

-- and so does one text behind another
pub placed_put : {b₀ b₁ b₂ s : List ℕ} {at k m : ℕ} → Placed b₀ at s k b₁ → (t : List ℕ) → (m ≡ end_of b₁ k t) × (b₂ ≡ put b₁ k t)
    → at + length (s ++ t) ≤ length b₀ → Placed b₀ at (s ++ t) m b₂
placed_put {b₀} {b₁} {b₂} {s} {at} {k} {m} p t e h =
    placed_then p (placed e (rw (p.ends, p.holds, length-sets) (omega (arith, length-append s t))))

-- the front of a buffer up to the end of what was put: what stood before it, and the text
pub pending : {text t text' : List ℕ} {at k : ℕ} → at + length t ≤ length text → Placed text at t k text' → take k text' ≡ take at text ++ t
pending {text} {t} {text'} {at} {k} h p =
    ap (take k) (p.holds ∙ sets-eq t text at h)
    ∙ take_at (take at text ++ t) (drop (at + length t) text) k (simp (length-append, length-take) (omega (arith, p.ends)))
