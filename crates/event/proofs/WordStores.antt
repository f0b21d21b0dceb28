-- Words stored one by one in a buffer, each where it has room: before others, in a part that was lent, and all of them where they fit. Over the width.
-- Assumes nothing.
use Prim.Native.Nat.{ℕ, zero, suc, ◌+◌, ◌-◌, ◌%◌, ◌^◌, ◌≤◌, ◌<◌, min}
use native.Mathlib.Nat.{zero-add, add-zero, add-suc, suc-add, mod-eq_of_lt, le_of_eq}
use native.Mathlib.Numerals.{add-one}
use native.Mathlib.Omega.{arith}
use mathlib.Core.Path.{◌≡◌, refl, sym, ap, ◌∙◌}
use mathlib.Core.List.{List, [], ◌∷◌, ◌++◌, append-nil, append_assoc}
use lib.Dec.{ltb→lt}
use lib.ListN.{length, get_or, take, drop, set, length-set, length-drop, drop_of_length-le}
use lib.Seq.{set_comm, set_out, set_at, sets, sets-eq, take_all, drop-cons}
use borrow.Rule.Slice.PartMut.{put_mid}
use Rattle.event.specs.Words.{store_of, store_word}
use Rattle.event.specs.Outcome.{overlaid}
use Rattle.event.specs.Demands.{InWidth}
use Rattle.event.specs.Scanning.{store_words}

-- one more element stored behind a list that is written so far
pub store_next : (ws out : List ℕ) (k v : ℕ) → length ws ≡ k → k < length out
    → set (ws ++ drop k out) k v ≡ (ws ++ (v ∷ [])) ++ drop (k + 1) out
store_next ws out k v e h = rw (add-one, drop-cons out k 0, append_assoc, set_at ws (get_or out k 0) (drop (suc k) out) v k e)

-- elements stored behind others
pub sets_append : (buffer a b : List ℕ) (at : ℕ) → sets (sets buffer at a) (at + length a) b ≡ sets buffer at (a ++ b)
sets_append buffer [] b at = ap (λ (k : ℕ). sets buffer k b) (add-zero at)
sets_append buffer (x ∷ a) b at =
    ap (λ (k : ℕ). sets (sets buffer at (x ∷ a)) k b) (add-suc at (length a) ∙ sym (suc-add at (length a)))
    ∙ sets_append (set buffer at x) a b (suc at)

module _ (width : ℕ) where
  length_stored : (b : List ℕ) (i w : ℕ) → length (store_word width b i w) ≡ length b
  unfolding store_of
  length_stored b i w = length-set b i (w % 2 ^ width)

  pub length_words : (ws b : List ℕ) (k : ℕ) → length (store_words width b k ws) ≡ length b
  length_words [] b k = refl
  length_words (w ∷ ws) b k = length_words ws (store_word width b k w) (k + 1) ∙ length_stored b k w

  -- a word before those stored
  pub stored_before : (ws b : List ℕ) (j k w : ℕ) → j < k → store_word width (store_words width b k ws) j w ≡ store_words width (store_word width b j w) k ws
  unfolding store_of
  stored_before [] b j k w h = refl
  stored_before (v ∷ ws) b j k w h =
      stored_before ws (store_word width b k v) j (k + 1) w (omega arith)
      ∙ ap (λ (l : List ℕ). store_words width l (k + 1) ws) (set_comm b k j (v % 2 ^ width) (w % 2 ^ width) (λ e. omega arith))

  -- words that fit the width, as one run
  as_run : (ws b : List ℕ) (k : ℕ) → InWidth width ws → store_words width b k ws ≡ sets b k ws
  unfolding store_of
  as_run [] b k h = refl
  as_run (w ∷ ws) b k h =
      let e : w % 2 ^ width ≡ w = mod-eq_of_lt (ltb→lt w (2 ^ width) h.0) in
      as_run ws (set b k (w % 2 ^ width)) (k + 1) h.1 ∙ rw (e, add-one k)

  pub words_laid : (ws b : List ℕ) → InWidth width ws → length ws ≤ length b → store_words width b 0 ws ≡ overlaid ws b
  words_laid ws b h l = as_run ws b 0 h ∙ sets-eq ws b 0 (omega arith) ∙ rw zero-add

  none_stored : (ws : List ℕ) (k : ℕ) → store_words width [] k ws ≡ []
  unfolding store_of
  none_stored [] k = refl
  none_stored (w ∷ ws) k = none_stored ws (k + 1)

  -- words past the end
  pub past_the_end : (ws b : List ℕ) (k : ℕ) → length b ≤ k → store_words width b k ws ≡ b
  unfolding store_of
  past_the_end [] b k h = refl
  past_the_end (w ∷ ws) b k h = ap (λ (l : List ℕ). store_words width l (k + 1) ws) (set_out b k (w % 2 ^ width) h) ∙ past_the_end ws b (k + 1) (omega arith)

  -- a word past the first, in the rest
  first_kept : (x : ℕ) (ws b : List ℕ) (k : ℕ) → store_words width (x ∷ b) (suc k) ws ≡ x ∷ store_words width b k ws
  unfolding store_of
  first_kept x [] b k = refl
  first_kept x (w ∷ ws) b k =
      let e : suc k + 1 ≡ suc (k + 1) = omega arith in
      ap (λ (n : ℕ). store_words width (x ∷ store_word width b k w) n ws) e ∙ first_kept x ws (store_word width b k w) (k + 1)

  -- words stored in the part from the smaller of `at` and the length on
  in_part : (ws b : List ℕ) (at m : ℕ) → m ≡ min at (length b) → take m b ++ store_words width (drop m b) 0 ws ≡ store_words width b at ws
  in_part ws b zero m e = let z : m ≡ 0 = omega arith in rw z
  in_part ws [] (suc at) m e = let z : m ≡ 0 = omega arith in rw (z, none_stored ws 0, none_stored ws (suc at))
  in_part ws (x ∷ b) (suc at) zero e = absurd (omega arith)
  in_part ws (x ∷ b) (suc at) (suc m) e = ap (x ∷◌) (in_part ws b at m (omega arith)) ∙ sym (first_kept x ws b at)

-- a part `&mut b[a..]` that is lent, and comes back
module _ (a : ℕ) (b : List ℕ) where
  pub part_lent : take (length b - a) (drop a b) ≡ drop a b
  part_lent = take_all (length b - a) (drop a b) (le_of_eq (length-drop a b))

  pub part_back : (ys : List ℕ) → put_mid a (length b - a) b ys ≡ take a b ++ ys
  part_back ys =
      ap (λ (l : List ℕ). take a b ++ (ys ++ l)) (drop_of_length-le (drop a b) (le_of_eq (length-drop a b)))
      ∙ rw append-nil

-- words written at the front of the part that starts at the smaller of `at` and the length
pub part_written : (width : ℕ) (ws b : List ℕ) (at : ℕ) {start : ℕ} {part part' b' : List ℕ}
    → start ≡ min at (length b) → part ≡ take (length b - start) (drop start b) → part' ≡ store_words width part 0 ws
    → b' ≡ put_mid start (length b - start) b part' → b' ≡ store_words width b at ws
part_written width ws b at {start} {part} {part'} s lent w back =
    back ∙ part_back start b part' ∙ ap (take start b ++◌) (w ∙ ap (λ (l : List ℕ). store_words width l 0 ws) (lent ∙ part_lent start b)) ∙ in_part width ws b at start s
