-- How long the texts of a page are, and a mark put behind others. Assumes nothing.
use Prim.Native.Nat.{ℕ, ◌+◌, ◌-◌, ◌*◌, ◌/◌, ◌%◌}
use native.Mathlib.Omega.{arith}
use mathlib.Core.Path.{◌≡◌, refl}
use mathlib.Core.Bool.{Bool, true, false, cond}
use mathlib.Core.List.{List, [], ◌∷◌}
use lib.Dec.{leb}
use lib.ListN.{length, set, length-append}
use Rattle.hex_line.specs.Text.{text, field, Placed}
use Rattle.hex_line.proofs.TextLaws.{hex_length, field_length, texts_length}
use Rattle.page_text.specs.Text.{largest, head_text, count_of, least_of, mark, marks_text, row_text, rows_text, picture_text, pictures_text}
use Rattle.page_text.specs.Text.{eight_text, count_text, counts_text, last_label, last_text, text_of_page}

pub head_length : (events hits most : ℕ) → length (head_text events hits most) ≡ 49
unfolding head_text
head_length events hits most = simp (length-append, field_length)

pub mark_length : (least n : ℕ) → length (mark least n) ≡ 1
unfolding mark
mark_length least n = go (leb least n)
  where
    go : (b : Bool) → length (cond b (text "#") (text " ")) ≡ 1
    go true = refl
    go false = refl

-- one mark more
pub mark_put : (least n : ℕ) (before : List ℕ) (at channel : ℕ) {x : ℕ} → x ∷ [] ≡ mark least n
    → Placed before (at + channel) (mark least n) (at + (channel + 1)) (set before (at + channel) x)
mark_put least n before at channel e = rw (← e) (record { ends = omega arith; holds = refl })

module _ (counts : List ℕ) where
  pub marks_length : (connector least : ℕ) → length (marks_text counts connector least) ≡ 64
  unfolding marks_text
  marks_length connector least = texts_length 64 (λ channel. mark least (count_of counts connector channel)) (λ channel. mark_length least (count_of counts connector channel))

  pub row_length_lem : (connector least : ℕ) → length (row_text counts connector least) ≡ 76
  unfolding row_text
  row_length_lem connector least = simp (length-append, hex_length, marks_length connector least)

  pub rows_length_lem : (most connector : ℕ) → length (rows_text counts most connector) ≡ 608
  unfolding rows_text
  rows_length_lem most connector = texts_length 8 (λ k. row_text counts connector (least_of most (7 - k))) (λ k. row_length_lem connector (least_of most (7 - k)))

  pub picture_length : (most connector : ℕ) → length (picture_text counts most connector) ≡ 696
  unfolding picture_text
  picture_length most connector = simp (length-append, field_length, rows_length_lem most connector)

  pub pictures_length : (most : ℕ) → length (pictures_text counts most) ≡ 2784
  unfolding pictures_text
  pictures_length most = texts_length 4 (picture_text counts most) (picture_length most)

  pub eight_length : (connector channel : ℕ) → length (eight_text counts connector channel) ≡ 72
  unfolding eight_text
  eight_length connector channel =
      texts_length 8 (λ k. field (text " ") (count_of counts connector (channel + k))) (λ k. field_length (text " ") (count_of counts connector (channel + k)))

  pub count_length : (connector channel : ℕ) → length (count_text counts connector channel) ≡ 96
  unfolding count_text
  count_length connector channel = simp (length-append, field_length, eight_length connector channel)

  pub counts_length : length (counts_text counts) ≡ 3072
  unfolding counts_text
  counts_length = texts_length 32 (λ j. count_text counts (j / 8) (8 * (j % 8))) (λ j. count_length (j / 8) (8 * (j % 8)))

pub label_length : (cut : Bool) → length (last_label cut) ≡ 10
label_length true = refl
label_length false = refl

pub last_length_lem : (cut : Bool) (added refused other : ℕ) → length (last_text cut added refused other) ≡ 51
unfolding last_text
last_length_lem cut added refused other = simp (length-append, field_length, label_length)

pub page_length : (events : ℕ) (counts : List ℕ) (cut : Bool) (added refused other : ℕ) → length (text_of_page events counts cut added refused other) ≡ 5956
unfolding text_of_page
page_length events counts cut added refused other =
    simp (length-append, head_length, pictures_length counts (largest counts), counts_length counts, last_length_lem)
