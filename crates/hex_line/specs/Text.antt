-- Texts as the codes of their characters, numbers as hexadecimal digits, and texts in a lent buffer.
-- Assumes nothing.
use Rattle.std.specs.Prelude.{◌≡◌, cond, List, [], ◌∷◌, ◌++◌, ℕ, zero, suc, ◌+◌, ◌/◌, ◌%◌, ltb, leb, length}
use Prim.Native.Char.{code}
use Prim.Native.String.{String, [] as none, ◌∷◌ as ◌then◌}
use Rattle.std.proofs.lemmas.List.Edits.{sets}

-- the characters of a quoted text
abbrev pub text : String → List ℕ
text none = []
text (c then s) = code c ∷ text s

-- the character of a digit below 16: `0` to `9`, then `a` to `f`
unfoldable pub character : ℕ → ℕ
character d = cond (ltb d 10) (48 + d) (87 + d)

-- the last k hexadecimal digits of n, the most significant first
unfoldable pub hex_of : ℕ → ℕ → List ℕ
hex_of zero n = []
hex_of (suc k) n = hex_of k (n / 16) ++ (character (n % 16) ∷ [])

-- a label and a number behind it
unfoldable pub field : List ℕ → ℕ → List ℕ
field label n = label ++ hex_of 8 n

-- f 0, f 1, .. up to f (n - 1), one behind another
unfoldable pub texts_below : (n : ℕ) → (ℕ → List ℕ) → List ℕ
texts_below zero f = []
texts_below (suc n) f = texts_below n f ++ f n

-- a buffer with the text at index `at`, where it has room for all of it, and the index behind the text; else the buffer as it is, and `at`
unfoldable pub put : List ℕ → ℕ → List ℕ → List ℕ
put buffer at t = cond (leb (at + length t) (length buffer)) (sets buffer at t) buffer

unfoldable pub end_of : List ℕ → ℕ → List ℕ → ℕ
end_of buffer at t = cond (leb (at + length t) (length buffer)) (at + length t) at

-- the text stands at index `at` and ends before index k: `before` and `after` are the buffer
pub record Placed (before : List ℕ) (at : ℕ) (t : List ℕ) (k : ℕ) (after : List ℕ) : Type 0 where
  pub ends : k ≡ at + length t
  pub holds : after ≡ sets before at t
