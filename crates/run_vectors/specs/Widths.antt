-- Items as words of another width. Assumes nothing.
use Rattle.std.specs.Prelude.{List, map, ◌++◌, length, drop}

-- each by f, over the first of the words
abbrev pub over_words : {A B : Type 0} → (A → B) → List A → List B → List B
over_words f items words = map f items ++ drop (length items) words
