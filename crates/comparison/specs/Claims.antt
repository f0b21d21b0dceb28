-- What a list of differences is, said without the way it is made. proofs/Exact shows each.
-- Assumes nothing.
use Rattle.std.specs.Prelude.{ℕ, zero, suc, ◌/◌, ◌≤◌, ◌<◌, ◌≡◌, ◌↔◌, ◌⊎◌, false, eqb, length, take, Ok, Err}
use mathlib.Core.List.{List, [], ◌∷◌, ◌++◌, Memᴰ}
use Rattle.event.specs.declared.Row.{Row}
use Rattle.event.specs.declared.StampOrder.{StampOrder}
use Rattle.event.specs.Outcome.{done, refused}
use Rattle.event.specs.Parser.{All}
use Rattle.event.specs.Refusal.{refusal}
use Rattle.dialects.specs.declared.Dialect.{Dialect}
use Rattle.dialects.specs.Dialects.{width, reading}
use Rattle.comparison.specs.Differences.{Difference, tail_of}
use Rattle.comparison.specs.Comparing.{differing_words, reading_of, rows_apart, listed, compared}

-- x stands at index i of a list
abbrev pub Stands : {A : Type 0} → List A → ℕ → A → Type 0
Stands [] i x = ⊥
Stands (y ∷ ys) zero x = x ≡ y
Stands (y ∷ ys) (suc i) x = Stands ys i x

-- both have the index, there stand the two that are listed, and they differ
abbrev pub Apart : {A : Type 0} → List A → List A → Difference A → Type 0
Apart a b d = Stands a d.index d.first × Stands b d.index d.second × (d.first ≡ d.second → ⊥)

-- each index is above all before it
abbrev pub Rising : {A : Type 0} → List (Difference A) → Type 0
Rising [] = Unit {0}
Rising (d ∷ ds) = All (λ e. d.index < e.index) ds × Rising ds

-- The word list is exactly the differing indices, none missed and none made up, in rising order.
abbrev pub WordsExact : Type 0
WordsExact = (a b : List ℕ) → Rising (differing_words a b) × ((d : Difference ℕ) → Memᴰ d (differing_words a b) ↔ Apart a b d)

-- Two events of equal length have an empty word list exactly when they are the same.
abbrev pub SameWords : Type 0
SameWords = (a b : List ℕ) → length a ≡ length b → (differing_words a b ≡ []) ↔ (a ≡ b)

-- An event is acceptable, demand 3's word, exactly when its reading is `done` (`AcceptableExact` of crates/dialects/specs/Demands.antt).
-- Of two acceptable events the row list is exactly the differing indices of their rows, in rising order;
abbrev pub RowsExact : Type 0
RowsExact = (bits : ℕ) (k : Dialect) (o : StampOrder) (a b : List ℕ) (rs ss : List Row) → reading_of bits k o a ≡ done rs → reading_of bits k o b ≡ done ss
    → Rising (rows_apart bits k o a b) × ((d : Difference Row) → Memᴰ d (rows_apart bits k o a b) ↔ Apart rs ss d)

-- of others it is empty.
abbrev pub NoRows : Type 0
NoRows = (bits : ℕ) (k : Dialect) (o : StampOrder) (a b : List ℕ) (n p : ℕ) → (reading_of bits k o a ≡ refused n p) ⊎ (reading_of bits k o b ≡ refused n p)
    → rows_apart bits k o a b ≡ []

-- Two events of equally many rows have an empty row list exactly when their rows are the same.
abbrev pub SameRows : Type 0
SameRows = (bits : ℕ) (k : Dialect) (o : StampOrder) (a b : List ℕ) (rs ss : List Row) → reading_of bits k o a ≡ done rs → reading_of bits k o b ≡ done ss
    → length rs ≡ length ss → (rows_apart bits k o a b ≡ []) ↔ (rs ≡ ss)

-- 25 exactly where a list does not fit: of the word list, or else of the row list, place the entries that it needs; else both are listed whole. The lists have m and n numbers.
abbrev pub RoomExact : Type 0
RoomExact = (bits : ℕ) (k : Dialect) (o : StampOrder) (a b : List ℕ) (m n : ℕ) → let ds = differing_words a b in let es = rows_apart bits k o a b in
    (m / 3 < length ds → compared bits k o a b m n ≡ Err (refusal 25 (length ds)))
    × (length ds ≤ m / 3 → n / 9 < length es → compared bits k o a b m n ≡ Err (refusal 25 (length es)))
    × (length ds ≤ m / 3 → length es ≤ n / 9 → compared bits k o a b m n ≡ Ok (listed (length ds) (length es)))

-- Words of the dialect's own width are read as they are; words of another are no acceptable event, so no rows are listed.
abbrev pub OwnWidth : Type 0
OwnWidth = (k : Dialect) (o : StampOrder) (ws : List ℕ) → reading_of (width k) k o ws ≡ reading k o ws

abbrev pub OtherWidth : Type 0
OtherWidth = (bits : ℕ) (k : Dialect) (o : StampOrder) (a b : List ℕ) → eqb (width k) bits ≡ false → rows_apart bits k o a b ≡ []

-- The tail is what the longer event has behind as many words as the shorter; equally long events have none.
abbrev pub TailExact : Type 0
TailExact = (a b : List ℕ)
    → (length a ≤ length b → take (length a) b ++ tail_of a b ≡ b) × (length b ≤ length a → take (length b) a ++ tail_of a b ≡ a) × (length a ≡ length b → tail_of a b ≡ [])
