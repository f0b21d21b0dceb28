-- A page and an answer as numbers, and what is put into a lent buffer.
-- Assumes nothing.
use Rattle.std.specs.Prelude.{ℕ, ◌+◌, cond, List, [], ◌∷◌, ◌++◌, leb, length, get_or, drop}
use Rattle.event.specs.Refusal.{Answer}
use Rattle.event.specs.Outcome.{refusal_number, count_or_place}
use Rattle.page_layout.specs.declared.Page.{Page}
use Rattle.page_layout.specs.Plane.{table}

-- the page of these numbers: the first slot, the events held, then the length of each slot; those that are missing are 0
unfoldable pub page_of : List ℕ → Page
page_of numbers = record { first = get_or numbers 0 0; count = get_or numbers 1 0; lengths = table 64 (λ k. get_or numbers (2 + k) 0) }

abbrev pub lengths_of : Page → List ℕ
lengths_of page = table 64 (λ k. get_or page.lengths k 0)

abbrev pub numbers_of : Page → List ℕ
numbers_of page = page.first ∷ page.count ∷ lengths_of page

-- a buffer with these at its front, where it has room for all of them; else as it is
unfoldable pub all_put : {A : Type 0} → List A → List A → List A
all_put items buffer = cond (leb (length items) (length buffer)) (items ++ drop (length items) buffer) buffer

abbrev pub page_put : Page → List ℕ → List ℕ
page_put page = all_put (numbers_of page)

-- the refusal number, 0 where the call accepts, and the count or the place
abbrev pub answer_put : Answer → List ℕ → List ℕ
answer_put answer = all_put (refusal_number answer ∷ count_or_place answer ∷ [])
