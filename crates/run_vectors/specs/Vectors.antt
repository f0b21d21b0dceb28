-- A vector of the input, and the elements of its runs, four of them as a row. Assumes nothing.
use Rattle.std.specs.Prelude.{Bool, true, false, cond, List, [], ◌∷◌, ℕ, zero, suc, ◌+◌, ◌-◌, ◌*◌, ◌/◌, ◌%◌, ◌≤◌, ◌<◌, ltb, leb, eqb, length, take, replicate, Option, Some, None}
use Rattle.event.specs.declared.Row.{Row}
use Rattle.event.specs.Outcome.{order_of}
use Rattle.event.specs.Rows.{row}
use Rattle.event.specs.Scanning.{store_rows}
use Rattle.dialects.specs.declared.Dialect.{Dialect}
use Rattle.dialects.specs.Dialects.{dialect_of, of_width}
use Rattle.run_vectors.specs.declared.lines.Numbers.{Numbers}
use Rattle.run_vectors.specs.declared.vectors.Call.{Call}
use Rattle.run_vectors.specs.declared.vectors.Call.TheVariants.{Write, Read}
use Rattle.run_vectors.specs.declared.vectors.Vector.{Vector}
use Rattle.run_vectors.specs.declared.vectors.Rows.{Rows}
use Rattle.run_vectors.specs.Lines.{line_bytes, line_at}

-- the most elements that go in, and the most that are lent
abbrev pub most_elements : ℕ
most_elements = 16800

-- CALL of a head line = the number of the call (0 = write, 1 = read) × how many dialects there are + the number of the dialect
abbrev dialect_count : ℕ
dialect_count = 3

abbrev pub call_number : ℕ → ℕ
call_number n = n / dialect_count

abbrev pub call_of : ℕ → Call
call_of n = cond (eqb n 0) Write Read

abbrev pub call_dialect : ℕ → Dialect
call_dialect n = dialect_of (n % dialect_count)

-- the row of a run's line
abbrev pub row_of : Numbers → Row
row_of run = row run.second run.third run.fourth run.fifth

-- call, order and room of a head line
unfoldable pub head_holds : Numbers → Bool
head_holds head = cond (ltb 1 (call_number head.first)) false (cond (ltb 1 head.second) false (leb head.third most_elements))

unfoldable pub all_words16 : List ℕ → Bool
all_words16 [] = true
all_words16 (x ∷ xs) = cond (ltb 65535 x) false (all_words16 xs)

-- a reading takes words of its dialect's width, and a writing any elements
abbrev pub suits : Call → Dialect → List ℕ → Bool
suits Write d elements = true
suits Read d elements = of_width d (all_words16 elements) true

-- what follows where a line was read, and where it is malformed
abbrev pub on_line : {A : Type 0} → Option Numbers → (Numbers → A) → A → A
on_line (Some numbers) f a = f numbers
on_line None f a = a

-- `count` rows are in the buffer, and the lines of the runs that are left stand from `place` on: no more than `most` rows in all
unfoldable pub expansion : List ℕ → (most : ℕ) → (place : ℕ) → (count : ℕ) → (runs : ℕ) → List ℕ → Option Rows × List ℕ
expansion input most place count zero buffer = (Some (record { count = count; next = place }), buffer)
expansion input most place count (suc runs) buffer =
    on_line (line_at input place)
    (λ run. cond (ltb (most - count) run.first) (None, buffer)
    (expansion input most (place + line_bytes) (count + run.first) runs (store_rows buffer count (replicate run.first (row_of run)))))
    (None, buffer)

-- the rows that were read end within the n bytes of the input, and there are no more than `most`
abbrev pub RowsWithin : ℕ → ℕ → ℕ → Option Rows → Type 0
RowsWithin n most place (Some rows) = (place ≤ rows.next) × (rows.next ≤ n) × (rows.count ≤ most)
RowsWithin n most place None = Unit {0}

-- a vector of a head, with the elements of its runs, `all` of them before the last are cut
unfoldable pub vector_of : Numbers → List ℕ → (all : ℕ) → (next : ℕ) → Option Vector
vector_of head buffer all next =
    cond (ltb all head.fourth) None
    (cond (suits (call_of (call_number head.first)) (call_dialect head.first) (take (all - head.fourth) buffer))
    (Some (record {
      call = call_of (call_number head.first);
      dialect = call_dialect head.first;
      order = order_of head.second;
      room = head.third;
      elements = all - head.fourth;
      next = next;
    }))
    None)

abbrev pub after_runs : Numbers → Option Rows × List ℕ → Option Vector × List ℕ
after_runs head (Some rows, buffer) = (vector_of head buffer (rows.count * 4) rows.next, buffer)
after_runs head (None, buffer) = (None, buffer)

unfoldable pub vector_at : List ℕ → ℕ → List ℕ → Option Vector × List ℕ
vector_at input place buffer =
    on_line (line_at input place)
    (λ head. cond (head_holds head) (after_runs head (expansion input (length buffer / 4) (place + line_bytes) 0 head.fifth buffer)) (None, buffer))
    (None, buffer)

-- the next vector stands past this one and within the n bytes of the input; the room and the elements are there
abbrev pub VectorWithin : ℕ → ℕ → ℕ → Option Vector → Type 0
VectorWithin n elements place (Some vector) =
    (place < vector.next) × (vector.next ≤ n) × (vector.room ≤ most_elements) × (vector.elements ≤ elements)
VectorWithin n elements place None = Unit {0}
