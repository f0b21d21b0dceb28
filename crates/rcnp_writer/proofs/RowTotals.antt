-- The sum of an event's words, row by row.
-- Assumes nothing.
use Rattle.std.proofs.Common.{◌≡◌, ℕ, zero, suc, ◌+◌, ◌/◌, ◌%◌, ◌^◌, ◌<◌, ◌≤◌, List, [], ◌∷◌, ◌++◌, length, get_or, take, sym, refl, ap, ◌∙◌, arith, take_all, ne_eqb}
use Rattle.event.specs.declared.Row.{Row}
use Rattle.event.specs.Parser.{alone, each}
use Rattle.event.specs.Words.{word_alone}
use Rattle.event.specs.Writing.{no_row}
use Rattle.event.proofs.Elements.{prints_each, each_append, each_prints, each_mapped, each_map, each_alone}
use Rattle.rcnp_layout.specs.Event.{VdcWord, head, datum, Form, input_register, scaler, vdc, opaque, Content, Event}
use Rattle.rcnp_layout.specs.Layout.{scaler_words, vdc_word, content_words, region_words, sum_words, words, total, word_row, scaler_row, next_index, vdc_row, content_rows, region_rows, sum_rows, rows}
use Rattle.rcnp_layout.proofs.Sums.{total_append}
use Rattle.rcnp_writer.specs.RowWords.{field_word, row_words}
use Rattle.rcnp_writer.specs.Parts.{total_to, Summed}

content_words_lem : (f : Form) (c : Content f) → each row_words (content_rows f c) ≡ content_words f c
content_words_lem input_register w = refl
content_words_lem scaler vs = each_prints row_words scaler_words (λ i v. scaler_row i v ∷ []) next_index (λ i v. refl) 0 vs
content_words_lem vdc xs = each_mapped row_words (λ x. vdc_word x ∷ []) vdc_row one xs ∙ each_map vdc_word xs
  where
    one : (x : VdcWord) → row_words (vdc_row x) ≡ vdc_word x ∷ []
    one (head moduleId eventNumber mode) = refl
    one (datum channel time) = refl
content_words_lem (opaque k) ws = each_mapped row_words word_alone word_row (λ w. refl) ws ∙ each_alone ws

-- an event's words are those of its rows, one after the other
pub words_of_rows : (e : Event) → each row_words (rows e) ≡ words e
words_of_rows e = each_append row_words (each region_rows e.regions) (sum_rows e.sum) ∙ ap (◌++ sum_words e.sum)
    (ap (each row_words) (sym (prints_each region_rows alone tt e.regions))
    ∙ each_prints row_words region_words (λ u. region_rows) alone (λ u g. rw (content_words_lem g.form g.content)) tt e.regions)

one_more : (rs : List Row) (i : ℕ) → i < length rs → total_to rs (suc i) ≡ total_to rs i + total (row_words (get_or rs i no_row))
one_more [] i h = absurd (omega arith)
one_more (r ∷ rs) zero h = omega (arith, total_append (row_words r) [])
one_more (r ∷ rs) (suc i) h =
    omega (arith, total_append (row_words r) (each row_words (take (suc i) rs)), total_append (row_words r) (each row_words (take i rs)), one_more rs i (omega arith))

-- sums that are the same modulo 65,536
wrapped : (a : ℕ) → a % 2 ^ 64 % 65536 ≡ a % 65536
wrapped a = omega arith

added : (a b c : ℕ) → a % 65536 ≡ b % 65536 → (a + c) % 65536 ≡ (b + c) % 65536
added a b c e = omega arith

-- a word more, in 32 bits
pub wrapped_32 : (sum w : ℕ) {part next : ℕ} → part ≡ w % 2 ^ 32 → next ≡ (sum + part) % 2 ^ 32 → next % 65536 ≡ (sum + w) % 65536
wrapped_32 sum w e p = rw (p, e) (omega arith)

-- one row of one word more
pub summed_one : {rs : List Row} {i sum next w : ℕ} (k : ℕ) {r : Row} → Summed rs i (i + k) sum → i + k < length rs → r ≡ get_or rs (i + k) no_row → row_words r ≡ w ∷ []
    → next % 65536 ≡ (sum + w) % 65536 → Summed rs i (i + (k + 1)) next
summed_one {rs} {i} {sum} {next} {w} k {r} s h e q p =
    let n : i + (k + 1) ≡ suc (i + k) = omega arith in
    let t : total (row_words (get_or rs (i + k) no_row)) ≡ w = rw (← e, q) (omega arith) in
    let m : total_to rs (suc (i + k)) ≡ total_to rs (i + k) + w = one_more rs (i + k) h ∙ ap (total_to rs (i + k) +◌) t in
    let next-sum : (total_to rs i + next) % 65536 ≡ (total_to rs i + (sum + w)) % 65536 = omega arith in
    let more : (total_to rs i + sum + w) % 65536 ≡ (total_to rs (i + k) + w) % 65536 = added (total_to rs i + sum) (total_to rs (i + k)) w s.sums in
    let assoc : total_to rs i + (sum + w) ≡ total_to rs i + sum + w = omega arith in
    record { sums = rw (n, m) (next-sum ∙ rw assoc more) }

-- a region's own row and those that follow it, as the loop takes them
pub sum_next : (rs : List Row) (i sum n : ℕ) {next mid t run : ℕ} {r : Row} → i < length rs → sum % 65536 ≡ total_to rs i % 65536 → r ≡ get_or rs i no_row → t ≡ total (row_words r)
    → Summed rs (i + 1) (i + 1 + n) run → mid ≡ (sum + t) % 2 ^ 64 → next ≡ (mid + run) % 2 ^ 64 → next % 65536 ≡ total_to rs (i + (1 + n)) % 65536
sum_next rs i sum n {next} {mid} {t} {run} h s e q u p v =
    let one : i + 1 ≡ suc i = omega arith in
    let all : i + (1 + n) ≡ i + 1 + n = omega arith in
    let m : total_to rs (i + 1) ≡ total_to rs i + t = rw one (one_more rs i h ∙ ap (total_to rs i +◌) (sym (q ∙ ap (λ (x : Row). total (row_words x)) e))) in
    let w : (total_to rs i + t + run) % 65536 ≡ total_to rs (i + 1 + n) % 65536 = rw m at u.sums in
    let half : mid % 65536 ≡ (total_to rs i + t) % 65536 = rw p (wrapped (sum + t) ∙ added sum (total_to rs i) t s) in
    rw (all, v) (wrapped (mid + run) ∙ added mid (total_to rs i + t) run half ∙ w)

pub summed_up : (rs : List Row) (i sum : ℕ) → sum % 65536 ≡ total_to rs i % 65536 → length rs ≤ i → sum % 65536 ≡ total (each row_words rs) % 65536
summed_up rs i sum s h = s ∙ ap (λ (l : List Row). total (each row_words l) % 65536) (take_all i rs h)

-- the sum of a row's words, by its kind
module _ (r : Row) where
  pub sum_of_word : r.kind ≡ 33 → r.datum ≡ total (row_words r)
  sum_of_word e = rw e (omega arith)

  pub sum_of_scaler : r.kind ≡ 34 → r.datum % 65536 + r.datum / 65536 ≡ total (row_words r)
  sum_of_scaler e = rw e (omega arith)

  pub sum_of_fields : (r.kind ≡ 33 → ⊥) → (r.kind ≡ 34 → ⊥) → {w : ℕ} → w ≡ field_word r → w ≡ total (row_words r)
  sum_of_fields a b q = rw (ne_eqb 33 r.kind (λ e. a (sym e)), ne_eqb 34 r.kind (λ e. b (sym e)), q) (omega arith)
