-- In the rows of an event, after a region's own row stand as many rows of one word each as its size says. Over plain values.
-- Assumes nothing.
use Rattle.std.proofs.Common.{◌≡◌, ℕ, zero, suc, ◌+◌, ◌<◌, Bool, T, List, [], ◌∷◌, ◌++◌, map, length, get_or, sym, refl, subst, append_assoc, arith, length-append}
use lib.ListN.{length-map}
use Rattle.event.specs.declared.Row.{Row}
use Rattle.event.specs.Parser.{All, each, prints}
use Rattle.event.specs.Writing.{no_row}
use Rattle.rcnp_layout.specs.Event.{VdcWord, head, datum, Opaque, adc, tdc, pcos, adc_las, tdc_las, fera, feret, Form, input_register, scaler, vdc, opaque, Content, Region, Event, id_of}
use Rattle.rcnp_layout.specs.Layout.{size_of, vdc_word, region_row, word_row, scaler_row, next_index, vdc_row, content_rows, region_rows, sum_rows, rows}
use Rattle.rcnp_writer.specs.Parts.{run_words, such, of_run, RunAt, Runs}

-- one row more before them
shifted : (such : Row → Bool) (x : Row) (l : List Row) (i n : ℕ) → RunAt such l i n → RunAt such (x ∷ l) (suc i) n
shifted such x l i n p = record {
  inside = omega (arith, p.inside);
  each = λ k h. let e : suc i + k ≡ suc (i + k) = omega arith in rw e (p.each k h);
}

runs_cons : (x : Row) (l : List Row) → RunAt (of_run x) (x ∷ l) 1 (run_words x) → Runs l → Runs (x ∷ l)
runs_cons x l p q = record { at = go }
  where
    go : (i : ℕ) → i < length (x ∷ l) → RunAt (of_run (get_or (x ∷ l) i no_row)) (x ∷ l) (i + 1) (run_words (get_or (x ∷ l) i no_row))
    go zero h = p
    go (suc i) h = let e : suc i + 1 ≡ suc (i + 1) = omega arith in rw e (shifted (of_run (get_or l i no_row)) x l (i + 1) (run_words (get_or l i no_row)) (q.at i (omega arith)))

-- after a row that has none, and after such rows
no_run : (x : Row) (l : List Row) → run_words x ≡ 0 → RunAt (of_run x) (x ∷ l) 1 (run_words x)
no_run x l e = rw e (record { inside = omega arith; each = λ k h. absurd (omega arith) })

runs_after : (xs l : List Row) → All (λ x. run_words x ≡ 0) xs → Runs l → Runs (xs ++ l)
runs_after [] l a p = p
runs_after (x ∷ xs) l a p = runs_cons x (xs ++ l) (no_run x (xs ++ l) a.0) (runs_after xs l a.1 p)

-- rows of one word each, printed of items
item_rows : {A : Type 0} (such : Row → Bool) (print : A → Row) → ((a : A) → T (such (print a))) → (xs : List A) (l : List Row) (k : ℕ) → k < length xs
    → T (such (get_or (map print xs ++ l) k no_row))
item_rows such print t [] l k h = absurd (omega arith)
item_rows such print t (x ∷ xs) l zero h = t x
item_rows such print t (x ∷ xs) l (suc k) h = item_rows such print t xs l k (omega arith)

run_after : {A : Type 0} (such : Row → Bool) (print : A → Row) → ((a : A) → T (such (print a))) → (x : Row) (xs : List A) (l : List Row)
    → RunAt such (x ∷ (map print xs ++ l)) 1 (length xs)
run_after such print t x xs l = record {
  inside = omega (arith, length-append (map print xs) l, length-map xs print);
  each = λ k h. let e : 1 + k ≡ suc k = omega arith in rw e (item_rows such print t xs l k h);
}

-- the rows of a content have none
scalers_none : (index : ℕ) (vs : List ℕ) → All (λ x. run_words x ≡ 0) (prints (λ i v. scaler_row i v ∷ []) next_index index vs)
scalers_none index [] = tt
scalers_none index (v ∷ vs) = (refl, scalers_none (suc index) vs)

one_none : (x : VdcWord) → run_words (vdc_row x) ≡ 0
one_none (head m n mode) = refl
one_none (datum c t) = refl

chamber_none : (xs : List VdcWord) → All (λ x. run_words x ≡ 0) (map vdc_row xs)
chamber_none [] = tt
chamber_none (x ∷ xs) = (one_none x, chamber_none xs)

words_none : (ws : List ℕ) → All (λ x. run_words x ≡ 0) (map word_row ws)
words_none [] = tt
words_none (w ∷ ws) = (refl, words_none ws)

content_none : (f : Form) (c : Content f) → All (λ x. run_words x ≡ 0) (content_rows f c)
content_none input_register w = (refl, tt)
content_none scaler vs = scalers_none 0 vs
content_none vdc xs = chamber_none xs
content_none (opaque k) ws = words_none ws

-- a region's own row, and the words of an opaque one
module _ (ws : List ℕ) (l : List Row) where
  abbrev Own : Form → ℕ → Type 0
  Own f n = RunAt (of_run (region_row (id_of f) n)) (region_row (id_of f) n ∷ (map word_row ws ++ l)) 1 n

  words_run : (f : Form) → ((w : ℕ) → T (of_run (region_row (id_of f) (length ws)) (word_row w))) → Own f (length ws)
  words_run f t = run_after (of_run (region_row (id_of f) (length ws))) word_row t (region_row (id_of f) (length ws)) ws l

  opaque_run : (k : Opaque) → RunAt (of_run (region_row (id_of (opaque k)) (length ws))) (region_row (id_of (opaque k)) (length ws) ∷ (map word_row ws ++ l)) 1
      (run_words (region_row (id_of (opaque k)) (length ws)))
  opaque_run adc = words_run (opaque adc) (λ w. tt)
  opaque_run tdc = words_run (opaque tdc) (λ w. tt)
  opaque_run pcos = words_run (opaque pcos) (λ w. tt)
  opaque_run adc_las = words_run (opaque adc_las) (λ w. tt)
  opaque_run tdc_las = words_run (opaque tdc_las) (λ w. tt)
  opaque_run fera = words_run (opaque fera) (λ w. tt)
  opaque_run feret = words_run (opaque feret) (λ w. tt)

vdc_such : (n : ℕ) (x : VdcWord) → T (of_run (region_row 7 n) (vdc_row x))
vdc_such n (head m e mode) = tt
vdc_such n (datum c t) = tt

own_row : (f : Form) (c : Content f) (l : List Row)
    → let x = region_row (id_of f) (size_of (record { form = f; content = c })) in RunAt (of_run x) (x ∷ (content_rows f c ++ l)) 1 (run_words x)
own_row input_register w l = words_run (w ∷ []) l input_register (λ v. tt)
own_row scaler vs l = no_run (region_row 6 (size_of (record { form = scaler; content = vs }))) (content_rows scaler vs ++ l) refl
own_row vdc xs l =
    let n = size_of (record { form = vdc; content = xs }) in
    let x = region_row 7 n in
    subst (RunAt (of_run x) (x ∷ (map vdc_row xs ++ l)) 1) (sym (length-map xs vdc_word)) (run_after (of_run x) vdc_row (vdc_such n) x xs l)
own_row (opaque k) ws l = opaque_run ws l k

regions_runs : (gs : List Region) (w : ℕ) → Runs (each region_rows gs ++ sum_rows w)
regions_runs [] w =
    let x = region_row 15 1 in
    runs_cons x (word_row w ∷ []) (run_after (of_run x) word_row (λ v. tt) x (w ∷ []) [])
    (runs_cons (word_row w) [] (no_run (word_row w) [] refl) (record { at = λ i h. absurd (omega arith) }))
regions_runs (g ∷ gs) w =
    let l = each region_rows gs ++ sum_rows w in
    let x = region_row (id_of g.form) (size_of g) in
    let rs = content_rows g.form g.content in
    subst Runs (sym (append_assoc (region_rows g) (each region_rows gs) (sum_rows w)))
    (runs_cons x (rs ++ l) (own_row g.form g.content l) (runs_after rs l (content_none g.form g.content) (regions_runs gs w)))

pub rows_runs : (e : Event) → Runs (rows e)
rows_runs e = regions_runs e.regions e.sum

pub run_at : {rs : List Row} {i n : ℕ} (r : Row) → Runs rs → i < length rs → r ≡ get_or rs i no_row → n ≡ run_words r → RunAt (of_run r) rs (i + 1) n
run_at {i = i} r runs h e m = rw (m, e) (runs.at i h)
