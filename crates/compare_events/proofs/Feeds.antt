-- The line feeds of what was read, read by read.
-- Assumes nothing.
use Prim.Native.Nat.{ℕ, zero, suc, ◌+◌, ◌-◌, ◌≤◌, ◌<◌}
use native.Mathlib.Omega.{arith}
use mathlib.Core.Path.{◌≡◌, refl, sym, ap, ◌∙◌}
use mathlib.Core.Bool.{Bool, true, false, cond}
use mathlib.Core.List.{List, [], ◌∷◌, ◌++◌}
use lib.Dec.{eqb}
use lib.ListN.{length, take, drop, length-append, length-take, length-drop}
use lib.Seq.{take-add, length-take-le}
use Rattle.std.specs.Prelude.{Result, Ok, Err, IfSome}
use Rattle.std.specs.Io.{ReadsAtMost}
use Rattle.std.specs.Result.{result_ok}
use Rattle.std.specs.List.{filter}
use Rattle.std.proofs.lemmas.List.Recursion.{is_count_by}
use Rattle.std.proofs.lemmas.List.Sums.{length-filter}
use borrow.Author.Tests.{eqb-true}
use borrow.Rule.Slice.PartMut.{put_mid, take_put}
use Rattle.event.proofs.Impossible.{impossible}
use Rattle.event.proofs.WordStores.{part_lent, part_back}
use Rattle.compare_events.specs.declared.input.Gathered.{Gathered}
use Rattle.compare_events.specs.Run.{feeds_in, after_read, Inside, goes_on}

pub feeds_append : (s t : List ℕ) → feeds_in (s ++ t) ≡ feeds_in s + feeds_in t
unfolding feeds_in
feeds_append [] t = omega arith
feeds_append (c ∷ s) t = go (eqb c 10) (feeds_append s t)
  where
    go : (b : Bool) → feeds_in (s ++ t) ≡ feeds_in s + feeds_in t
        → cond b (suc (feeds_in (s ++ t))) (feeds_in (s ++ t)) ≡ cond b (suc (feeds_in s)) (feeds_in s) + feeds_in t
    go true e = omega (arith, e)
    go false e = e

pub feeds_few : (s : List ℕ) → feeds_in s ≤ length s
unfolding feeds_in
feeds_few [] = omega arith
feeds_few (c ∷ s) = go (eqb c 10) (feeds_few s)
  where
    go : (b : Bool) → feeds_in s ≤ length s → cond b (suc (feeds_in s)) (feeds_in s) ≤ suc (length s)
    go true h = omega arith
    go false h = omega arith

-- counted as a chain counts them
pub feeds_counted : (s : List ℕ) → feeds_in s ≡ length (filter (λ c. eqb c 10) s)
unfolding feeds_in
feeds_counted s = is_count_by feeds_in (λ c. eqb c 10) refl (λ c s. let e : suc (feeds_in s) ≡ 1 + feeds_in s = omega arith in rw e) s ∙ sym (length-filter (λ c. eqb c 10) s)

-- characters read behind those that were there
length_take_most : (k : ℕ) (l : List ℕ) → length (take k l) ≤ k
length_take_most k l = simp length-take (omega arith)

module _ {b : List ℕ} {state : Gathered} (i : Inside b state) (part : List ℕ) where
  -- the buffer after a read behind the end
  abbrev after : List ℕ
  after = put_mid state.end (length b - state.end) b part

  after_length : length part ≡ length (take (length b - state.end) (drop state.end b)) → length after ≡ length b
  after_length l =
      ap length (part_back state.end b part)
      ∙ length-append (take state.end b) part
      ∙ omega (arith, length-take-le state.end b i.ends, l, ap length (part_lent state.end b), length-drop state.end b, i.ends)

  module _ (l : length part ≡ length (take (length b - state.end) (drop state.end b))) where
    abbrev new : List ℕ
    new = take (length after - state.end) (drop state.end after)

    new_length : length new ≡ length part
    new_length = omega (arith, ap length (part_lent state.end after), length-drop state.end after, after_length l, i.ends, l, ap length (part_lent state.end b), length-drop state.end b)

    counted : (k : ℕ) → k ≤ length part → Inside after (record { end = state.end + k; feeds = state.feeds + feeds_in (take k new); last = k })
    counted k most =
        let same : feeds_in (take k new) ≡ feeds_in (take k (drop state.end after)) = ap (λ (s : List ℕ). feeds_in (take k s)) (part_lent state.end after) in
        record {
          ends = omega (arith, most, new_length, ap length (part_lent state.end after), length-drop state.end after, after_length l, i.ends);
          fed = rw (take-add state.end k after, feeds_append, take_put state.end (length b - state.end) b part i.ends) (omega (arith, same, i.fed));
          few = omega (arith, feeds_few (take k new), length_take_most k new, i.few);
        }

    -- a read into the part, which may have failed
    pub more_read : {E : Type 0} (read : Result ℕ E) → ReadsAtMost read part
        → IfSome (after_read state (result_ok read) new) (λ next. Inside after next × (next.end ≡ state.end + next.last))
    more_read (Ok k) h = (counted k h.0, refl)
    more_read (Err e) h = tt

positive : (n : ℕ) → eqb n 0 ≡ false → 0 < n
positive zero e = impossible cc
positive (suc n) e = omega arith

-- nothing read yet
pub none_read : (b : List ℕ) → Inside b (record { end = 0; feeds = 0; last = 1 })
unfolding feeds_in
none_read b = record { ends = omega arith; fed = refl; few = omega arith }

-- each read gives something, or is the last
abbrev pub left : ℕ → Gathered → ℕ
left all state = all - state.end + cond (eqb state.last 0) 0 1

pub less_left : (all room : ℕ) (state next : Gathered) → goes_on state room ≡ true → next.end ≡ state.end + next.last → next.end ≤ all → left all next < left all state
less_left all room state next g e h = go (eqb state.last 0) refl (eqb next.last 0) refl g
  where
    go : (b : Bool) → eqb state.last 0 ≡ b → (d : Bool) → eqb next.last 0 ≡ d → goes_on state room ≡ true → left all next < left all state
    go true p d q g = let z = rw p at g in impossible cc
    go false p true q g = rw (p, q) (omega (arith, eqb-true next.last 0 q))
    go false p false q g = rw (p, q) (omega (arith, positive next.last q))
