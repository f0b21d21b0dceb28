-- An outcome by its answer, where one call's answer decides on the next call; and what a test found, by its answer.
-- Assumes nothing.
use Prim.Native.Nat.{ℕ}
use mathlib.Core.Path.{◌≡◌, refl, sym}
use mathlib.Core.List.{List}
use mathlib.Core.Bool.{Bool, true, false, cond}
use lib.Dec.{eqb}
use lib.ListN.{length}
use borrow.Author.Tests.{eqb-true, eqb-false}
use Rattle.std.specs.Prelude.{Ok, Err}
use Rattle.event.specs.declared.refusal.Refusal.{Refusal}
use Rattle.event.specs.Refusal.{refusal, verdict}
use Rattle.event.specs.Outcome.{Outcome, done, refused, answer_of}
use Rattle.event.proofs.Impossible.{impossible}

pub record RefusedBy {A : Type 0} (x : Outcome A) (r : Refusal) : Type 0 where
  pub number : ℕ
  pub place : ℕ
  pub outcome : x ≡ refused number place
  pub named : r ≡ refusal number place

pub refused_by : {A : Type 0} (x : Outcome A) {r : Refusal} → Err r ≡ answer_of x → RefusedBy x r
refused_by (done xs) e = impossible cc
refused_by (refused m q) {r} e =
    let n : r ≡ refusal m q = cc in
    record { number = m; place = q; outcome = refl; named = n }

pub record Given {A : Type 0} (x : Outcome A) (count : ℕ) : Type 0 where
  pub items : List A
  pub outcome : x ≡ done items
  pub counted : count ≡ length items

pub given_by : {A : Type 0} (x : Outcome A) {k : ℕ} → Ok k ≡ answer_of x → Given x k
given_by (done xs) e = record { items = xs; outcome = refl; counted = cc }
given_by (refused m q) e = impossible cc

-- a test that passed found nothing,
pub passed_test : (n k : ℕ) {u : Unit {0}} → Ok u ≡ verdict n k → 0 ≡ n
passed_test n k {u} e = go (eqb n 0) refl e
  where
    go : (b : Bool) → eqb n 0 ≡ b → Ok u ≡ cond b (Ok (tt {0})) (Err (refusal n k)) → 0 ≡ n
    go true h e = sym (eqb-true n 0 h)
    go false h e = impossible cc

-- and one that failed found refusal n at place k
pub record Failed (n k : ℕ) (r : Refusal) : Type 0 where
  pub some : n ≡ 0 → ⊥
  pub named : r ≡ refusal n k

pub failed_test : (n k : ℕ) {r : Refusal} → Err r ≡ verdict n k → Failed n k r
failed_test n k {r} e = go (eqb n 0) refl e
  where
    go : (b : Bool) → eqb n 0 ≡ b → Err r ≡ cond b (Ok (tt {0})) (Err (refusal n k)) → Failed n k r
    go true h e = impossible cc
    go false h e = record { some = eqb-false n 0 h; named = cc }
