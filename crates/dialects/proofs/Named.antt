-- Each refusal has the number of the fault that the code names, as specs/Demands states it.
-- Assumes nothing.
use Prim.Native.Nat.{ℕ, ◌≤◌}
use native.Mathlib.Omega.{arith}
use mathlib.Core.Path.{◌≡◌, refl}
use mathlib.Core.Logic.{⊎_elim}
use mathlib.Core.List.{List, [], ◌∷◌}
use lib.Dec.{T}
use Rattle.event.specs.declared.StampOrder.{StampOrder}
use Rattle.event.specs.Outcome.{refused}
use Rattle.event.specs.Parser.{member}
use Rattle.event.proofs.Tables.{holds_below}
use Rattle.event.specs.Refusal.{fault_of}
use Rattle.event.specs.Writing.{RefusedAt}
use Rattle.event.proofs.Whole.{limited_refused}
use Rattle.event.proofs.Faults.{Kept, kept_between, kept_member}
use Rattle.s800_layout.proofs.Refusals as RefusalsS
use Rattle.s800_layout.proofs.WritingRefusals as WritingRefusalsS
use Rattle.frs_layout.proofs.Refusals as RefusalsF
use Rattle.frs_layout.proofs.WritingRefusals as WritingRefusalsF
use Rattle.rcnp_layout.proofs.Refusals as RefusalsR
use Rattle.rcnp_layout.proofs.WritingRefusals as WritingRefusalsR
use Rattle.dialects.specs.Demands.{RefusalsNamed}
use Rattle.dialects.specs.declared.Dialect.{Dialect}
use Rattle.dialects.specs.declared.Dialect.TheVariants.{S, F, R}
use Rattle.dialects.specs.Dialects.{reading, writing}

-- the tests of the numbers, computed
kept_of_s : (n : ℕ) → 1 ≤ n → n ≤ 11 → Kept n
unfolding holds_below fault_of
kept_of_s = kept_between 1 11 tt

kept_of_f : (n : ℕ) → T (member n (1 ∷ 5 ∷ 6 ∷ 9 ∷ 10 ∷ 11 ∷ [])) → Kept n
unfolding fault_of
kept_of_f = kept_member (1 ∷ 5 ∷ 6 ∷ 9 ∷ 10 ∷ 11 ∷ []) (refl, (refl, (refl, (refl, (refl, (refl, tt))))))

kept_of_r : (n : ℕ) → T (member n (1 ∷ 5 ∷ 6 ∷ 7 ∷ 10 ∷ 13 ∷ [])) → Kept n
unfolding fault_of
kept_of_r = kept_member (1 ∷ 5 ∷ 6 ∷ 7 ∷ 10 ∷ 13 ∷ []) (refl, (refl, (refl, (refl, (refl, (refl, tt))))))

kept_of_room : (n : ℕ) → n ≡ 12 → Kept n
unfolding fault_of
kept_of_room n e = rw e refl

kept_of_rows : (n : ℕ) → 20 ≤ n → n ≤ 24 → Kept n
unfolding holds_below fault_of
kept_of_rows = kept_between 20 24 tt

pub of_reading : (d : Dialect) (o : StampOrder) (ws : List ℕ) (n k : ℕ) → reading d o ws ≡ refused n k → Kept n
of_reading S o ws n k e = let h = RefusalsS.refusals o ws n k e in kept_of_s n h.0 h.1
of_reading F o ws n k e = kept_of_f n (RefusalsF.refusals ws n k e).0
of_reading R o ws n k e = kept_of_r n (RefusalsR.refusals ws n k e).0

at_rows : {largest count n k : ℕ} → RefusedAt largest count n k → Kept n
at_rows {n = n} r = kept_of_rows n (omega arith) (omega arith)

of_writing : (d : Dialect) (o : StampOrder) (xs : List ℕ) (n k : ℕ) → writing d o xs ≡ refused n k → Kept n
of_writing S o xs n k e = at_rows (WritingRefusalsS.writing_refusals o xs n k e)
of_writing F o xs n k e = at_rows (WritingRefusalsF.writing_refusals xs n k e)
of_writing R o xs n k e = at_rows (WritingRefusalsR.writing_refusals xs n k e)

pub refusals_named : RefusalsNamed
refusals_named d room o = (
  (λ ws n k e. ⊎_elim (of_reading d o ws n k) (λ h. kept_of_room n h.0) (limited_refused 12 room (reading d o ws) n k e)),
  λ xs n k e. ⊎_elim (of_writing d o xs n k) (λ h. kept_of_rows n (omega (arith, h.0)) (omega (arith, h.0))) (limited_refused 24 room (writing d o xs) n k e),
)
