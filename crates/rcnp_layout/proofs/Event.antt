-- The parts of an event in their order, and its sum: a code for each part makes one of the event, over words or rows.
-- Assumes nothing.
use Prim.Native.Nat.{ℕ, ◌≤◌, ◌<◌}
use native.Mathlib.Omega.{arith}
use mathlib.Core.Path.{◌≡◌, refl, ap}
use mathlib.Core.Bool.{Bool, true, false}
use mathlib.Core.List.{List, [], ◌++◌, append-nil}
use lib.Dec.{T}
use lib.ListN.{length}
use Rattle.event.specs.Parser.{Parser, Passed, ended, give, finish, lastly, several, All, each}
use Rattle.event.proofs.Codes.{Codes, any, same, codes_give}
use Rattle.event.proofs.Sequences.{codes_bind, codes_bind_at, codes_map, codes_lastly}
use Rattle.event.proofs.Ends.{Ends, ends_bind, ends_map, ends_lastly, ends_finish}
use Rattle.event.proofs.Elements.{codes_several}
use Rattle.event.proofs.Refusals.{Keeps, keeps_left, keeps_bind, keeps_map, keeps_finish, keeps_lastly}
use Rattle.rcnp_layout.specs.Event.{Region, Event}
use Rattle.rcnp_layout.specs.Layout.{summed, word_checks, ValidRegion, Formed}
use Rattle.rcnp_layout.specs.Reading.{parts_of}

-- every rule but the sum
abbrev pub ValidParts : Event → Type 0
ValidParts e = All ValidRegion e.regions × Passed (word_checks 0 e.sum)

module _ {E : Type 0} {Rest : List E → Type 0} {region : Parser E Region} {sum_region : Parser E ℕ} {last : Parser E (Unit {0})} {regionP : Region → List E} {sumP : ℕ → List E}
    (at_sum : List E → Bool) (c-region : Codes any region regionP ValidRegion) (c-sum : Codes any sum_region sumP (λ w. Passed (word_checks 0 w)))
    -- the check sum region begins at its first element or the end, and not at a region
    (halt : at_sum [] ≡ true) (on : (g : Region) → ValidRegion g → (r : List E) → at_sum (regionP g ++ r) ≡ false) (there : (w : ℕ) (r : List E) → T (at_sum (sumP w ++ r)))
    (c-last : Codes Rest last (λ u. []) (λ u. Unit {0})) where
  pub codes_parts : Codes Rest (parts_of (several region at_sum) sum_region last) (λ e. each regionP e.regions ++ sumP e.sum) ValidParts
  codes_parts = same
      (codes_bind_at (λ e. e.regions) (codes_several at_sum c-region on halt) (λ gs g.
      codes_bind (λ e. e.sum) c-sum (λ w g. codes_map (λ u. record { regions = gs; sum = w }) (λ e. tt) c-last (λ u. refl)) (λ w e g. ap (λ (x : Event). x.sum) g.1))
      (λ gs e g. ap (λ (x : Event). x.regions) g.1.1)
      (λ e g r t. rw (append-nil (sumP e.sum)) (there e.sum r)))
      (λ e g. (g.0, g.1.0)) (λ e g. (g.0, (g.1, (tt, refl)))) (λ e g. ap (each regionP e.regions ++◌) (append-nil (sumP e.sum)))

-- anything may follow
pub codes_anything : {E : Type 0} → Codes {E = E} any (give (tt {0})) (λ u. []) (λ u. Unit {0})
codes_anything = same (codes_give tt) (λ u g. tt) (λ u g. refl) (λ u g. refl)

-- and its sum
pub codes_event : {E : Type 0} {Rest : List E → Type 0} {parts : Parser E Event} {print : Event → List E} (n : ℕ)
    → Codes Rest parts print ValidParts → Codes Rest (lastly summed n parts) print Formed
codes_event n c = same (codes_lastly summed n c) (λ e g. record { regions = g.0.0; word = g.0.1; sum = g.1 }) (λ e g. ((g.regions, g.word), g.sum)) (λ e g. refl)

pub ends_parts : {E : Type 0} (m : ℕ) (regions : Parser E (List Region)) (sum_region : Parser E ℕ) → Ends ended (parts_of regions sum_region (finish m))
ends_parts m regions sum_region = ends_bind ended regions _ (λ gs. ends_bind ended sum_region _ (λ w. ends_map ended (finish m) _ (ends_finish m)))

pub ends_event : {E : Type 0} (n m : ℕ) (regions : Parser E (List Region)) (sum_region : Parser E ℕ) → Ends ended (lastly summed n (parts_of regions sum_region (finish m)))
ends_event n m regions sum_region = ends_lastly ended summed n (parts_of regions sum_region (finish m)) (ends_parts m regions sum_region)

-- what it refuses, beside its parts: by m what follows, by n a sum at its own place
pub keeps_event : {E : Type 0} {number : ℕ → Bool} {end : ℕ} {past : ℕ → ℕ} {regions : Parser E (List Region)} {sum_region : Parser E ℕ} {s : List E}
    (n m : ℕ) → T (number n) → T (number m)
    → (1 ≤ length s → 1 ≤ end) → Keeps number end past s regions (λ r. length r ≤ length s) → ((r : List E) → Keeps number end past r sum_region (λ t. length t < length r))
    → Keeps number end past s (lastly summed n (parts_of regions sum_region (finish m))) (λ r. length r ≡ 0)
keeps_event n m t u some c d = keeps_lastly summed n t (keeps_bind c λ gs r l. keeps_bind (d r) λ w r₁ l₁. keeps_map _ (keeps_left (keeps_finish m u) (λ r₂ z. (some (omega arith), z))))
