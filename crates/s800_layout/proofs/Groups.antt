-- A group of samples: a head, then data words up to a stop, over words or rows; and that it has at most four data words.
-- Assumes nothing.
use Prim.Native.Nat.{ℕ, suc, ◌+◌, ◌≤◌}
use native.Mathlib.Omega.{arith}
use mathlib.Core.Path.{◌≡◌, refl, ap, ◌∙◌}
use mathlib.Core.Bool.{Bool, true, false}
use mathlib.Core.List.{List, [], ◌∷◌, append-nil, map}
use lib.Dec.{T, ltb→lt, leb→le}
use lib.ListN.{length}
use Rattle.event.specs.Parser.{Parser, Passed, Goods, ◌>>=◌, many}
use Rattle.event.proofs.Codes.{Codes, any, At, same, less}
use Rattle.event.proofs.Sequences.{codes_bind, codes_bind_at}
use Rattle.event.proofs.Many.{codes_many}
use Rattle.event.proofs.Elements.{prints_map}
use Rattle.s800_layout.specs.Event.{SampleHead, SampleDatum, Group}
use Rattle.s800_layout.specs.Layout.{sample_head_checks, above, ValidSampleDatum, has_data, ValidGroup}

-- `last` refuses a group without data words, at its own place and by its own number
module _ {E : Type 0} {head : Parser E SampleHead} {datum : SampleHead → ℕ → Parser E SampleDatum} {last : Group → Parser E Group}
    (printHead : SampleHead → E) (printDatum : SampleHead → SampleDatum → E) (stop : List E → Bool)
    (c-head : Codes any head (λ h. printHead h ∷ []) (λ h. Passed (sample_head_checks 0 h)))
    (c-datum : (h : SampleHead) → Passed (sample_head_checks 0 h) → (least : ℕ) → Codes any (datum h least) (λ d. printDatum h d ∷ []) (ValidSampleDatum least))
    (c-last : (g : Group) → Codes any (last g) (λ x. []) (λ x. (x ≡ g) × T (has_data g)))
    (on : (h : SampleHead) (least : ℕ) (d : SampleDatum) → ValidSampleDatum least d → (r : List E) → stop (printDatum h d ∷ r) ≡ false) (halt : stop [] ≡ true) where
  pub codes_grouped : Codes (At stop) (head >>= λ h. many (datum h) above stop 0 >>= λ xs. last (record { head = h; energies = xs }))
      (λ g. printHead g.head ∷ map (printDatum g.head) g.energies) ValidGroup
  codes_grouped = same
      (codes_bind (λ x. x.head) c-head (λ h p.
      codes_bind_at (λ x. x.energies) (codes_many above (c-datum h p) stop (on h) halt 0) (λ xs g. less (c-last (record { head = h; energies = xs })) (λ r t. tt))
      (λ xs x g. ap (λ (y : Group). y.energies) g.0) (λ x g r t. t))
      (λ h x g. ap (λ (y : Group). y.head) g.1.0))
      (λ x g. (g.0, g.1.0, g.1.1.1)) (λ x g. (g.0, (g.1, (refl, g.2))))
      (λ x g. ap (printHead x.head ∷◌) (append-nil _ ∙ prints_map (printDatum x.head) above 0 x.energies))

-- the connectors rise and are below 4
rising : (least : ℕ) (xs : List SampleDatum) → least ≤ 4 → Goods ValidSampleDatum above least xs → length xs + least ≤ 4
rising least [] l g = omega arith
rising least (d ∷ xs) l g =
    let small = ltb→lt d.connector 4 g.0.0 in
    omega (arith, rising (suc d.connector) xs (omega arith) g.1, leb→le least d.connector g.0.1.1.0)

pub at_most_four : (g : Group) → ValidGroup g → length g.energies ≤ 4
at_most_four g v = omega (arith, rising 0 g.energies (omega arith) v.1)
