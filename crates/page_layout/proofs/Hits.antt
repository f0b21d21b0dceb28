-- Every hit of an acceptable event is of a pad on the plane.
-- Assumes nothing.
use Prim.Native.Nat.{ℕ, ◌^◌, ◌<◌}
use native.Mathlib.Omega.{arith}
use mathlib.Core.Path.{◌≡◌, refl, subst}
use mathlib.Core.Bool.{Bool, true, false}
use mathlib.Core.List.{List, [], ◌∷◌, ◌++◌, map}
use lib.Dec.{T, ltb}
use borrow.Author.Tests.{ltb-true}
use Rattle.event.specs.declared.Row.{Row}
use Rattle.event.specs.declared.StampOrder.{StampOrder}
use Rattle.event.specs.Parser.{Passed, Goods, All, each}
use Rattle.event.specs.Outcome.{Outcome, done, refused, given, default_order}
use Rattle.event.proofs.Width.{all_append}
use Rattle.s800_layout.specs.Event.{Pair, SampleHead, SampleDatum, Group, energies, hits, Form, trigger, time_of_flight, scintillator, ion_chamber, crdc}
use Rattle.s800_layout.specs.Event.{hodoscope, object_pin, vme_adc, opaque, Content, Run, end, plain}
use Rattle.s800_layout.specs.Layout.{datum_row, pair_rows, sample_head_checks, sample_datum_row, above, ValidSampleDatum, ValidGroup, group_rows, anode_row, content_rows, run_rows}
use Rattle.s800_layout.specs.Layout.{ValidContent, ValidRun}
use Rattle.s800_layout.specs.Reading.{reading}
use Rattle.s800_layout.proofs.Reading.{reading_iff}
use Rattle.page_layout.specs.Plane.{is_hit, rows_of, OnPlane}

abbrev Hit : Row → Type 0
Hit r = T (is_hit r) → r.channel < 256

pub on_rows : (rs ss : List Row) → OnPlane rs → OnPlane ss → OnPlane (rs ++ ss)
on_rows = all_append Hit

-- rows that are no hits
module _ {A : Type 0} (f : A → Row) (none : (a : A) → Hit (f a)) where
  mapped : (xs : List A) → OnPlane (map f xs)
  mapped [] = tt
  mapped (x ∷ xs) = (none x, mapped xs)

in_pairs : (xs : List Pair) → OnPlane (each pair_rows xs)
in_pairs [] = tt
in_pairs (x ∷ xs) = (λ t. absurd t, (λ t. absurd t, in_pairs xs))

below : (a b : ℕ) → T (ltb a b) → a < b
below a b t = go (ltb a b) refl t
  where
    go : (x : Bool) → ltb a b ≡ x → T x → a < b
    go true e t = ltb-true a b e
    go false e t = absurd t

-- the data words of a group, of a channel below 64 and connectors below 4
in_data : (h : SampleHead) → Passed (sample_head_checks 0 h) → (least : ℕ) (xs : List SampleDatum) → Goods ValidSampleDatum above least xs
    → OnPlane (map (sample_datum_row h) xs)
in_data h v least [] g = tt
in_data h v least (d ∷ xs) g =
    (λ t. omega (arith, below h.channel (2 ^ 6) v.1.0, below d.connector (2 ^ 2) g.0.0), in_data h v (above least d) xs g.1)

in_groups : (gs : List Group) → All ValidGroup gs → OnPlane (each group_rows gs)
in_groups [] v = tt
in_groups (g ∷ gs) v = (
  λ t. absurd t,
  on_rows (map (sample_datum_row g.head) g.energies) (each group_rows gs) (in_data g.head v.0.0 0 g.energies v.0.1) (in_groups gs v.1),
)

in_content : (f : Form) (c : Content f) → ValidContent f c → OnPlane (content_rows f c)
in_content trigger c v = (λ t. absurd t, mapped (datum_row 5 0) (λ d t. absurd t) c.times)
in_content time_of_flight xs v = mapped (datum_row 5 0) (λ d t. absurd t) xs
in_content scintillator xs v = in_pairs xs
in_content ion_chamber xs v = mapped (datum_row 6 0) (λ d t. absurd t) xs
in_content crdc c v = (λ t. absurd t, on_rows (each group_rows c.samples.groups) (anode_row c.anode ∷ []) (in_groups c.samples.groups v.2) (λ t. absurd t, tt))
in_content hodoscope (energies id xs) v = mapped _ (λ d t. absurd t) xs
in_content hodoscope (hits h) v = (λ t. absurd t, tt)
in_content object_pin d v = (λ t. absurd t, tt)
in_content vme_adc c v = mapped _ (λ d t. absurd t) c.energies
in_content (opaque k) ws v = mapped _ (λ d t. absurd t) ws

in_run : (r : Run) → ValidRun r → OnPlane (run_rows r)
in_run end v = tt
in_run (plain q r) v = (λ t. absurd t, on_rows (content_rows q.form q.content) (run_rows r) (in_content q.form q.content v.0) (in_run r v.1))

in_event : (o : StampOrder) (ws : List ℕ) (rs : List Row) → reading o ws ≡ done rs → OnPlane rs
in_event o ws rs e =
    let v = (reading_iff o ws rs).0 e in
    subst OnPlane v.its_rows (λ t. absurd t, (λ t. absurd t, (λ t. absurd t, (λ t. absurd t, in_run v.event.run v.valid.formed.run))))

pub rows_on_plane : (ws : List ℕ) → OnPlane (rows_of ws)
unfolding rows_of
rows_on_plane ws = go (reading default_order ws) refl
  where
    go : (x : Outcome Row) → reading default_order ws ≡ x → OnPlane (given x)
    go (done rs) e = in_event default_order ws rs e
    go (refused n k) e = tt
