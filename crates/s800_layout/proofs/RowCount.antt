-- An event has no more rows than words. The layout alone shows it: no rule is needed.
-- Assumes nothing.
use Prim.Native.Nat.{◌≤◌}
use native.Mathlib.Omega.{arith}
use mathlib.Core.Path.{◌≡◌, refl}
use mathlib.Core.List.{List, [], ◌∷◌}
use lib.ListN.{length, length-append, length-map}
use Rattle.event.specs.declared.StampOrder.{StampOrder}
use Rattle.event.specs.Parser.{each}
use Rattle.s800_layout.specs.Event.{Pair, energies, hits, Form, trigger, time_of_flight, scintillator, ion_chamber, crdc, hodoscope, object_pin, vme_adc, opaque, Content, Run}
use Rattle.s800_layout.specs.Event.{end, plain, Event, Group}
use Rattle.s800_layout.specs.Layout.{pair_words, content_words, run_words, words, pair_rows, content_rows, run_rows, rows, group_words, group_rows}

pub pair_count : (xs : List Pair) → length (each pair_rows xs) ≡ length (each pair_words xs)
pair_count [] = refl
pair_count (x ∷ xs) = omega (arith, pair_count xs)

pub group_count : (xs : List Group) → length (each group_rows xs) ≡ length (each group_words xs)
group_count [] = refl
group_count (x ∷ xs) = simp (length-append, length-map) (omega (arith, group_count xs))

in_content : (f : Form) (c : Content f) → length (content_rows f c) ≤ length (content_words f c)
in_content trigger c = simp length-map (omega arith)
in_content time_of_flight xs = simp length-map (omega arith)
in_content scintillator xs = omega (arith, pair_count xs)
in_content ion_chamber xs = simp length-map (omega arith)
in_content crdc c = simp length-append (omega (arith, group_count c.samples.groups))
in_content hodoscope (energies id xs) = simp length-map (omega arith)
in_content hodoscope (hits h) = omega arith
in_content object_pin d = omega arith
in_content vme_adc c = simp length-map (omega arith)
in_content (opaque k) ws = simp length-map (omega arith)

in_run : (r : Run) → length (run_rows r) ≤ length (run_words r)
in_run end = omega arith
in_run (plain q r) = simp length-append (omega (arith, in_content q.form q.content, in_run r))

pub no_more_rows : (o : StampOrder) (e : Event) → length (rows o e) ≤ length (words e)
no_more_rows o e = omega (arith, in_run e.run)
