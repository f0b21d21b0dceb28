-- An event has no more rows than words. The layout alone shows it: no rule is needed.
-- Assumes nothing.
use Prim.Native.Nat.{◌≤◌}
use native.Mathlib.Omega.{arith}
use mathlib.Core.Path.{refl}
use mathlib.Core.List.{[], ◌∷◌}
use lib.ListN.{length, length-append, length-map}
use Rattle.event.proofs.Elements.{prints_length, each_length, each_shorter}
use Rattle.rcnp_layout.specs.Event.{Form, input_register, scaler, vdc, opaque, Content, Event}
use Rattle.rcnp_layout.specs.Layout.{scaler_words, content_words, region_words, words, scaler_row, next_index, content_rows, region_rows, rows}

pub in_content : (f : Form) (c : Content f) → length (content_rows f c) ≤ length (content_words f c)
in_content input_register w = omega arith
in_content scaler vs = omega (arith, prints_length (λ i v. scaler_row i v ∷ []) next_index 1 (λ i v. refl) 0 vs, each_length scaler_words 2 (λ v. refl) vs)
in_content vdc xs = simp length-map (omega arith)
in_content (opaque k) ws = simp length-map (omega arith)

pub no_more_rows : (e : Event) → length (rows e) ≤ length (words e)
no_more_rows e = simp length-append (omega (arith, each_shorter region_rows region_words (λ g. omega (arith, in_content g.form g.content)) e.regions))
